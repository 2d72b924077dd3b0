-- `table_view::raw` meets its contract: refused, or the part up to the values' end. Assumes nothing.
use mathlib.Core.Path.{◌≡◌, sym, ap, ◌∙◌}
use mathlib.Core.Bool.{true}
use Rattle.std.proofs.lemmas.Result.{err_from_is_err_and}
use Rattle.table_view.specs.Read.{told_raw}
use Rattle.table_view.specs.Rules.{accepts}
use Rattle.table_view.proofs.Answers.{read_ok, read_err, raw_refused, raw_value, raw_told_lem}
use Rattle.table_view.proofs.Shape.{long}
use Rattle.table_view.proofs.raw.Goals as goal
use Rattle.table_view.proofs.raw.Goals.{In_ok-try_from_raw}

ok : (c : In_ok-try_from_raw) → accepts c.args.table.now ≡ true
ok c = read_ok _ _ (sym (c.in_ok-try_from_raw.was) ∙ c.try_from_raw.ensures.0)

pub returns-in_err-try_from_raw : goal.returns-in_err-try_from_raw
returns-in_err-try_from_raw c =
    let p = err_from_is_err_and c.from_residual.result c.from_residual.ensures.1 in
    let e = p.1 ∙ raw_refused _ (read_err _ _ (sym c.in_err-try_from_raw.was ∙ c.try_from_raw.ensures.0)) in
    (e, ap (told_raw c.args.table.now) e ∙ raw_told_lem _)

pub values_end-to-requires : goal.values_end-to-requires
values_end-to-requires c = long _ (ok c)

pub returns : goal.returns
returns c =
    let e = raw_value _ _ (ok (goal.at.returns c).In_ok-try_from_raw) c.values_end-to.ensures.0 in
    (e, ap (told_raw c.args.table.now) e ∙ raw_told_lem _)
