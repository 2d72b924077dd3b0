-- `table_view::get` meets its contract. A law for each answer; `get_told_lem` says what an answer tells. Assumes nothing.
use Rattle.std.specs.Prelude.{Some}
use mathlib.Core.Path.{◌≡◌, sym, ap, ◌∙◌}
use mathlib.Core.Bool.{true}
use native.Mathlib.Omega.{arith}
use Rattle.table_view.specs.Lookup.{index_place}
use Rattle.std.proofs.lemmas.Result.{err_from_is_err_and}
use Rattle.table_view.specs.Read.{told_got}
use Rattle.table_view.specs.Rules.{accepts}
use Rattle.table_view.proofs.Answers.{read_ok, read_err, got_refused, got_nothing, got_value, get_told_lem}
use Rattle.table_view.proofs.Search.{placed}
use Rattle.table_view.proofs.Shape.{fits, entry_at}
use Rattle.table_view.proofs.get.Goals as goal
use Rattle.table_view.proofs.get.Goals.{In_ok-try_from_raw, In-Some}

ok : (c : In_ok-try_from_raw) → accepts c.args.table.now ≡ true
ok c = read_ok _ _ (sym (c.in_ok-try_from_raw.was) ∙ c.try_from_raw.ensures.0)

at : (c : In-Some) → index_place c.args.table.now c.args.key.0 ≡ Some c.in-Some.p
at c = sym c.find.ensures ∙ c.in-Some.is

pub returns-in_err-try_from_raw : goal.returns-in_err-try_from_raw
returns-in_err-try_from_raw c =
    let p = err_from_is_err_and c.from_residual.result c.from_residual.ensures.1 in
    let e = p.1 ∙ got_refused _ _ (read_err _ _ (sym c.in_err-try_from_raw.was ∙ c.try_from_raw.ensures.0)) in
    (e, ap (told_got c.args.table.now) e ∙ get_told_lem _ _)

pub find-requires : goal.find-requires
find-requires c = ok (goal.at.find-requires c).In_ok-try_from_raw

pub returns-in_default : goal.returns-in_default
returns-in_default c =
    let e = got_nothing _ _ (ok (goal.at.returns-in_default c).In_ok-try_from_raw) (sym c.find.ensures ∙ c.in_default.is) in
    (e, ap (told_got c.args.table.now) e ∙ get_told_lem _ _)

pub value_start-from-requires : goal.value_start-from-requires
value_start-from-requires c =
    let i = (placed _ _ _ (at (goal.at.value_start-from-requires c).In-Some)).inside in
    omega (arith, fits _ (ok (goal.at.value_start-from-requires c).In_ok-try_from_raw))

pub value_len-requires : goal.value_len-requires
value_len-requires c =
    let o = ok (goal.at.value_len-requires c).In_ok-try_from_raw in
    let i = (placed _ _ _ (at (goal.at.value_len-requires c).In-Some)).inside in
    let e = entry_at _ o _ i in
    record { t_in_bounds = omega (arith, fits _ o); p_in_bounds = omega (arith, fits _ o) }

pub returns : goal.returns
returns c =
    let e = got_value _ _ _ _ _ (ok (goal.at.returns c).In_ok-try_from_raw) (at (goal.at.returns c).In-Some) c.value_start-from.ensures.0 c.value_len.ensures.0 in
    (e, ap (told_got c.args.table.now) e ∙ get_told_lem _ _)
