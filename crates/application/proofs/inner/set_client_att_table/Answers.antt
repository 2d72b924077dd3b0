-- `application::inner::set_client_att_table` meets its contract. By the saved table and the slot; one table is lent on.
-- Assumes nothing.
use Rattle.std.proofs.lemmas.Result.{err_from_is_err_and}
use mathlib.Core.Bool.{true}
use mathlib.Core.Path.{◌≡◌, sym, ◌∙◌}
use native.Mathlib.Omega.{arith}
use Rattle.table_view.specs.Rules.{accepts}
use Rattle.table_view.proofs.Answers.{read_ok, read_err}
use Rattle.storing.proofs.Tables.{slot_there, slot_accepts}
use Rattle.application.proofs.Peers.{bad_table, no_slot, values_taken}
use Rattle.application.proofs.inner.set_client_att_table.Goals as goal
use Rattle.application.proofs.inner.set_client_att_table.Goals.{In_ok-try_from_raw}

ok : (c : In_ok-try_from_raw) → accepts c.args.saved.now ≡ true
ok c = read_ok _ _ (sym c.in_ok-try_from_raw.was ∙ c.try_from_raw.ensures.0)

pub returns-in_err-try_from_raw : goal.returns-in_err-try_from_raw
returns-in_err-try_from_raw c =
    let p = err_from_is_err_and c.from_residual.result c.from_residual.ensures.1 in
    rw (p.1, p.2)
    (bad_table c.args.tables.now c.args.slot c.args.saved.now (read_err _ _ (sym c.in_err-try_from_raw.was ∙ c.try_from_raw.ensures.0)))

pub returns-in_default : goal.returns-in_default
returns-in_default c = no_slot _ _ c.args.saved.now (ok (goal.at.returns-in_default c).In_ok-try_from_raw) c.in_default.is

pub offset_bounds-tables-k : goal.offset_bounds-tables-k
offset_bounds-tables-k c = omega (arith, slot_there _ _ c.requires _ c.in-Some.is, c.requires.tables.eight)

pub bounds-tables-k : goal.bounds-tables-k
bounds-tables-k c = slot_there _ _ c.requires _ c.in-Some.is

pub set_values-requires : goal.set_values-requires
set_values-requires c = (slot_accepts _ _ c.requires _ c.in-Some.is, ok (goal.at.set_values-requires c).In_ok-try_from_raw)

pub returns : goal.returns
returns c =
    let s = c.in-Some.is in
    values_taken _ _ c.args.saved.now (ok (goal.at.returns c).In_ok-try_from_raw) _ s (slot_accepts _ _ c.requires _ s) _ c.set_values.ensures
