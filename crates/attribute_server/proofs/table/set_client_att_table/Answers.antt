-- `attribute_server::table::set_client_att_table` meets its contract. A refusal leaves the tables; a valid state's slot
-- can be written. Assumes nothing.
use Rattle.std.proofs.lemmas.Result.{err_from_is_err_and}
use Rattle.admission.proofs.Admitting.{admitted, told_no, told_yes, left_no, left_yes}
use Rattle.attribute_server.proofs.Admitting.{slot_ready}
use mathlib.Core.Path.{sym, ap, ◌∙◌}
use mathlib.Core.List.{List}
use Prim.Native.Nat.{ℕ}
use Rattle.state.specs.State.{lent}
use Rattle.attribute_server.proofs.table.set_client_att_table.Goals as goal

pub returns-in_err-admit : goal.returns-in_err-admit
returns-in_err-admit c =
    let p = err_from_is_err_and c.from_residual.result c.from_residual.ensures.1 in
    let e = sym c.admit.ensures ∙ c.in_err-admit.was in
    rw (p.1, p.2) (told_no _ _ _ e, left_no _ _ _ _ e)

pub set_client_att_table-requires : goal.set_client_att_table-requires
set_client_att_table-requires c =
    rw c.first-slot.ensures.found
    (slot_ready _ c.args.who (admitted _ _ _ (sym c.admit.ensures ∙ c.in_ok-admit.was)).right)

pub returns : goal.returns
returns c =
    let a = c.args in
    let d = sym c.admit.ensures ∙ c.in_ok-admit.was in
    let e = rw c.first-slot.ensures.found at c.set_client_att_table.ensures in
    (e.0 ∙ told_yes _ _ d, ap (λ (ts : List (List ℕ)). lent a.list.now a.store.now a.row.now ts) e.1 ∙ left_yes _ _ _ d)
