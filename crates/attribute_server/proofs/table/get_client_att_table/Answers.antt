-- `attribute_server::table::get_client_att_table` meets its contract. A refusal leaves the buffer; a valid state's slot
-- can be read. Assumes nothing.
use Rattle.std.proofs.lemmas.Result.{err_from_is_err_and}
use Rattle.admission.proofs.Admitting.{admitted, no_answer, yes_answer}
use Rattle.attribute_server.proofs.Admitting.{slot_ready}
use mathlib.Core.Path.{sym, ◌∙◌}
use borrow.Author.Rules.{rules}
use Rattle.attribute_server.proofs.table.get_client_att_table.Goals as goal

pub returns-in_err-admit : goal.returns-in_err-admit
returns-in_err-admit c =
    let p = err_from_is_err_and c.from_residual.result c.from_residual.ensures.1 in
    rw (p.1, p.2) (no_answer _ _ _ _ (sym c.admit.ensures ∙ c.in_err-admit.was))

pub get_client_att_table-requires : goal.get_client_att_table-requires
get_client_att_table-requires c = (
  rw c.first-slot.ensures.found (slot_ready _ c.args.who
      (admitted _ _ _ (sym c.admit.ensures ∙ c.in_ok-admit.was)).right),
  search rules,
)

pub returns : goal.returns
returns c =
    yes_answer _ _ _ _ _ (sym c.admit.ensures ∙ c.in_ok-admit.was)
    (rw c.first-slot.ensures.found at c.get_client_att_table.ensures)
