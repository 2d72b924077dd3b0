-- `attribute_server::request::slot_for` meets its contract. Assumes nothing.
use Rattle.requests.proofs.Given.{no_slot, own_slot}
use mathlib.Core.Path.{sym, ◌∙◌}
use Rattle.attribute_server.proofs.request.slot_for.Goals as goal

pub returns-then-not-needs_slot : goal.returns-then-not-needs_slot
returns-then-not-needs_slot c = no_slot _ _ (sym c.needs_slot.ensures ∙ c.if-not-needs_slot.true)

pub returns : goal.returns
returns c = c.first.ensures.found ∙ own_slot _ _ (sym c.needs_slot.ensures ∙ c.if-not-needs_slot.false)
