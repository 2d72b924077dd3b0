-- `attribute_server::subscription::should` meets its contract. A refusal, or what the peer's own table says.
-- Assumes nothing.
use Rattle.std.proofs.lemmas.Result.{err_from_is_err_and}
use Rattle.admission.proofs.Admitting.{admitted, told_no, told_yes}
use Rattle.attribute_server.proofs.Admitting.{slot_ready}
use mathlib.Core.Path.{sym, ◌∙◌}
use Rattle.attribute_server.proofs.subscription.should.Goals as goal

pub returns-in_err-admit : goal.returns-in_err-admit
returns-in_err-admit c =
    let p = err_from_is_err_and c.from_residual.result c.from_residual.ensures.1 in
    rw (p.1, p.2) (told_no _ _ _ (sym c.admit.ensures ∙ c.in_err-admit.was))

pub is_subscribed-requires : goal.is_subscribed-requires
is_subscribed-requires c = (
  rw c.first-slot.ensures.found (slot_ready _ c.args.who (admitted _ _ _ (sym c.admit.ensures ∙ c.in_ok-admit.was)).right),
  c.bit.ensures.1,
)

pub returns-then-is_subscribed : goal.returns-then-is_subscribed
returns-then-is_subscribed c =
    rw (sym (rw (c.first-slot.ensures.found, c.bit.ensures.0) at c.is_subscribed.ensures) ∙ c.if-is_subscribed.true)
    (told_yes _ _ (sym c.admit.ensures ∙ c.in_ok-admit.was))

pub returns : goal.returns
returns c =
    rw (sym (rw (c.first-slot.ensures.found, c.bit.ensures.0) at c.is_subscribed.ensures) ∙ c.if-is_subscribed.false)
    (told_yes _ _ (sym c.admit.ensures ∙ c.in_ok-admit.was))
