-- `attribute_server::value::set` meets its contract. A refusal leaves every byte; a valid state is ready for the call.
-- Assumes nothing.
use Rattle.std.proofs.lemmas.Result.{err_from_is_err_and}
use Rattle.peers.specs.Bytes.{row_of}
use Rattle.admission.proofs.Admitting.{admitted, told_no, told_yes, left_no, left_yes}
use Rattle.attribute_server.proofs.Admitting.{ready}
use mathlib.Core.Path.{sym, ◌∙◌}
use Rattle.attribute_server.proofs.value.set.Goals as goal

pub returns-in_err-admit : goal.returns-in_err-admit
returns-in_err-admit c =
    let p = err_from_is_err_and c.from_residual.result c.from_residual.ensures.1 in
    let e = sym c.admit.ensures ∙ c.in_err-admit.was in
    rw (p.1, p.2) (told_no _ _ _ e, left_no _ _ _ _ e)

pub set-requires : goal.set-requires
set-requires c =
    let d = sym c.admit.ensures ∙ c.in_ok-admit.was in
    rw c.first-slot.ensures.found (ready _ c.args.who (admitted _ _ _ d).right)

pub returns : goal.returns
returns c =
    let d = sym c.admit.ensures ∙ c.in_ok-admit.was in
    let e = rw c.first-slot.ensures.found at c.set.ensures in
    (e.0 ∙ told_yes _ _ d, e.1 (row_of c.args.row.now) ∙ left_yes _ _ _ d)
