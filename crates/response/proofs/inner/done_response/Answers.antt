-- `response::inner::done_response` meets its contract. One byte, or the error. Assumes nothing.
use native.Mathlib.Omega.{arith}
use Rattle.model.proofs.Sending.{sent, sent_as}
use Rattle.response.proofs.Errors.{one_byte}
use Rattle.response.proofs.inner.done_response.Goals as goal

pub returns-in-Ok : goal.returns-in-Ok
returns-in-Ok g c =
    sent_as _ _ _ _ _ (sent _ _ _ _ _ c.new.ensures.0
    (one_byte _ _ _ _ _ c.new.ensures.0 (omega (arith, c.requires)) c.byte.ensures.0 c.byte.ensures.1))
    (rw c.in-Ok.is)

pub returns-in-Err : goal.returns-in-Err
returns-in-Err g c =
    sent_as _ _ _ _ _ c.error_response.ensures (rw c.in-Err.is)
