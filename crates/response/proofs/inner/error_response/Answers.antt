-- `response::inner::error_response` meets its contract. Four writes of the cursor, joined. Assumes nothing.
use mathlib.Core.Path.{ap}
use native.Mathlib.Omega.{arith}
use Rattle.model.specs.Answer.{error_bytes}
use Rattle.model.proofs.Sending.{sent_as}
use Rattle.response.proofs.Errors.{error}
use Rattle.response.proofs.inner.error_response.Goals as goal

pub returns : goal.returns
returns g c =
    sent_as _ _ _ _ _ (error _ _ _ _ _ _ _ _ _ _ _ _ _ (omega (arith, c.requires)) c.new.ensures.0 c.byte.ensures.0 c.byte.ensures.1 c.byte-2.ensures.0
    c.byte-2.ensures.1 c.word.ensures.0 c.word.ensures.1 c.byte-3.ensures.0 c.byte-3.ensures.1)
    (ap (error_bytes c.args.op c.args.handle) c.to_byte-code.ensures)
