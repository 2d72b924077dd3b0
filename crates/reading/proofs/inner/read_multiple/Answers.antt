-- `reading::inner::read_multiple` meets its contract. With a handle and without: a law for each. Assumes nothing.
use mathlib.Core.Path.{ap, ◌∙◌}
use Prim.Native.Nat.{ℕ}
use Rattle.model.specs.Answer.{error_rsp}
use Rattle.model.proofs.Sending.{sent_as}
use Rattle.reading.proofs.Ways.{no_handle, a_handle}
use Rattle.wire.specs.declared.att.AttError.TheVariants.{AttributeNotFound}
use Rattle.reading.proofs.inner.read_multiple.Goals as goal

pub returns-then-handles-lt2 : goal.returns-then-handles-lt2
returns-then-handles-lt2 c =
    sent_as _ _ _ _ _ c.error_response.ensures (no_handle _ c.if-handles-lt2.true)

pub returns : goal.returns
returns c =
    sent_as _ _ _ _ _ c.error_response-2.ensures
    (ap (λ (h : ℕ). error_rsp 0x0E h AttributeNotFound) c.get-first.ensures ∙ a_handle _ c.if-handles-lt2.false)
