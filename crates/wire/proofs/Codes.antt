-- An ATT error can be read off its code, so that two errors of one code are the same. Assumes nothing.
use mathlib.Core.Path.{◌≡◌, refl, sym, ap, ◌∙◌}
use mathlib.Core.Bool.{cond}
use Prim.Native.Nat.{ℕ}
use lib.Dec.{eqb}
use Rattle.wire.specs.Att.{code_of}
use Rattle.wire.specs.declared.att.AttError.{AttError}
use Rattle.wire.specs.declared.att.AttError.TheVariants.{InvalidHandle, ReadNotPermitted, WriteNotPermitted, InvalidPdu, InsufficientAuthentication, InvalidOffset, PrepareQueueFull, AttributeNotFound, InvalidAttributeValueLength, InsufficientEncryption}

-- the error of a code
abbrev pub error_of : ℕ → AttError
error_of n =
    cond (eqb n 0x01) InvalidHandle
    (cond (eqb n 0x02) ReadNotPermitted
    (cond (eqb n 0x03) WriteNotPermitted
    (cond (eqb n 0x04) InvalidPdu
    (cond (eqb n 0x05) InsufficientAuthentication
    (cond (eqb n 0x07) InvalidOffset
    (cond (eqb n 0x09) PrepareQueueFull
    (cond (eqb n 0x0A) AttributeNotFound (cond (eqb n 0x0D) InvalidAttributeValueLength InsufficientEncryption))))))))

pub error_code : (e : AttError) → error_of (code_of e) ≡ e
error_code InvalidHandle = refl
error_code ReadNotPermitted = refl
error_code WriteNotPermitted = refl
error_code InvalidPdu = refl
error_code InsufficientAuthentication = refl
error_code InvalidOffset = refl
error_code PrepareQueueFull = refl
error_code AttributeNotFound = refl
error_code InvalidAttributeValueLength = refl
error_code InsufficientEncryption = refl

pub one_code : (a b : AttError) → code_of a ≡ code_of b → a ≡ b
one_code a b e = sym (error_code a) ∙ ap error_of e ∙ error_code b
