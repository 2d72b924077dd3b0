-- The error codes of ATT that the server answers (Core Vol 3 Part F 3.4.1.1). Assumes nothing.
use Rattle.std.specs.Prelude.{ℕ}
use Rattle.wire.specs.declared.att.AttError.{AttError}
use Rattle.wire.specs.declared.att.AttError.TheVariants.{InvalidHandle, ReadNotPermitted, WriteNotPermitted, InvalidPdu, InsufficientAuthentication, InvalidOffset, PrepareQueueFull, AttributeNotFound, InvalidAttributeValueLength, InsufficientEncryption}

-- the code of each
abbrev pub code_of : AttError → ℕ
code_of InvalidHandle = 0x01
code_of ReadNotPermitted = 0x02
code_of WriteNotPermitted = 0x03
code_of InvalidPdu = 0x04
code_of InsufficientAuthentication = 0x05
code_of InvalidOffset = 0x07
code_of PrepareQueueFull = 0x09
code_of AttributeNotFound = 0x0A
code_of InvalidAttributeValueLength = 0x0D
code_of InsufficientEncryption = 0x0F
