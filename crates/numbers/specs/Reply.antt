-- What is told, as numbers: the one rule by which a refusal, silence, an ATT code and a count are told apart at the
-- boundary. Assumes nothing.
use Rattle.std.specs.Prelude.{ℕ, length, Result, Ok, Err}
use Rattle.wire.specs.Att.{code_of}
use Rattle.table_view.specs.Told.{Told, done, none, value, refused, att}
use Rattle.numbers.specs.declared.Reply.{Reply}
use Rattle.model.specs.declared.Answer.TheVariants.{Done, Nothing, Value}
use Rattle.model.specs.declared.Answer.{Answer}
use Rattle.model.specs.declared.CallError.TheVariants.{BadState, BadBuffer, BadPeer, BadTable, NoSlot, NoHandle, WrongLength, Att}
use Rattle.model.specs.declared.CallError.{CallError}

abbrev pub as_reply : ℕ → ℕ → ℕ → Reply
as_reply status code len = record { status = status; code = code; len = len }

-- 0 done, 1 nothing, 2 so many bytes, 3 an ATT code, 4 refused by a number
abbrev pub reply_to : Told → Reply
reply_to done = as_reply 0 0 0
reply_to none = as_reply 1 0 0
reply_to (value v) = as_reply 2 0 (length v)
reply_to (att c) = as_reply 3 c 0
reply_to (refused n) = as_reply 4 n 0

-- of an error
abbrev pub error_reply : CallError → Reply
error_reply BadState = as_reply 4 1 0
error_reply BadBuffer = as_reply 4 2 0
error_reply BadPeer = as_reply 4 3 0
error_reply BadTable = as_reply 4 4 0
error_reply NoSlot = as_reply 4 7 0
error_reply NoHandle = as_reply 4 8 0
error_reply WrongLength = as_reply 4 9 0
error_reply (Att e) = as_reply 3 (code_of e) 0

-- of an answer, whose bytes stand in the buffer
abbrev pub reply_of : Result Answer CallError → Reply
reply_of (Err e) = error_reply e
reply_of (Ok Done) = as_reply 0 0 0
reply_of (Ok Nothing) = as_reply 1 0 0
reply_of (Ok (Value n)) = as_reply 2 0 n
