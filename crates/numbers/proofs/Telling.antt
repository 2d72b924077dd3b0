-- The reply that an answer becomes is the one that what it tells becomes. Assumes nothing.
use Rattle.std.specs.Prelude.{Result, Ok, Err}
use mathlib.Core.Path.{◌≡◌, refl, sym, ap, ◌∙◌}
use mathlib.Core.List.{List, []}
use Prim.Native.Nat.{ℕ, ◌≤◌}
use native.Mathlib.Omega.{arith}
use Rattle.table_view.specs.Told.{Told, done, none, value, refused, att}
use Rattle.model.specs.Told.{told_answer, Fits}
use Rattle.model.proofs.Telling.{front_length}
use Rattle.numbers.specs.Reply.{as_reply, reply_to, reply_of}
use Rattle.numbers.specs.declared.Reply.{Reply}
use Rattle.model.specs.declared.Answer.TheVariants.{Done, Nothing, Value}
use Rattle.model.specs.declared.Answer.{Answer}
use Rattle.model.specs.declared.CallError.TheVariants.{Att, BadBuffer, BadPeer, BadState, BadTable, NoHandle, NoSlot, WrongLength}
use Rattle.model.specs.declared.CallError.{CallError}

pub told_reply : (out : List ℕ) (a : Result Answer CallError) → reply_of a ≡ reply_to (told_answer out a)
told_reply out (Err BadState) = refl
told_reply out (Err BadBuffer) = refl
told_reply out (Err BadPeer) = refl
told_reply out (Err BadTable) = refl
told_reply out (Err NoSlot) = refl
told_reply out (Err NoHandle) = refl
told_reply out (Err WrongLength) = refl
told_reply out (Err (Att c)) = refl
told_reply out (Ok Done) = refl
told_reply out (Ok Nothing) = refl
told_reply out (Ok (Value n)) = ap (as_reply 2 0) (sym (front_length n out))

-- an answer without a buffer
pub replied : (a : Result Answer CallError) (r : Reply) (t : Told) → told_answer [] a ≡ t → r ≡ reply_of a → r ≡ reply_to t
replied a r t e q = q ∙ told_reply [] a ∙ ap reply_to e

-- what fits a buffer is counted by a reply that does
pub reply_fits : (t : Told) (n : ℕ) → Fits t n → (reply_to t).len ≤ n
reply_fits done n h = omega arith
reply_fits none n h = omega arith
reply_fits (value v) n h = h
reply_fits (att c) n h = omega arith
reply_fits (refused k) n h = omega arith
