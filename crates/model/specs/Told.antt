-- What an answer of the server tells, in document 01's numbers and values (document 01, "Refusals of a call"). Assumes
-- nothing.
use Rattle.std.specs.Prelude.{ℕ, ◌-◌, ◌≤◌, ◌≡◌, List, ◌++◌, length, take, replicate, Result, Ok, Err}
use Rattle.std.proofs.lemmas.List.Edits.{sets}
use Rattle.wire.specs.Att.{code_of}
use Rattle.table_view.specs.Told.{Told, done, none, value, refused, att}
use Rattle.model.specs.declared.Answer.TheVariants.{Done, Nothing, Value}
use Rattle.model.specs.declared.Answer.{Answer}
use Rattle.model.specs.declared.CallError.TheVariants.{BadState, BadBuffer, BadPeer, BadTable, NoSlot, NoHandle, WrongLength, Att}
use Rattle.model.specs.declared.CallError.{CallError}

-- as many bytes as are reported, from what stands in the buffer: a length above the buffer's is no excuse
abbrev pub front : ℕ → List ℕ → List ℕ
front n out = take n out ++ replicate (n - length out) 0

-- the number or value of each answer, with the buffer that it was given
abbrev pub told_answer : List ℕ → Result Answer CallError → Told
told_answer out (Err BadState) = refused 1
told_answer out (Err BadBuffer) = refused 2
told_answer out (Err BadPeer) = refused 3
told_answer out (Err BadTable) = refused 4
told_answer out (Err NoSlot) = refused 7
told_answer out (Err NoHandle) = refused 8
told_answer out (Err WrongLength) = refused 9
told_answer out (Err (Att e)) = att (code_of e)
told_answer out (Ok Done) = done
told_answer out (Ok Nothing) = none
told_answer out (Ok (Value n)) = value (front n out)

-- the buffer afterwards: what is told stands from its start on, and every byte past that stays as lent
abbrev pub laid_on : List ℕ → Told → List ℕ
laid_on out (value v) = sets out 0 v
laid_on out done = out
laid_on out none = out
laid_on out (refused n) = out
laid_on out (att c) = out

-- what is told fits a buffer of n bytes: no more bytes are told than can have been written
abbrev pub Fits : Told → ℕ → Type 0
Fits (value v) n = length v ≤ n
Fits done n = Unit {0}
Fits none n = Unit {0}
Fits (refused k) n = Unit {0}
Fits (att c) n = Unit {0}

pub record Answered (old new : List ℕ) (r : Result Answer CallError) (t : Told) : Type 0 where
  pub told : told_answer new r ≡ t
  pub out : new ≡ laid_on old t
  pub fits : Fits t (length old)
