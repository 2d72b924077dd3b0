-- An answer can be read off what it tells, so that two answers that tell the same are the same. Assumes nothing.
use Rattle.std.specs.Prelude.{Result, Ok, Err}
use mathlib.Core.Path.{◌≡◌, refl, sym, ap, ◌∙◌}
use mathlib.Core.Bool.{cond}
use mathlib.Core.List.{List}
use Prim.Native.Nat.{ℕ, ◌-◌}
use native.Mathlib.Omega.{arith}
use lib.Dec.{eqb}
use lib.ListN.{length, take, replicate, length-append, length-take, length-replicate}
use Rattle.wire.specs.declared.att.AttError.{AttError}
use Rattle.wire.proofs.Codes.{error_of, error_code}
use Rattle.table_view.specs.Told.{Told, done, none, value, refused, att}
use Rattle.model.specs.Told.{front, told_answer, Answered}
use Rattle.model.specs.declared.Answer.TheVariants.{Done, Nothing, Value}
use Rattle.model.specs.declared.Answer.{Answer}
use Rattle.model.specs.declared.CallError.TheVariants.{Att, BadBuffer, BadPeer, BadState, BadTable, NoHandle, NoSlot, WrongLength}
use Rattle.model.specs.declared.CallError.{CallError}

-- the number of a refusal names it
abbrev by_number : ℕ → Result Answer CallError
by_number n =
    cond (eqb n 1) (Err BadState)
    (cond (eqb n 2) (Err BadBuffer)
    (cond (eqb n 3) (Err BadPeer) (cond (eqb n 4) (Err BadTable) (cond (eqb n 7) (Err NoSlot) (cond (eqb n 8) (Err NoHandle) (Err WrongLength))))))

abbrev answer_of : Told → Result Answer CallError
answer_of (refused n) = by_number n
answer_of (att c) = Err (Att (error_of c))
answer_of done = Ok Done
answer_of none = Ok Nothing
answer_of (value v) = Ok (Value (length v))

pub front_length : (n : ℕ) (out : List ℕ) → length (front n out) ≡ n
front_length n out =
    length-append (take n out) (replicate (n - length out) 0)
    ∙ (omega (arith, length-take n out, length-replicate {A = ℕ} (n - length out) 0))

read_off : (out : List ℕ) (a : Result Answer CallError) → answer_of (told_answer out a) ≡ a
read_off out (Err BadState) = refl
read_off out (Err BadBuffer) = refl
read_off out (Err BadPeer) = refl
read_off out (Err BadTable) = refl
read_off out (Err NoSlot) = refl
read_off out (Err NoHandle) = refl
read_off out (Err WrongLength) = refl
read_off out (Err (Att c)) = ap (λ (e : AttError). Err (Att e)) (error_code c)
read_off out (Ok Done) = refl
read_off out (Ok Nothing) = refl
read_off out (Ok (Value n)) = ap (λ (k : ℕ). Ok (Value k)) (front_length n out)

pub one_answer : (out : List ℕ) (a b : Result Answer CallError) → told_answer out a ≡ told_answer out b → a ≡ b
one_answer out a b e = sym (read_off out a) ∙ ap answer_of e ∙ read_off out b

-- two answers with their buffers that tell the same, from one buffer
pub record Same (new new' : List ℕ) (r r' : Result Answer CallError) : Type 0 where
  pub out : new ≡ new'
  pub answer : r ≡ r'

pub one_answered : (old new new' : List ℕ) (r r' : Result Answer CallError) (t : Told) → Answered old new r t → Answered old new' r' t → Same new new' r r'
one_answered old new new' r r' t a b =
    let o : new ≡ new' = a.out ∙ sym b.out in
    record { out = o; answer = one_answer new r r' (a.told ∙ sym b.told ∙ ap (λ (l : List ℕ). told_answer l r') (sym o)) }
