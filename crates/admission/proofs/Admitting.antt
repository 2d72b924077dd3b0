-- What a call that is let in knows, and what a refused call tells and leaves. Assumes nothing.
use Rattle.std.specs.Prelude.{Result, Ok, Err}
use mathlib.Core.Path.{◌≡◌, refl}
use mathlib.Core.Bool.{Bool, true, false, cond}
use mathlib.Core.List.{List, []}
use Prim.Native.Nat.{ℕ, ◌≤◌}
use lib.Dec.{ltb}
use borrow.Author.Tests.{ltb-false}
use Rattle.table_view.specs.Told.{Told}
use Rattle.model.specs.Told.{told_answer, Answered}
use Rattle.model.proofs.Sending.{answered_as}
use Rattle.model.specs.declared.Request.{Request}
use Rattle.admission.specs.Admission.{admission_by, told_if, left_if, is_too_long, is_bad_buffer, Admission}
use Rattle.model.specs.declared.Answer.{Answer}
use Rattle.model.specs.declared.CallError.TheVariants.{Att, BadBuffer, BadPeer, BadState, BadTable, NoHandle, NoSlot, WrongLength}
use Rattle.model.specs.declared.CallError.{CallError}

-- what a call that is let in knows
pub record Admitted (v b p : Bool) : Type 0 where
  pub right : v ≡ true
  pub buffer : b ≡ false
  pub peer : p ≡ false

absurdly : {A : Type 0} (e : CallError) → ◌≡◌ {A = Admission} (Err e) (Ok tt) → A
absurdly e q = absurd (cc)

pub admitted : (v b p : Bool) → admission_by v b p ≡ Ok tt → Admitted v b p
unfolding admission_by
admitted true true p e = absurdly BadBuffer e
admitted true false true e = absurdly BadPeer e
admitted true false false e = record { right = refl; buffer = refl; peer = refl }
admitted false b p e = absurdly BadState e

-- a refusal tells its number whatever the buffer holds, and leaves the buffer
pub refusal : (e : CallError) (out : List ℕ) → Answered out out (Err e) (told_answer [] (Err e))
refusal BadState out = record { told = refl; out = refl; fits = tt }
refusal BadBuffer out = record { told = refl; out = refl; fits = tt }
refusal BadPeer out = record { told = refl; out = refl; fits = tt }
refusal BadTable out = record { told = refl; out = refl; fits = tt }
refusal NoSlot out = record { told = refl; out = refl; fits = tt }
refusal NoHandle out = record { told = refl; out = refl; fits = tt }
refusal WrongLength out = record { told = refl; out = refl; fits = tt }
refusal (Att code) out = record { told = refl; out = refl; fits = tt }

module _ (d : Admission) where
  pub told_no : (e : CallError) (t : Told) → d ≡ Err e → told_answer [] (Err e) ≡ told_if d t
  told_no e t q = rw q

  pub told_yes : (t : Told) → d ≡ Ok tt → t ≡ told_if d t
  told_yes t q = rw q

  pub left_no : {A : Type 0} (e : CallError) (old new : A) → d ≡ Err e → old ≡ left_if d old new
  left_no e old new q = rw q

  pub left_yes : {A : Type 0} (old new : A) → d ≡ Ok tt → new ≡ left_if d old new
  left_yes old new q = rw q

  pub no_answer : (e : CallError) (out : List ℕ) (t : Told) → d ≡ Err e → Answered out out (Err e) (told_if d t)
  no_answer e out t q = answered_as out out (Err e) _ _ (refusal e out) (told_no e t q)

  pub yes_answer : (old new : List ℕ) (r : Result Answer CallError) (t : Told) → d ≡ Ok tt → Answered old new r t → Answered old new r (told_if d t)
  yes_answer old new r t q w = answered_as old new r t _ w (told_yes t q)

-- the buffer
module _ (rq : Request) (n room : ℕ) where
  picked : (a b c : Bool) → cond a true (cond b true c) ≡ false → (a ≡ false) × (c ≡ false)
  picked true b c e = absurd (cc)
  picked false true c e = absurd (cc)
  picked false false c e = (refl, e)

  pub room_enough : is_bad_buffer rq n room ≡ false → 23 ≤ room
  unfolding is_bad_buffer
  room_enough e = ltb-false _ _ (picked (ltb room 23) (ltb 517 room) (is_too_long rq n room) e).0

  pub not_too_long : is_bad_buffer rq n room ≡ false → is_too_long rq n room ≡ false
  unfolding is_bad_buffer
  not_too_long e = (picked (ltb room 23) (ltb 517 room) (is_too_long rq n room) e).1
