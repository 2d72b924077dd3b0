-- Laws of responses: from what the cursor wrote to what is sent, and the range test. Assumes nothing.
use Rattle.std.specs.Prelude.{Result, Ok}
use mathlib.Core.Path.{◌≡◌, refl, ap, ◌∙◌}
use mathlib.Core.Bool.{Bool, true, false}
use mathlib.Core.List.{List, append-nil}
use Prim.Native.Nat.{ℕ, ◌-◌, ◌≤◌}
use native.Mathlib.Omega.{arith}
use lib.Dec.{eqb, ltb}
use lib.ListN.{length}
use lib.Seq.{sets, length-sets, sets-eq, take-append_seam}
use borrow.Author.Tests.{eq-eqb, ne_eqb, eqb-true, eqb-false, ltb-false}
use Rattle.wire.specs.Cursor.{Wrote}
use Rattle.wire.specs.declared.cursor.WriteCursor.{WriteCursor}
use Rattle.model.specs.Answer.{Sent, error_rsp, is_bad_range, in_range}
use Rattle.model.specs.Told.{Answered, front}
use Rattle.table_view.specs.Told.{Told, none, value}
use Rattle.model.specs.declared.Range.{Range}
use Rattle.model.specs.declared.Answer.TheVariants.{Nothing, Value}
use Rattle.model.specs.declared.Answer.{Answer}
use Rattle.model.specs.declared.CallError.{CallError}
use Rattle.wire.specs.declared.att.AttError.TheVariants.{InvalidHandle}

pub sent : (old new rsp : List ℕ) (c next : WriteCursor) → c.len ≡ 0 → Wrote old new c next rsp → Sent old new next.len rsp
sent old new rsp c next z w =
    record {
      size = ap (λ (x : WriteCursor). x.len) w.cursor ∙ (omega arith);
      fits = omega (arith, w.fits);
      bytes = rw z at w.bytes;
    }

pub sent_as : (old new r s : List ℕ) (n : ℕ) → Sent old new n r → r ≡ s → Sent old new n s
sent_as old new r s n h e = rw e at h

-- a response is an answer
front-sets : (old rsp : List ℕ) → length rsp ≤ length old → front (length rsp) (sets old 0 rsp) ≡ rsp
front-sets old rsp h =
    let l : length rsp - length (sets old 0 rsp) ≡ 0 = omega (arith, length-sets old 0 rsp) in
    rw (l, sets-eq rsp old 0 (omega arith)) (append-nil _ ∙ take-append_seam rsp _)

pub answered : (old new : List ℕ) (n : ℕ) (rsp : List ℕ) → Sent old new n rsp → Answered old new (Ok (Value n)) (value rsp)
answered old new n rsp s =
    record {
      told = rw (s.size, s.bytes) (ap value (front-sets old rsp s.fits));
      out = s.bytes;
      fits = s.fits;
    }

pub answered_as : (old new : List ℕ) (r : Result Answer CallError) (t u : Told) → Answered old new r t → t ≡ u → Answered old new r u
answered_as old new r t u h e = rw e at h

pub silent : (old : List ℕ) → Answered old old (Ok Nothing) none
silent old = record { told = refl; out = refl; fits = tt }

-- the range test
module _ (g : Range) where
  pub from_zero : g.start ≡ 0 → true ≡ is_bad_range g
  unfolding is_bad_range
  from_zero h = rw (eq-eqb _ _ h)

  pub not_zero : (g.start ≡ 0 → ⊥) → ltb g.end g.start ≡ is_bad_range g
  unfolding is_bad_range
  not_zero h = rw (ne_eqb _ _ h)

  pub bad_range : (rsp : List ℕ) → is_bad_range g ≡ true → error_rsp 0x08 g.start InvalidHandle ≡ in_range g rsp
  bad_range rsp h = rw h

  pub good_range : (rsp : List ℕ) → is_bad_range g ≡ false → rsp ≡ in_range g rsp
  good_range rsp h = rw h

-- a good range is not backwards
pub in_order : (g : Range) → is_bad_range g ≡ false → g.start ≤ g.end
in_order g h = by (eqb g.start 0) refl
  where
    by : (t : Bool) → eqb g.start 0 ≡ t → g.start ≤ g.end
    by true e =
        let q : ◌≡◌ {A = ℕ} 0 1 = cc (from_zero g (eqb-true _ _ e) ∙ h) in
        absurd (omega arith)
    by false e = ltb-false _ _ (not_zero g (eqb-false _ _ e) ∙ h)
