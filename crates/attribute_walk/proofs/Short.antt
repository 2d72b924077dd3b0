-- A record's short UUID: its two bytes decide; and which are a service's. Assumes nothing.
use Prim.Native.Nat.{ℕ, ◌≤◌, ◌<◌}
use native.Mathlib.Omega.{arith}
use mathlib.Core.Path.{◌≡◌, refl, sym, ◌∙◌}
use mathlib.Core.Bool.{Bool, true, false}
use mathlib.Core.List.{List, [], ◌∷◌}
use mathlib.Core.Logic.{⊎_elim}
use lib.ListN.{length, get_or, take, drop, length-take, length-drop}
use lib.Seq.{get_or-take, get_or-drop}
use lib.Dec.{eqb}
use borrow.Author.Tests.{eq-eqb, ne_eqb, eqb-true, eqb-false}
use Rattle.wire.specs.Size.{record_bytes}
use Rattle.wire.specs.Test.{both}
use Rattle.wire.specs.Bytes.{alike}
use Rattle.wire.specs.Uuid.{same_uuid}
use Rattle.wire.proofs.Tests.{both_false_l, split}
use Rattle.wire.proofs.Widening.{two, one_length}
use Rattle.attribute.specs.Record.{uuid_of, entry_of}
use Rattle.attribute.specs.Lookup.{is_service}
use Rattle.attribute.proofs.Entries.{primary, not_primary}

module _ (r w : List ℕ) (lr : length r ≡ record_bytes) (s : get_or r 11 0 ≡ 2) where
  pub short : length (uuid_of r) ≡ 2
  unfolding uuid_of
  short = rw s (simp (length-take, length-drop) (omega arith))

  byte : (j : ℕ) → get_or (uuid_of r) j 0 ≡ get_or (take 2 (drop 12 r)) j 0
  unfolding uuid_of
  byte j = rw s refl

  pub first : get_or (uuid_of r) 0 0 ≡ get_or r 12 0
  first = byte 0 ∙ get_or-take 2 (drop 12 r) 0 0 (omega arith) ∙ get_or-drop 12 r 0 0

  pub second : get_or (uuid_of r) 1 0 ≡ get_or r 13 0
  second = byte 1 ∙ get_or-take 2 (drop 12 r) 1 0 (omega arith) ∙ get_or-drop 12 r 1 0

  pairs : (a b c d : ℕ) → alike (a ∷ b ∷ []) (c ∷ d ∷ []) ≡ both (eqb a c) (eqb b d)
  unfolding alike both
  pairs a b c d = by (eqb a c) (eqb b d)
    where
      by : (x y : Bool) → both x (both y true) ≡ both x y
      by true true = refl
      by true false = refl
      by false y = refl

  by_bytes : (lw : length w ≡ 2) → both (eqb (get_or r 12 0) (get_or w 0 0)) (eqb (get_or r 13 0) (get_or w 1 0)) ≡ same_uuid (uuid_of r) w
  by_bytes lw =
      sym (pairs (get_or r 12 0) (get_or r 13 0) (get_or w 0 0) (get_or w 1 0))
      ∙ rw (← first, ← second, ← two (uuid_of r) short, ← two w lw) (one_length (uuid_of r) w (short ∙ sym lw))

  pub other_first : length w ≡ 2 → (get_or r 12 0 ≡ get_or w 0 0 → ⊥) → false ≡ same_uuid (uuid_of r) w
  other_first lw h = sym (both_false_l _ _ (ne_eqb (get_or r 12 0) (get_or w 0 0) h)) ∙ by_bytes lw

  pub by_second : length w ≡ 2 → get_or r 12 0 ≡ get_or w 0 0 → eqb (get_or r 13 0) (get_or w 1 0) ≡ same_uuid (uuid_of r) w
  unfolding both
  by_second lw e = rw (eq-eqb (get_or r 12 0) (get_or w 0 0) e) at by_bytes lw

-- a service's short UUID is 0x2800 or 0x2801
module _ (r : List ℕ) (lr : length r ≡ record_bytes) (s : get_or r 11 0 ≡ 2) where
  abbrev one : List ℕ
  one = 0x00 ∷ 0x28 ∷ []

  abbrev other : List ℕ
  other = 0x01 ∷ 0x28 ∷ []

  pub no_service : 1 < get_or r 12 0 → false ≡ is_service (entry_of r)
  no_service h = other_first r other lr s refl (λ q. omega arith) ∙ not_primary r (sym (other_first r one lr s refl (λ q. omega arith)))

  pub service_by : get_or r 12 0 ≤ 1 → eqb (get_or r 13 0) 0x28 ≡ is_service (entry_of r)
  service_by h = by (eqb (get_or r 12 0) 0) refl
    where
      by_one : (z : get_or r 12 0 ≡ 0) (x : Bool) → x ≡ same_uuid (uuid_of r) one → x ≡ is_service (entry_of r)
      by_one z true e = primary r (sym e)
      by_one z false e = other_first r other lr s refl (λ q. omega arith) ∙ not_primary r (sym e)

      by : (t : Bool) → eqb (get_or r 12 0) 0 ≡ t → eqb (get_or r 13 0) 0x28 ≡ is_service (entry_of r)
      by true e =
          let z = eqb-true (get_or r 12 0) 0 e in
          by_one z _ (by_second r one lr s refl z)
      by false e =
          let z = eqb-false (get_or r 12 0) 0 e in
          let y : get_or r 12 0 ≡ 1 = ⊎_elim (λ (q : get_or r 12 0 < 1). absurd (z (omega arith))) (λ (q : 1 ≤ get_or r 12 0). omega arith) (split (get_or r 12 0) 1) in
          by_second r other lr s refl y ∙ not_primary r (sym (other_first r one lr s refl z))
