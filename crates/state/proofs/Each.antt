-- The test of all slots is the test of each; and a change at one place asks for that slot's test alone. Assumes
-- nothing.
use mathlib.Core.Path.{◌≡◌, refl, ap}
use mathlib.Core.Bool.{Bool, true, false}
use mathlib.Core.List.{List, [], ◌∷◌}
use Prim.Native.Nat.{ℕ, zero, suc, ◌<◌}
use native.Mathlib.Omega.{arith}
use lib.ListN.{length, get_or}
use lib.Dec.{eqb}
use borrow.Author.Tests.{eqb-true, eqb-false}
use Rattle.wire.proofs.Tests.{both_l, both_r, both_true}
use Rattle.peers.specs.Slots.{no_slot}
use Rattle.peers.specs.declared.Slot.{Slot}
use Rattle.peers.proofs.Changes.{OnlyAt}
use Rattle.state.specs.Valid.{slot_ok, slots_ok}

module _ (fresh : List ℕ) where
  pub slots_count : (row : List Slot) (ts : List (List ℕ)) → slots_ok fresh row ts ≡ true → length row ≡ length ts
  unfolding slots_ok
  slots_count [] [] h = refl
  slots_count [] (t ∷ ts) h = let z : ◌≡◌ {A = ℕ} 0 1 = cc in absurd (omega arith)
  slots_count (s ∷ ss) [] h = let z : ◌≡◌ {A = ℕ} 0 1 = cc in absurd (omega arith)
  slots_count (s ∷ ss) (t ∷ ts) h = ap suc (slots_count ss ts (both_r _ _ h))

  pub slot_at : (row : List Slot) (ts : List (List ℕ)) → slots_ok fresh row ts ≡ true → (i : ℕ) → i < length row → slot_ok fresh (get_or row i no_slot) (get_or ts i []) ≡ true
  unfolding slots_ok
  slot_at [] ts h i l = absurd (omega arith)
  slot_at (s ∷ ss) [] h i l = let z : ◌≡◌ {A = ℕ} 0 1 = cc in absurd (omega arith)
  slot_at (s ∷ ss) (t ∷ ts) h zero l = both_l _ _ h
  slot_at (s ∷ ss) (t ∷ ts) h (suc i) l = slot_at ss ts (both_r _ _ h) i (omega arith)

  pub slots_by : (row : List Slot) (ts : List (List ℕ)) → length row ≡ length ts → ((i : ℕ) → i < length row → slot_ok fresh (get_or row i no_slot) (get_or ts i []) ≡ true) → slots_ok fresh row ts ≡ true
  unfolding slots_ok
  slots_by [] [] e f = refl
  slots_by [] (t ∷ ts) e f = absurd (omega arith)
  slots_by (s ∷ ss) [] e f = absurd (omega arith)
  slots_by (s ∷ ss) (t ∷ ts) e f = both_true _ _ (f zero (omega arith)) (slots_by ss ts (omega arith) (λ i l. f (suc i) (omega arith)))

  pub slot_changed : (i : ℕ) (row row' : List Slot) (ts ts' : List (List ℕ)) → OnlyAt i row row' ts ts' → slots_ok fresh row ts ≡ true → slot_ok fresh (get_or row' i no_slot) (get_or ts' i []) ≡ true → slots_ok fresh row' ts' ≡ true
  slot_changed i row row' ts ts' o h here =
      slots_by row' ts' (omega (arith, o.slots, o.tables, slots_count row ts h)) (λ j l. by j l (eqb j i) refl)
    where
      by : (j : ℕ) → j < length row' → (t : Bool) → eqb j i ≡ t → slot_ok fresh (get_or row' j no_slot) (get_or ts' j []) ≡ true
      by j l true e = rw (eqb-true j i e) here
      by j l false e =
          let n = eqb-false j i e in
          rw (o.slot j n, o.table j n) (slot_at row ts h j (omega (arith, o.slots)))
