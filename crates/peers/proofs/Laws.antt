-- Laws of identities and of the slots' tests, in the form in which a need asks them. Assumes nothing.
use Rattle.std.specs.Prelude.{Option, Some, None}
use mathlib.Core.Path.{◌≡◌, refl, sym, ap, ◌∙◌}
use mathlib.Core.Bool.{Bool, true, false, cond}
use mathlib.Core.Logic.{◌⊎◌, inl, inr}
use mathlib.Core.List.{List, map}
use Prim.Native.Nat.{ℕ, ◌+◌, ◌≤◌, ◌<◌}
use native.Mathlib.Omega.{arith}
use lib.ListN.{length, get_or, length-map, get_or-map}
use lib.Dec.{eqb}
use Rattle.wire.specs.Walk.{place_from}
use Rattle.wire.proofs.Walk.{Placed, placed, none_passes, hit, miss, none_left}
use Rattle.peers.specs.Identity.{same_id, is_empty}
use Rattle.peers.specs.Slots.{matches, wanted, seated_at, walk, slot_of, sought_seat, no_slot}
use Rattle.peers.specs.declared.Identity.{Identity}
use Rattle.peers.specs.declared.Slot.{Slot}
use Rattle.peers.specs.declared.Seat.{Seat}
use Rattle.peers.specs.declared.Want.{Want}
use Rattle.peers.specs.declared.Want.TheVariants.{Own, Usable, Free}

-- a slot found is the place that the plain walk found; and none is none
seat_place : (f : Option ℕ) (k : Seat) → seated_at f ≡ Some k → f ≡ Some k.0
unfolding seated_at
seat_place (Some i) k e = cc
seat_place None k e = let z : ◌≡◌ {A = ℕ} 0 1 = cc in absurd (omega arith)

no_seat : (f : Option ℕ) → seated_at f ≡ None → f ≡ None
unfolding seated_at
no_seat (Some i) e = let z : ◌≡◌ {A = ℕ} 0 1 = cc in absurd (omega arith)
no_seat None e = refl

-- a turn of the walk over a row, and its end
module _ (p : Slot → Bool) (row : List Slot) (i : ℕ) (d : Slot) where
  pub seat_hit : i < length row → p (get_or row i d) ≡ true → seated_at (place_from p row i) ≡ Some (record { 0 = i })
  unfolding seated_at
  seat_hit l h = ap seated_at (hit p d row i l h)

  pub seat_miss : i < length row → p (get_or row i d) ≡ false → seated_at (place_from p row i) ≡ seated_at (place_from p row (i + 1))
  seat_miss l h = ap seated_at (miss p d row i l h)

  pub seat_end : length row ≤ i → seated_at (place_from p row i) ≡ None
  unfolding seated_at
  seat_end l = ap seated_at (none_left p d row i l)

-- the same over a row whose elements are read as slots: the test is of the slot that one is read as
module _ {A : Type 0} (f : A → Slot) (p : Slot → Bool) (es : List A) (i : ℕ) where
  module _ {x : A} {s : Slot} {t : Bool} (l : i < length es) (here : x ≡ get_or es i x) (e : s ≡ f x) (q : t ≡ p s) where
    tested : {u : Bool} → t ≡ u → p (get_or (map f es) i (f x)) ≡ u
    tested h = ap p (get_or-map f es i x ∙ ap f (sym here) ∙ sym e) ∙ sym q ∙ h

    pub row_hit : t ≡ true → seated_at (place_from p (map f es) i) ≡ Some (record { 0 = i })
    row_hit h = seat_hit p (map f es) i (f x) (omega (arith, length-map es f)) (tested h)

    pub row_miss : t ≡ false → seated_at (place_from p (map f es) i) ≡ seated_at (place_from p (map f es) (i + 1))
    row_miss h = seat_miss p (map f es) i (f x) (omega (arith, length-map es f)) (tested h)

  pub row_end : length es ≤ i → seated_at (place_from p (map f es) i) ≡ None
  row_end l = seat_end p (map f es) i no_slot (omega (arith, length-map es f))

-- where a walk stops: at a slot of the row, the first that is wanted
module _ (row : List Slot) (who : Identity) (want : Want) where
  pub walk_placed : (k : Seat) → walk want row who ≡ Some k → Placed (wanted want who) no_slot row 0 k.0
  walk_placed k h = placed (wanted want who) no_slot row 0 k.0 (seat_place (place_from (wanted want who) row 0) k h)

  -- and where it finds none, none is wanted
  pub walk_none : walk want row who ≡ None → (j : ℕ) → j < length row → wanted want who (get_or row j no_slot) ≡ false
  walk_none h j l =
      none_passes (wanted want who) no_slot row (length row) 0 (omega arith) (no_seat (place_from (wanted want who) row 0) h) j (omega arith) l

  pub walk_inside : (k : Seat) → walk want row who ≡ Some k → k.0 < length row
  walk_inside k h = (walk_placed k h).inside

pub slot_inside : (row : List Slot) (who : Identity) (k : Seat) → slot_of row who ≡ Some k → k.0 < length row
slot_inside row who k h = walk_inside row who Own k h

-- equal tellings are equal answers: of a walk there is one
pub one_seat : (a b : Option Seat) → sought_seat a ≡ sought_seat b → a ≡ b
one_seat (Some k) (Some l) e = let s : k.0 ≡ l.0 = cc in λ i. Some (record { 0 = s i })
one_seat (Some k) None e = let z : ◌≡◌ {A = ℕ} 0 1 = cc in absurd (omega arith)
one_seat None (Some l) e = let z : ◌≡◌ {A = ℕ} 0 1 = cc in absurd (omega arith)
one_seat None None e = refl

-- the tests, as what they say
module _ (who : Identity) (s : Slot) where
  pub matches_same : matches who s ≡ same_id s.id who
  unfolding matches
  matches_same = refl

  pub own_wanted : same_id s.id who ≡ wanted Own who s
  unfolding wanted matches
  own_wanted = refl

  pub wanted_own : wanted Own who s ≡ matches who s
  unfolding wanted
  wanted_own = refl

  pub wanted_free : wanted Free who s ≡ eqb s.connected 0
  unfolding wanted
  wanted_free = refl

  pub usable_own_or_empty : wanted Usable who s ≡ true → (matches who s ≡ true) ⊎ (is_empty s.id ≡ true)
  unfolding wanted
  usable_own_or_empty = by (matches who s) refl
    where
      by : (t : Bool) → matches who s ≡ t → cond t true (is_empty s.id) ≡ true → (matches who s ≡ true) ⊎ (is_empty s.id ≡ true)
      by true e h = inl e
      by false e h = inr h
