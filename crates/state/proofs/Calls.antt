-- Each call keeps a valid state valid: opening a hub, connecting, leaving. Assumes nothing.
use Rattle.std.specs.Prelude.{Some}
use mathlib.Core.Path.{◌≡◌, refl}
use mathlib.Core.Bool.{Bool, true, false, cond, not}
use mathlib.Core.List.{List, []}
use Prim.Native.Nat.{ℕ, ◌≤◌, ◌<◌}
use native.Mathlib.Omega.{arith}
use lib.ListN.{length, get_or, replicate, get_or-replicate}
use lib.Dec.{ltb}
use borrow.Author.Tests.{eq-eqb, le-leb, leb-true}
use Rattle.wire.specs.Size.{slot_count, table_bytes}
use Rattle.wire.proofs.Tests.{both_r, both_true}
use Rattle.table_view.specs.Told.{done, refused}
use Rattle.attribute.specs.Rules.{list_ok}
use Rattle.peers.specs.Identity.{is_empty, is_bad}
use Rattle.peers.specs.Slots.{slot_of, taken, connecting, nobody, left, leaving, no_slot}
use Rattle.peers.specs.declared.Identity.{Identity}
use Rattle.peers.specs.declared.Seat.{Seat}
use Rattle.peers.specs.declared.Want.TheVariants.{Usable, Free}
use Rattle.peers.proofs.Identities.{nobody_empty}
use Rattle.peers.proofs.Laws.{walk_inside, slot_inside}
use Rattle.peers.proofs.Moves.{by_joining, by_leaving}
use Rattle.state.specs.State.{State, after_move}
use Rattle.state.specs.Fresh.{fresh_table, table_size, empty_row, fresh_state, can_open, table_fits, new_told, new_left}
use Rattle.state.specs.Valid.{valid}
use Rattle.state.proofs.Answers.{fresh_length, laid_builder}
use Rattle.state.proofs.Each.{slots_by}
use Rattle.state.proofs.Keeping.{nobodys, taken_valid, retaken_valid, parted_valid, emptied_valid}

-- a peer that may call is somebody
pub good_somebody : (who : Identity) → is_bad who ≡ false → is_empty who ≡ false
unfolding is_bad
good_somebody who h = by (is_empty who) h
  where
    by : (t : Bool) → cond t true (ltb 1 who.kind) ≡ false → t ≡ false
    by true h = cc
    by false h = refl

-- a fresh hub is valid
pub new_valid : (list : List (List ℕ)) (store : List ℕ) → list_ok list (length store) ≡ true → table_size list ≤ table_bytes → valid (fresh_state list store) ≡ true
unfolding valid
new_valid list store l s =
    let f = fresh_table list in
    both_true _ _ (eq-eqb (length (replicate slot_count f)) slot_count refl)
    (both_true _ _ l
    (both_true _ _ (le-leb _ _ s)
    (slots_by f empty_row (replicate slot_count f) refl
    (λ i h.
    rw (get_or-replicate slot_count i (record { id = nobody; connected = 0 }) no_slot h, get_or-replicate slot_count i f [] h)
    (nobodys f (fresh_length list) (laid_builder list) (record { id = nobody; connected = 0 }) nobody_empty)))))

-- and so is what `new` makes, where it says done
told_done : (a b : Bool) → cond a (cond b done (refused 6)) (refused 1) ≡ done → (a ≡ true) × (b ≡ true)
told_done true true e = (refl, refl)
told_done true false e = let z : ◌≡◌ {A = ℕ} 0 1 = cc in absurd (omega arith)
told_done false b e = let z : ◌≡◌ {A = ℕ} 0 1 = cc in absurd (omega arith)

module _ (s : State) (e : new_told s ≡ done) where
  tests : (can_open s ≡ true) × (table_fits s ≡ true)
  unfolding new_told
  tests = told_done _ _ e

  pub made : new_left s ≡ fresh_state s.list s.store
  unfolding new_left
  made = rw (tests.0, tests.1)

  opened_list : list_ok s.list (length s.store) ≡ true
  unfolding can_open
  opened_list = both_r _ _ (both_r _ _ tests.0)

  pub made_valid : valid (new_left s) ≡ true
  made_valid = rw made (new_valid s.list s.store opened_list (leb-true _ _ tests.1))

  pub made_sized : (i : ℕ) → i < slot_count → length (get_or (new_left s).tables i []) ≡ table_bytes
  made_sized i h = rw (made, get_or-replicate slot_count i (fresh_table s.list) [] h) (fresh_length s.list)

-- connecting and leaving
module _ (s : State) (v : valid s ≡ true) (sized : (i : ℕ) → i < slot_count → length (get_or s.tables i []) ≡ table_bytes) (who : Identity) where
  pub connect_valid : is_bad who ≡ false → valid (after_move s (connecting s.row who)) ≡ true
  connect_valid g =
      let e = good_somebody who g in
      by_joining s.row who (λ m. valid (after_move s m) ≡ true)
      (λ k h. taken_valid s v sized k.0 (walk_inside s.row who Usable k h) (taken who) e)
      (λ k u h. retaken_valid s v sized k.0 (walk_inside s.row who Free k h) (taken who) e)
      v

  left_valid : (bonded : Bool) (k : Seat) → slot_of s.row who ≡ Some k
      → valid (after_move s (Some (record { seat = k; slot = left bonded (get_or s.row k.0 no_slot); clears = not bonded }))) ≡ true
  unfolding left
  left_valid true k h = parted_valid s v sized k.0 (slot_inside s.row who k h) (record { id = (get_or s.row k.0 no_slot).id; connected = 0 }) refl
  left_valid false k h = emptied_valid s v sized k.0 (slot_inside s.row who k h) (record { id = nobody; connected = 0 }) nobody_empty

  pub disconnect_valid : (bonded : Bool) → valid (after_move s (leaving s.row who bonded)) ≡ true
  disconnect_valid bonded =
      by_leaving s.row who bonded (λ m. valid (after_move s m) ≡ true) (left_valid bonded)
      v
