-- Whose each slot is, and who is connected, decides which slot a peer has, which one it gets, and what becomes of it.
-- Assumes nothing.
use Rattle.std.specs.Prelude.{Option, Some, None}
use mathlib.Core.Path.{◌≡◌, refl, ap, ◌∙◌}
use mathlib.Core.Bool.{Bool, true, false, cond, not}
use mathlib.Core.List.{List, map}
use Prim.Native.Nat.{ℕ}
use lib.Dec.{eqb}
use lib.ListN.{length, get_or}
use Rattle.peers.specs.Identity.{same_id, is_empty}
use Rattle.peers.specs.Slots.{matches, wanted, walk, seated_at, slot_of, joined, connecting, left, parted, leaving, row_moved, no_slot}
use Rattle.peers.specs.declared.Identity.{Identity}
use Rattle.peers.specs.declared.Slot.{Slot}
use Rattle.peers.specs.declared.Move.{Move}
use Rattle.peers.specs.declared.Seat.{Seat}
use Rattle.peers.specs.declared.Want.{Want}
use Rattle.peers.specs.declared.Want.TheVariants.{Own, Usable, Free}
use Rattle.secrecy.specs.Agree.{Holder, holder_of}
use Rattle.secrecy.proofs.Known.{walk_same, length_same, at_same, set_same}

-- what a walk wants of a slot, by its holder
abbrev wanted_of : Want → Identity → Holder → Bool
wanted_of Own who h = same_id h.id who
wanted_of Usable who h = cond (same_id h.id who) true (is_empty h.id)
wanted_of Free who h = not h.connected

twice : (t : Bool) → t ≡ not (not t)
twice true = refl
twice false = refl

by_holder : (want : Want) (who : Identity) (s : Slot) → wanted want who s ≡ wanted_of want who (holder_of s)
unfolding wanted matches holder_of
by_holder Own who s = refl
by_holder Usable who s = refl
by_holder Free who s = twice (eqb s.connected 0)

holder_id : (s s' : Slot) → holder_of s ≡ holder_of s' → s.id ≡ s'.id
unfolding holder_of
holder_id s s' e = ap (λ (h : Holder). h.id) e

module _ (row row' : List Slot) (same : map holder_of row ≡ map holder_of row') where
  pub slots_same : length row ≡ length row'
  slots_same = length_same holder_of row row' same

  pub id_same : (i : ℕ) → (get_or row i no_slot).id ≡ (get_or row' i no_slot).id
  id_same i = holder_id _ _ (at_same holder_of row row' same no_slot i)

  found_same : (want : Want) (who : Identity) → walk want row who ≡ walk want row' who
  found_same want who = ap seated_at (walk_same holder_of row row' same (wanted want who) (wanted_of want who) (by_holder want who))

  pub slot_same : (who : Identity) → slot_of row who ≡ slot_of row' who
  slot_same who = found_same Own who

  -- one move of whoever connects, and of whoever leaves
  pub connecting_same : (who : Identity) → connecting row who ≡ connecting row' who
  unfolding connecting
  connecting_same who = λ i. joined who (found_same Usable who i) (found_same Free who i)

  left_same : (bonded : Bool) (i : ℕ) → left bonded (get_or row i no_slot) ≡ left bonded (get_or row' i no_slot)
  unfolding left
  left_same true i = λ j. record { id = id_same i j; connected = 0 }
  left_same false i = refl

  parted_same : (bonded : Bool) (f : Option Seat) → parted row bonded f ≡ parted row' bonded f
  parted_same bonded (Some k) = ap (λ (s : Slot). Some (record { seat = k; slot = s; clears = not bonded })) (left_same bonded k.0)
  parted_same bonded None = refl

  pub leaving_same : (who : Identity) (bonded : Bool) → leaving row who bonded ≡ leaving row' who bonded
  unfolding leaving
  leaving_same who bonded = parted_same bonded (slot_of row who) ∙ ap (parted row' bonded) (slot_same who)

  -- and the rows after a move
  pub moved_same : (m : Option Move) → map holder_of (row_moved row m) ≡ map holder_of (row_moved row' m)
  moved_same (Some m) = set_same holder_of row row' same m.seat.0 m.slot m.slot refl
  moved_same None = same
