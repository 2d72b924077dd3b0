-- What a connecting and a leaving move is, case by case; and a move names a slot of the row. Assumes nothing.
use Rattle.std.specs.Prelude.{Option, Some, None}
use mathlib.Core.Path.{◌≡◌, refl}
use mathlib.Core.Bool.{Bool, true, false, not}
use mathlib.Core.List.{List}
use Prim.Native.Nat.{◌<◌}
use lib.ListN.{length, get_or}
use Rattle.peers.specs.Slots.{walk, slot_of, taken, joined, connecting, left, no_slot, parted, leaving}
use Rattle.peers.specs.declared.Identity.{Identity}
use Rattle.peers.specs.declared.Slot.{Slot}
use Rattle.peers.specs.declared.Seat.{Seat}
use Rattle.peers.specs.declared.Move.{Move}
use Rattle.peers.specs.declared.Want.TheVariants.{Usable, Free}
use Rattle.peers.proofs.Laws.{walk_inside, slot_inside}

-- connecting: a slot that matches or is empty is taken as it is; else one not connected is cleared and taken; else there
-- is none to have
pub by_joining : (row : List Slot) (who : Identity) (P : Option Move → Type 0)
    → ((k : Seat) → walk Usable row who ≡ Some k → P (Some (record { seat = k; slot = taken who; clears = false })))
    → ((k : Seat) → walk Usable row who ≡ None → walk Free row who ≡ Some k → P (Some (record { seat = k; slot = taken who; clears = true })))
    → P None
    → P (connecting row who)
unfolding connecting
by_joining row who P takes retakes none = by (walk Usable row who) (walk Free row who) refl refl
  where
    by : (u f : Option Seat) → walk Usable row who ≡ u → walk Free row who ≡ f → P (joined who u f)
    by (Some k) f e g = takes k e
    by None (Some k) e g = retakes k e g
    by None None e g = none

-- leaving: the peer's slot is left, and an unbonded peer's table cleared; or the peer has none
pub by_leaving : (row : List Slot) (who : Identity) (bonded : Bool) (P : Option Move → Type 0)
    → ((k : Seat) → slot_of row who ≡ Some k → P (Some (record { seat = k; slot = left bonded (get_or row k.0 no_slot); clears = not bonded })))
    → P None
    → P (leaving row who bonded)
unfolding leaving
by_leaving row who bonded P leaves none = by (slot_of row who) refl
  where
    by : (f : Option Seat) → slot_of row who ≡ f → P (parted row bonded f)
    by (Some k) e = leaves k e
    by None e = none

-- where there is a move, it is of a slot of the row
abbrev pub InRow : List Slot → Option Move → Type 0
InRow row (Some m) = m.seat.0 < length row
InRow row None = Unit {0}

pub join_in_row : (row : List Slot) (who : Identity) → InRow row (connecting row who)
join_in_row row who =
    by_joining row who (InRow row) (λ k e. walk_inside row who Usable k e) (λ k e f. walk_inside row who Free k f) tt

pub leave_in_row : (row : List Slot) (who : Identity) (bonded : Bool) → InRow row (leaving row who bonded)
leave_in_row row who bonded = by_leaving row who bonded (InRow row) (λ k e. slot_inside row who k e) tt
