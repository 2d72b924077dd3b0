-- The row of slots (document 01, "Slots"): which slot is a peer's, which one a connecting peer gets, and what the row
-- and the tables are after it connects and after it leaves. Assumes nothing.
use Rattle.std.specs.Prelude.{ℕ, ◌<◌, ◌≡◌, Bool, true, false, cond, not, List, [], ◌∷◌, length, get_or, set, eqb, Option, Some, None}
use Rattle.wire.specs.Size.{slot_count}
use Rattle.wire.specs.Walk.{place_from, Sought, place, no_place}
use Rattle.table_view.specs.Rules.{accepts}
use Rattle.client_att_table.specs.Clear.{cleared}
use Rattle.peers.specs.Identity.{same_id, is_empty}
use Rattle.peers.specs.declared.Identity.{Identity}
use Rattle.peers.specs.declared.Slot.{Slot}
use Rattle.peers.specs.declared.Want.{Want}
use Rattle.peers.specs.declared.Want.TheVariants.{Own, Usable, Free}
use Rattle.peers.specs.declared.Move.{Move}
use Rattle.peers.specs.declared.Seat.{Seat}

-- a slot is a peer's where the identities match
unfoldable pub matches : Identity → Slot → Bool
matches who s = same_id s.id who

-- what a walk wants: the peer's own slot; one that matches or is empty; one not connected
unfoldable pub wanted : Want → Identity → Slot → Bool
wanted Own who s = matches who s
wanted Usable who s = cond (matches who s) true (is_empty s.id)
wanted Free who s = eqb s.connected 0

-- a place that the plain walk finds in the row is a slot's
unfoldable pub seated_at : Option ℕ → Option Seat
seated_at (Some i) = Some (record { 0 = i })
seated_at None = None

-- the first slot that is wanted
abbrev pub walk : Want → List Slot → Identity → Option Seat
walk want row who = seated_at (place_from (wanted want who) row 0)

-- reads and writes use the first matching slot, connected or not
abbrev pub slot_of : List Slot → Identity → Option Seat
slot_of row who = walk Own row who

-- the place that a walk over the row tells
abbrev pub sought_seat : Option Seat → Sought
sought_seat (Some k) = place k.0
sought_seat None = no_place

abbrev pub slot_sought : Want → List Slot → Identity → Sought
slot_sought want row who = sought_seat (walk want row who)

-- a slot that was found lies in a row of n
abbrev pub Inside : Option Seat → ℕ → Type 0
Inside (Some k) n = k.0 < n
Inside None n = Unit {0}

-- the slot with its new owner
abbrev pub taken : Identity → Slot
taken who = record { id = who; connected = 1 }

-- connecting: the first slot that matches or is empty is taken as it is; else the first not connected is cleared and
-- taken; else there is none
abbrev pub joined : Identity → Option Seat → Option Seat → Option Move
joined who (Some k) free = Some (record { seat = k; slot = taken who; clears = false })
joined who None (Some k) = Some (record { seat = k; slot = taken who; clears = true })
joined who None None = None

unfoldable pub connecting : List Slot → Identity → Option Move
connecting row who = joined who (walk Usable row who) (walk Free row who)

-- leaving: the first matching slot is marked not connected; where the peer is unbonded, its identity is emptied and its
-- table cleared
abbrev pub nobody : Identity
nobody = record { kind = 0; addr = 0 ∷ 0 ∷ 0 ∷ 0 ∷ 0 ∷ 0 ∷ [] }

unfoldable pub left : Bool → Slot → Slot
left bonded s = cond bonded (record { id = s.id; connected = 0 }) (record { id = nobody; connected = 0 })

-- what stands past the end of a row: no row of eight has it
abbrev pub no_slot : Slot
no_slot = record { id = record { kind = 0; addr = [] }; connected = 0 }

abbrev pub parted : List Slot → Bool → Option Seat → Option Move
parted row bonded (Some k) = Some (record { seat = k; slot = left bonded (get_or row k.0 no_slot); clears = not bonded })
parted row bonded None = None

unfoldable pub leaving : List Slot → Identity → Bool → Option Move
leaving row who bonded = parted row bonded (slot_of row who)

-- the row and the tables after a move; without one they stay
abbrev pub row_moved : List Slot → Option Move → List Slot
row_moved row None = row
row_moved row (Some m) = set row m.seat.0 m.slot

abbrev pub clear_at : List (List ℕ) → ℕ → List (List ℕ)
clear_at ts i = set ts i (cleared (get_or ts i []))

abbrev pub tables_moved : List (List ℕ) → Option Move → List (List ℕ)
tables_moved ts None = ts
tables_moved ts (Some m) = cond m.clears (clear_at ts m.seat.0) ts

-- what the calls ask of the tables: eight of them, each one that the reading rules accept
pub record Tables (ts : List (List ℕ)) : Type 0 where
  pub eight : length ts ≡ slot_count
  pub read : (i : ℕ) → i < slot_count → accepts (get_or ts i []) ≡ true
