-- What a write asks of the state that it is given. Assumes nothing.
use Rattle.std.specs.Prelude.{ℕ, ◌<◌, ◌≡◌, true, List, Option, Some}
use Rattle.wire.specs.Size.{slot_count}
use Rattle.attribute.specs.Rules.{list_ok}
use Rattle.peers.specs.Slots.{Tables}
use Rattle.peers.specs.declared.Seat.{Seat}

-- the tables are eight that the reading rules accept, and a slot is one of them
pub record SlotReady (ts : List (List ℕ)) (slot : Option Seat) : Type 0 where
  pub tables : Tables ts
  pub inside : (k : Seat) → slot ≡ Some k → k.0 < slot_count

pub record ReadyToStore (list : List (List ℕ)) (store : ℕ) (ts : List (List ℕ)) (slot : Option Seat) : Type 0 where
  pub right : list_ok list store ≡ true
  pub own : SlotReady ts slot
