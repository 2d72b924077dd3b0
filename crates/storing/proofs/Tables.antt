-- The table of a slot, and the one that a peer without a slot has. Assumes nothing.
use Rattle.std.specs.Prelude.{Option, Some, None}
use mathlib.Core.Path.{◌≡◌, refl}
use mathlib.Core.Bool.{true}
use mathlib.Core.List.{List, [], ◌∷◌}
use Prim.Native.Nat.{ℕ, ◌<◌}
use native.Mathlib.Omega.{arith}
use lib.ListN.{length, get_or}
use Rattle.wire.specs.Test.{both}
use Rattle.wire.specs.Number.{word}
use Rattle.table_view.specs.Rules.{accepts, index_ok, values_ok}
use Rattle.peers.specs.declared.Seat.{Seat}
use Rattle.model.specs.View.{table_at}
use Rattle.values.specs.Locate.{ReadyToRead}
use Rattle.storing.specs.Ready.{SlotReady, ReadyToStore}

pub no_entries : accepts (0 ∷ 0 ∷ 0 ∷ 0 ∷ []) ≡ true
unfolding accepts both index_ok values_ok word
no_entries = refl

module _ (ts : List (List ℕ)) (slot : Option Seat) where
  pub table_there : (k : Seat) → slot ≡ Some k → get_or ts k.0 [] ≡ table_at ts slot
  unfolding table_at
  table_there k e = rw e

  pub table_none : slot ≡ None → 0 ∷ 0 ∷ 0 ∷ 0 ∷ [] ≡ table_at ts slot
  unfolding table_at
  table_none e = rw e

  module _ (r : SlotReady ts slot) (k : Seat) (e : slot ≡ Some k) where
    pub slot_there : k.0 < length ts
    slot_there = omega (arith, r.inside k e, r.tables.eight)

    pub slot_accepts : accepts (get_or ts k.0 []) ≡ true
    slot_accepts = r.tables.read k.0 (r.inside k e)

-- as reading asks for it
module _ (list : List (List ℕ)) (store : ℕ) (ts : List (List ℕ)) (slot : Option Seat) (r : ReadyToStore list store ts slot) where
  pub own_table_lem : (k : Seat) → slot ≡ Some k → ReadyToRead list store (get_or ts k.0 [])
  own_table_lem k e = record { right = r.right; table = slot_accepts ts slot r.own k e }

  pub empty_table : ReadyToRead list store (0 ∷ 0 ∷ 0 ∷ 0 ∷ [])
  empty_table = record { right = r.right; table = no_entries }
