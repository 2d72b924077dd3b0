-- What a move changes: one place of the row and of the tables, and no other. Assumes nothing.
use Rattle.std.specs.Prelude.{Some}
use mathlib.Core.Path.{◌≡◌, refl}
use mathlib.Core.Bool.{Bool, true, false, cond}
use mathlib.Core.List.{List, []}
use Prim.Native.Nat.{ℕ, ◌<◌}
use lib.ListN.{length, get_or, set, length-set}
use lib.Seq.{get_or-set_same, get_or-set_other}
use Rattle.client_att_table.specs.Clear.{cleared}
use Rattle.peers.specs.Slots.{clear_at, no_slot, row_moved, tables_moved}
use Rattle.peers.specs.declared.Slot.{Slot}
use Rattle.peers.specs.declared.Move.{Move}

-- the row and the tables differ at place i at most
pub record OnlyAt (i : ℕ) (row row' : List Slot) (ts ts' : List (List ℕ)) : Type 0 where
  pub slots : length row' ≡ length row
  pub tables : length ts' ≡ length ts
  pub slot : (j : ℕ) → (j ≡ i → ⊥) → get_or row' j no_slot ≡ get_or row j no_slot
  pub table : (j : ℕ) → (j ≡ i → ⊥) → get_or ts' j [] ≡ get_or ts j []

-- a slot set, its table cleared or left
pub moved_only : (row : List Slot) (ts : List (List ℕ)) (m : Move) → OnlyAt m.seat.0 row (row_moved row (Some m)) ts (tables_moved ts (Some m))
moved_only row ts m = by m.clears
  where
    by : (t : Bool) → OnlyAt m.seat.0 row (row_moved row (Some m)) ts (cond t (clear_at ts m.seat.0) ts)
    by true =
        record {
          slots = length-set row m.seat.0 m.slot;
          tables = length-set ts m.seat.0 (cleared (get_or ts m.seat.0 []));
          slot = λ j o. get_or-set_other row m.seat.0 j m.slot no_slot o;
          table = λ j o. get_or-set_other ts m.seat.0 j (cleared (get_or ts m.seat.0 [])) [] o;
        }
    by false =
        record {
          slots = length-set row m.seat.0 m.slot;
          tables = refl;
          slot = λ j o. get_or-set_other row m.seat.0 j m.slot no_slot o;
          table = λ j o. refl;
        }

-- another table of a slot
pub table_set : (i : ℕ) (row : List Slot) (ts : List (List ℕ)) (t : List ℕ) → OnlyAt i row row ts (set ts i t)
table_set i row ts t =
    record { slots = refl; tables = length-set ts i t; slot = λ j o. refl; table = λ j o. get_or-set_other ts i j t [] o }

-- the row at the move's place
module _ (row : List Slot) (m : Move) where
  pub new_slot : m.seat.0 < length row → get_or (row_moved row (Some m)) m.seat.0 no_slot ≡ m.slot
  new_slot h = get_or-set_same row m.seat.0 m.slot no_slot h

-- the tables of a move that clears, and of one that does not
module _ (ts : List (List ℕ)) (m : Move) where
  pub clear_table : m.clears ≡ true → m.seat.0 < length ts → get_or (tables_moved ts (Some m)) m.seat.0 [] ≡ cleared (get_or ts m.seat.0 [])
  clear_table c h = rw c (get_or-set_same ts m.seat.0 (cleared (get_or ts m.seat.0 [])) [] h)

  pub kept_tables : m.clears ≡ false → tables_moved ts (Some m) ≡ ts
  kept_tables c = rw c
