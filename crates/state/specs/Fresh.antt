-- The table that a list lays out, and a fresh hub (document 01, "Slots" and "Refusals of a call"). Assumes nothing.
use Rattle.std.specs.Prelude.{ℕ, ◌+◌, Bool, cond, List, [], ◌∷◌, length, replicate, leb, eqb, Result, Ok, Err}
use Rattle.wire.specs.Size.{slot_count, table_bytes}
use Rattle.wire.specs.Test.{both}
use Rattle.wire.specs.Run.{after_all}
use Rattle.table_view.specs.Told.{Told, done, refused}
use Rattle.table_builder.specs.Push.{value_size, with_entry}
use Rattle.table_builder.specs.AsList.{Push, bytes_after}
use Rattle.attribute.specs.Record.{attribute_of}
use Rattle.attribute.specs.Rules.{list_ok}
use Rattle.attribute.specs.declared.Attribute.{Attribute}
use Rattle.peers.specs.Slots.{nobody}
use Rattle.peers.specs.declared.Slot.{Slot}
use Rattle.state.specs.State.{State, state}
use Rattle.state.specs.declared.OpenError.TheVariants.{BadList, TooLong}
use Rattle.state.specs.declared.OpenError.{OpenError}

-- the pushes that a list asks for: its client values, in order
abbrev pub push_of : Attribute → Push
push_of a = record { key = a.handle; size = a.cap; variable = a.variable }

unfoldable pub clients_of : List (List ℕ) → List Push
clients_of [] = []
clients_of (r ∷ rs) = cond (attribute_of r).client (push_of (attribute_of r) ∷ clients_of rs) (clients_of rs)

-- the table that they lay out
unfoldable pub fresh_table : List (List ℕ) → List ℕ
fresh_table list = after_all bytes_after (replicate table_bytes 0) (clients_of list)

-- how many bytes it takes: 4 for the header, and for each client value 4 in the index and its room
unfoldable pub space_of : Attribute → ℕ
space_of a = cond a.client (4 + value_size a.cap a.variable) 0

unfoldable pub entries_size : List (List ℕ) → ℕ
entries_size [] = 0
entries_size (r ∷ rs) = space_of (attribute_of r) + entries_size rs

abbrev pub table_size : List (List ℕ) → ℕ
table_size list = 4 + entries_size list

-- one entry laid out
unfoldable pub entry_laid : List ℕ → Attribute → List ℕ
entry_laid bs a = cond a.client (with_entry bs a.handle a.cap a.variable) bs

-- `new`: refusal 1 for a bad list, or for other than eight slots or tables; then 6 where its table would exceed 640
-- bytes
abbrev pub told_opened : Result (Unit {0}) OpenError → Told
told_opened (Ok x) = done
told_opened (Err BadList) = refused 1
told_opened (Err TooLong) = refused 6

unfoldable pub can_open : State → Bool
can_open s =
    both (eqb (length s.row) slot_count)
    (both (eqb (length s.tables) slot_count) (list_ok s.list (length s.store)))

abbrev pub table_fits : State → Bool
table_fits s = leb (table_size s.list) table_bytes

unfoldable pub new_told : State → Told
new_told s = cond (can_open s) (cond (table_fits s) done (refused 6)) (refused 1)

-- a fresh hub: eight slots, all nobody's, and the fresh table for each
abbrev pub empty_row : List Slot
empty_row = replicate slot_count (record { id = nobody; connected = 0 })

abbrev pub fresh_state : List (List ℕ) → List ℕ → State
fresh_state list store = state list store empty_row (replicate slot_count (fresh_table list))

unfoldable pub new_left : State → State
new_left s = cond (can_open s) (cond (table_fits s) (fresh_state s.list s.store) s) s
