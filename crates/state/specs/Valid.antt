-- A valid state (document 01, "Slots": "A state is valid exactly when .."). A test that computes. Assumes nothing.
use Rattle.std.specs.Prelude.{ℕ, Bool, true, false, cond, List, [], ◌∷◌, length, take, drop, leb, eqb}
use Rattle.wire.specs.Size.{slot_count, table_bytes, value_bytes}
use Rattle.wire.specs.Test.{both}
use Rattle.wire.specs.Bytes.{zeros, alike}
use Rattle.table_view.specs.Layout.{base_of, end_of}
use Rattle.table_view.specs.Rules.{accepts}
use Rattle.attribute.specs.Rules.{list_ok}
use Rattle.peers.specs.Identity.{is_empty}
use Rattle.peers.specs.declared.Slot.{Slot}
use Rattle.state.specs.State.{State}
use Rattle.state.specs.Fresh.{table_size, fresh_table}
use Rattle.state.specs.declared.Prepared.{Prepared}

-- a table is laid out as the fresh one: it has its header and index, lengths within capacity, and zeros after its end
unfoldable pub laid_out : List ℕ → List ℕ → Bool
laid_out fresh t =
    both (alike (take (base_of fresh) t) (take (base_of fresh) fresh)) (both (accepts t) (zeros (drop (end_of fresh) t)))

-- and an empty slot has a clear one
unfoldable pub slot_ok : List ℕ → Slot → List ℕ → Bool
slot_ok fresh s t = both (laid_out fresh t) (cond (is_empty s.id) (alike t fresh) true)

unfoldable pub slots_ok : List ℕ → List Slot → List (List ℕ) → Bool
slots_ok fresh [] [] = true
slots_ok fresh [] (t ∷ ts) = false
slots_ok fresh (s ∷ ss) [] = false
slots_ok fresh (s ∷ ss) (t ∷ ts) = both (slot_ok fresh s t) (slots_ok fresh ss ts)

-- list and store pass rule 1, and the list's table fits its 640 bytes; there are eight slots and tables, each right
unfoldable pub valid : State → Bool
valid s =
    both (eqb (length s.tables) slot_count)
    (both (list_ok s.list (length s.store))
    (both (leb (table_size s.list) table_bytes) (slots_ok (fresh_table s.list) s.row s.tables)))

-- prepared data fit 512 bytes, none under handle 0
unfoldable pub record_ok : Prepared → Bool
record_ok p = both (leb p.len value_bytes) (cond (eqb p.handle 0) (eqb p.len 0) true)

-- the whole sentence: the link's prepared write too
unfoldable pub valid_with : State → Prepared → Bool
valid_with s p = both (record_ok p) (valid s)
