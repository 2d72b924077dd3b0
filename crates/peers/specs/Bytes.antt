-- A slot as the eight bytes in which it is lent, and a row of them: kind, address, connected, as they lie in memory.
-- Assumes nothing.
use Rattle.std.specs.Prelude.{ℕ, List, [], ◌∷◌, map, get_or}
use Rattle.peers.specs.declared.Slot.{Slot}

abbrev pub slot_in : List ℕ → Slot
slot_in e =
    record {
      id = record { kind = get_or e 0 0; addr = get_or e 1 0 ∷ get_or e 2 0 ∷ get_or e 3 0 ∷ get_or e 4 0 ∷ get_or e 5 0 ∷ get_or e 6 0 ∷ [] };
      connected = get_or e 7 0;
    }

abbrev pub row_of : List (List ℕ) → List Slot
row_of es = map slot_in es

abbrev pub bytes_of : Slot → List ℕ
bytes_of s =
    let a = s.id.addr in
    s.id.kind ∷ get_or a 0 0 ∷ get_or a 1 0 ∷ get_or a 2 0 ∷ get_or a 3 0 ∷ get_or a 4 0 ∷ get_or a 5 0 ∷ s.connected ∷ []
