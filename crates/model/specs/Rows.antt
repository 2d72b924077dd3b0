-- The rows of the list answers, each a turn of a run (document 01, "Handlers"). Assumes nothing.
use Rattle.std.specs.Prelude.{ℕ, ◌+◌, ◌-◌, min, Bool, true, false, cond, List, ◌++◌, map, leb, ltb, eqb, length, take}
use Rattle.wire.specs.Test.{both}
use Rattle.wire.specs.Bytes.{alike}
use Rattle.wire.specs.Number.{word_bytes}
use Rattle.attribute.specs.Record.{Entry, entry_of, attribute_of}
use Rattle.attribute.specs.Lookup.{entries_of, group_end}
use Rattle.model.specs.Value.{Contents, Bytes, Code, shared_item}
use Rattle.model.specs.View.{Seen}
use Rattle.model.specs.Run.{Chunk, stop, skip, emit}
use Rattle.model.specs.declared.Form.{Form}

unfoldable pub by_type_form : Form
by_type_form = record { group = false; op = 0x08; rsp = 0x09; limit = 253 }

unfoldable pub by_group_form : Form
by_group_form = record { group = true; op = 0x10; rsp = 0x11; limit = 251 }

-- a handle and the end of its group, from the entries after it
abbrev pub pair_of : Entry → List Entry → List ℕ
pair_of e es = word_bytes e.handle ++ word_bytes (group_end e.handle es)

-- what stands before a value, and how many bytes that is
unfoldable pub lead : Form → Entry → List Entry → List ℕ
lead f e es = cond f.group (pair_of e es) (word_bytes e.handle)

unfoldable pub extra_of : Form → ℕ
extra_of f = cond f.group 4 2

-- a value cut to the room behind its lead, and to the limit
unfoldable pub cut : Form → ℕ → List ℕ → List ℕ
cut f room v = take (min (room - extra_of f) f.limit) v

-- every entry is wanted
abbrev pub any_entry : Entry → Bool
any_entry e = true

abbrev pub entries_in : List Seen → List Entry
entries_in l = map (λ (s : Seen). s.entry) l

-- a row of the two reads by type, where the first value had n bytes: a read error or another length ends the list, and
-- so does a room under n and the lead. The cut comes before the length test
unfoldable pub value_turn : Form → ℕ → Entry → List Entry → ℕ → Contents → Chunk
value_turn f n e es room (Bytes v) = cond (eqb (length (cut f room v)) n) (emit (lead f e es ++ cut f room v)) stop
value_turn f n e es room (Code c) = stop

unfoldable pub row_turn : Form → (Entry → Bool) → ℕ → Seen → List Seen → ℕ → Chunk
row_turn f want n s l room =
    cond (want s.entry)
    (cond (ltb room (n + extra_of f)) stop (value_turn f n s.entry (entries_in l) room s.read))
    skip

-- a row of Find Information, where the first UUID had n bytes
unfoldable pub info_turn : (Entry → Bool) → ℕ → Entry → List Entry → ℕ → Chunk
info_turn want n e es room =
    cond (want e)
    (cond (both (eqb (length e.uuid) n) (leb (n + 2) room)) (emit (word_bytes e.handle ++ e.uuid)) stop)
    skip

-- a row of Find By Type Value: a shared value that is d as a whole, whoever asks; a client value never is
unfoldable pub holds : List ℕ → List ℕ → List ℕ → Bool
holds store d r = cond (attribute_of r).client false (alike (shared_item store (attribute_of r)).value d)

unfoldable pub find_turn : List ℕ → (Entry → Bool) → List ℕ → List ℕ → List (List ℕ) → ℕ → Chunk
find_turn store want d r rs room =
    cond (both (want (entry_of r)) (holds store d r)) (cond (ltb room 4) stop (emit (pair_of (entry_of r) (entries_of rs)))) skip
