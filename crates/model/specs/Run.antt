-- The list answers as runs of turns: at each element a turn gives bytes, and says whether the list goes on. Assumes
-- nothing.
use Rattle.std.specs.Prelude.{ℕ, ◌-◌, ◌≡◌, Bool, true, false, cond, List, [], ◌∷◌, ◌++◌, length, drop, ltb}
use Rattle.wire.specs.Cursor.{Wrote}
use Rattle.wire.specs.declared.cursor.WriteCursor.{WriteCursor}
use Rattle.attribute.specs.Record.{Entry}
use Rattle.attribute_walk.specs.Walk.{Picks}
use Rattle.attribute_walk.specs.declared.Stretch.{Stretch}

pub record Chunk : Type 0 where
  pub bytes : List ℕ
  pub more : Bool

-- the list ends here; it goes on without this element; and with it
abbrev pub stop : Chunk
stop = record { bytes = []; more = false }

abbrev pub skip : Chunk
skip = record { bytes = []; more = true }

abbrev pub emit : List ℕ → Chunk
emit bs = record { bytes = bs; more = true }

module _ {A : Type 0} where
  -- a turn is given its element, those after it, and the room that is left
  unfoldable pub run : (A → List A → ℕ → Chunk) → List A → ℕ → List ℕ
  run turn [] room = []
  run turn (x ∷ xs) room =
      (turn x xs room).bytes ++ cond (turn x xs room).more (run turn xs (room - length (turn x xs room).bytes)) []

  -- the list from the first element that passes on
  unfoldable pub from_first : (A → Bool) → List A → List A
  from_first p [] = []
  from_first p (x ∷ xs) = cond (p x) (x ∷ xs) (from_first p xs)

-- what the code of a row promises: its chunk is written, and the list goes on where that moved the cursor
pub record Rowed (old new : List ℕ) (c next : WriteCursor) (k : Chunk) : Type 0 where
  pub more : ltb c.len next.len ≡ k.more
  pub wrote : Wrote old new c next k.bytes

-- a turn over the list's records, by the test that says which entries are wanted
abbrev pub TurnBy : Type 0
TurnBy = (Entry → Bool) → List ℕ → List (List ℕ) → ℕ → Chunk

-- what the loop of a list answer promises: it writes the rows from a stretch's first place on, for every test that
-- picks the stretch's records by `test`
abbrev pub Listed : TurnBy → (List ℕ → Bool) → List (List ℕ) → Stretch → List ℕ → List ℕ → WriteCursor → WriteCursor → Type 0
Listed turn test list p old new c next =
    (want : Entry → Bool) → Picks want test list p.from p.to → Wrote old new c next (run (turn want) (drop p.from list) (length old - c.len))
