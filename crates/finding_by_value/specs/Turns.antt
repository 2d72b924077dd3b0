-- The row of an entry that Find By Type Value found. Assumes nothing.
use Rattle.std.specs.Prelude.{ℕ, cond, List, ltb}
use Rattle.attribute.specs.Record.{entry_of}
use Rattle.attribute.specs.Lookup.{entries_of}
use Rattle.model.specs.Run.{Chunk, stop, emit}
use Rattle.model.specs.Rows.{pair_of}

unfoldable pub found_at : List ℕ → List (List ℕ) → ℕ → Chunk
found_at r rs room = cond (ltb room 4) stop (emit (pair_of (entry_of r) (entries_of rs)))
