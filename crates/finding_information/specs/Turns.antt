-- A turn of Find Information over the list's records. Assumes nothing.
use Rattle.std.specs.Prelude.{ℕ, Bool, List}
use Rattle.attribute.specs.Record.{Entry, entry_of}
use Rattle.attribute.specs.Lookup.{entries_of}
use Rattle.model.specs.Run.{Chunk}
use Rattle.model.specs.Rows.{info_turn}

abbrev pub info_at : (Entry → Bool) → ℕ → List ℕ → List (List ℕ) → ℕ → Chunk
info_at want n r rs room = info_turn want n (entry_of r) (entries_of rs) room
