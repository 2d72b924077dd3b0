-- What the printer promises of its answer and of the buffer that it is lent. Assumes nothing.
use Rattle.std.specs.Prelude.{ℕ, ◌≡◌, List, length}
use Rattle.std.proofs.lemmas.List.Edits.{sets}
use Rattle.table_printer.specs.Lines.{table_lines}

-- how many bytes the text has; and the text stands at the buffer's start, cut at the buffer's end, every byte after it
-- as it was
pub record Printed (raw old new : List ℕ) (n : ℕ) : Type 0 where
  pub count : n ≡ length (table_lines raw)
  pub bytes : new ≡ sets old 0 (table_lines raw)

-- any two results that meet the promise are equal
abbrev pub OneResult : Type 0
OneResult = (raw old new other : List ℕ) (n m : ℕ) → Printed raw old new n → Printed raw old other m → (n ≡ m) × (new ≡ other)
