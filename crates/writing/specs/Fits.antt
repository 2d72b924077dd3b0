-- What the four handlers ask of the buffer: a Prepare Write's value goes into its answer. Assumes nothing.
use Rattle.std.specs.Prelude.{ℕ, ◌+◌, ◌≤◌}
use Rattle.model.specs.declared.Change.{Change}
use Rattle.model.specs.declared.Change.TheVariants.{Write, WriteCommand, PrepareWrite, ExecuteWrite}

abbrev pub Fits : Change → ℕ → ℕ → Type 0
Fits (Write h) n room = Unit {0}
Fits (WriteCommand h) n room = Unit {0}
Fits (PrepareWrite h off) n room = 5 + n ≤ room
Fits (ExecuteWrite flags) n room = Unit {0}
