-- `wire::cursor::WriteCursor::word` meets its contract. It fits, or it does not: a law for each. Assumes nothing.
use mathlib.Core.Path.{◌∙◌}
use native.Mathlib.Omega.{arith}
use Rattle.wire.proofs.Written.{fits_put, full_put, fits_moved, full_moved}
use Rattle.wire.proofs.cursor.WriteCursor.word.Goals as goal

pub returns-then-available-ge2 : goal.returns-then-available-ge2
returns-then-available-ge2 c = (fits_moved _ _ _ (omega arith), c.set.ensures ∙ fits_put _ _ _ (omega arith))

pub returns-else-available-ge2 : goal.returns-else-available-ge2
returns-else-available-ge2 c = (full_moved _ _ _ (omega arith), full_put _ _ _ (omega arith))
