-- `wire::cursor::WriteCursor::append` meets its contract. It fits, or it does not: a law for each. Assumes nothing.
use mathlib.Core.Path.{◌∙◌}
use native.Mathlib.Omega.{arith}
use Rattle.wire.proofs.Written.{fits_put, full_put, fits_moved, full_moved}
use Rattle.wire.proofs.cursor.WriteCursor.append.Goals as goal

pub returns-then-d-b : goal.returns-then-d-b
returns-then-d-b c = (fits_moved _ _ _ (omega arith), c.copy.ensures ∙ fits_put _ _ _ (omega arith))

pub returns-else-d-b : goal.returns-else-d-b
returns-else-d-b c = (full_moved _ _ _ (omega arith), full_put _ _ _ (omega arith))

pub returns-else-at-b : goal.returns-else-at-b
returns-else-at-b c = (full_moved _ _ _ (omega arith), full_put _ _ _ (omega arith))
