-- `wire::cursor::WriteCursor::byte` meets its contract. It fits, or it does not: a law for each. Assumes nothing.
use native.Mathlib.Omega.{arith}
use Rattle.wire.proofs.Written.{fits_put, full_put, fits_moved, full_moved}
use Rattle.wire.proofs.cursor.WriteCursor.byte.Goals as goal

pub returns-then-at-b : goal.returns-then-at-b
returns-then-at-b c = (fits_moved _ _ _ (omega arith), fits_put _ _ _ (omega arith))

pub returns-else-at-b : goal.returns-else-at-b
returns-else-at-b c = (full_moved _ _ _ (omega arith), full_put _ _ _ (omega arith))
