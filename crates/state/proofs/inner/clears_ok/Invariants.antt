-- `state::inner::clears_ok` meets its contract. The invariant is residual: the test of the slots that are left is the
-- test of all. Assumes nothing.
use mathlib.Core.Path.{◌≡◌}
use lib.ListN.{drop}
use Rattle.peers.specs.Bytes.{row_of}
use Rattle.state.specs.Clear.{clears_ok}
use Rattle.state.proofs.inner.clears_ok.Given as goal

abbrev pub invariant-loop-i : goal.invariant-loop-i
invariant-loop-i l = clears_ok l.base l.end (drop l.i (row_of l.row)) (drop l.i l.tables) ≡ clears_ok l.base l.end (row_of l.row) l.tables
