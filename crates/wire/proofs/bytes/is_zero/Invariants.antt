-- `wire::bytes::is_zero` meets its contract. The invariant: the fold so far and the test of what is left are the test
-- of all. Assumes nothing.
use mathlib.Core.Path.{◌≡◌}
use lib.Dec.{eqb}
use lib.ListN.{drop}
use Rattle.wire.specs.Bytes.{zeros}
use Rattle.wire.specs.Test.{both}
use Rattle.wire.proofs.bytes.is_zero.Given as goal

abbrev pub invariant-loop-x : goal.invariant-loop-x
invariant-loop-x l = both (eqb l.acc 0) (zeros (drop l.x-index l.s)) ≡ zeros l.s
