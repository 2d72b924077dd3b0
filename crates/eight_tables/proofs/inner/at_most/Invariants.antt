-- `eight_tables::inner::at_most` meets its contract. The invariant is residual: the test of the tables that are left is
-- the test of all. Assumes nothing.
use mathlib.Core.Path.{◌≡◌}
use lib.Dec.{leb}
use lib.ListN.{drop}
use Rattle.wire.specs.Number.{word}
use Rattle.eight_tables.specs.Tables.{every}
use Rattle.eight_tables.proofs.inner.at_most.Given as goal

abbrev pub invariant-loop-t : goal.invariant-loop-t
invariant-loop-t l =
    every (λ t. leb (word t l.at) l.n) (drop l.t-index l.tables) ≡ every (λ t. leb (word t l.at) l.n) l.tables
