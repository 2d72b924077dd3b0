-- `eight_tables::inner::column` meets its contract. The invariant: the fold so far and the test of the tables that are
-- left are the test of all. Assumes nothing.
use mathlib.Core.Path.{◌≡◌}
use lib.Dec.{eqb}
use lib.ListN.{get_or, drop}
use Rattle.wire.specs.Test.{both}
use Rattle.eight_tables.specs.Tables.{every}
use Rattle.eight_tables.proofs.inner.column.Given as goal

abbrev pub invariant-loop-k : goal.invariant-loop-k
invariant-loop-k l =
    both (eqb l.acc 0) (every (λ t. eqb (get_or t l.j 0) l.f) (drop l.k l.tables)) ≡ every (λ t. eqb (get_or t l.j 0) l.f) l.tables
