-- `eight_tables::inner::values_ok` meets its contract. The invariant is residual: the test of the places that are left
-- is the test of all. Assumes nothing.
use mathlib.Core.Path.{◌≡◌}
use Prim.Native.Nat.{◌-◌}
use Rattle.table_view.specs.Layout.{count_of}
use Rattle.table_view.specs.Rules.{values_ok}
use Rattle.eight_tables.specs.Tables.{every}
use Rattle.eight_tables.proofs.inner.values_ok.Given as goal

abbrev pub invariant-loop-i : goal.invariant-loop-i
invariant-loop-i l =
    every (λ t. values_ok t (count_of l.fresh - l.i) l.i) l.tables ≡ every (λ t. values_ok t (count_of l.fresh) 0) l.tables
