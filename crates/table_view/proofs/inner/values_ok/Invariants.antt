-- `table_view::inner::values_ok` meets its contract. The invariant is residual: the test of the values that are left is
-- the test of all. Assumes nothing.
use mathlib.Core.Path.{◌≡◌}
use Prim.Native.Nat.{◌-◌}
use Rattle.table_view.specs.Layout.{count_of}
use Rattle.table_view.specs.Rules.{values_ok}
use Rattle.table_view.proofs.inner.values_ok.Given as goal

abbrev pub invariant-loop-i : goal.invariant-loop-i
invariant-loop-i l = values_ok l.t (l.n - l.i) l.i ≡ values_ok l.t (count_of l.t) 0
