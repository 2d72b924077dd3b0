-- `table_view::inner::index_ok` meets its contract. The invariant is residual: the test of the entries that are left is
-- the test of all. Assumes nothing.
use mathlib.Core.Path.{◌≡◌}
use Prim.Native.Nat.{◌-◌}
use Rattle.table_view.specs.Layout.{count_of}
use Rattle.table_view.specs.Rules.{index_ok}
use Rattle.table_view.proofs.inner.index_ok.Given as goal

abbrev pub invariant-loop-i : goal.invariant-loop-i
invariant-loop-i l = index_ok l.t (l.n - l.i) l.i l.last.0 l.from ≡ index_ok l.t (count_of l.t) 0 0 0
