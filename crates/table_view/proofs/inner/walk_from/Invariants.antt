-- `table_view::inner::walk_from` meets its contract. The invariant: the walk for the key comes to the next place. Assumes
-- nothing.
use Prim.Native.Nat.{◌-◌}
use Rattle.table_view.specs.Walk.{ComesTo}
use Rattle.table_view.proofs.inner.walk_from.Given as goal

abbrev pub invariant-loop-next : goal.invariant-loop-next
invariant-loop-next l = ComesTo l.t l.key.0 l.next.0

abbrev pub decreases-loop-next : goal.decreases-loop-next
decreases-loop-next l = l.n - l.next.0
