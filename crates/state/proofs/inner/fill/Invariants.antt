-- `state::inner::fill` meets its contract. The invariant: so many copies, then the rest as it was. Assumes nothing.
use mathlib.Core.List.{◌++◌}
use mathlib.Core.Path.{◌≡◌}
use lib.ListN.{drop, replicate}
use Rattle.state.proofs.inner.fill.Given as goal

abbrev pub invariant-loop-x : goal.invariant-loop-x
invariant-loop-x g l = l.xs ≡ replicate l.x-index l.v ++ drop l.x-index l.initial.xs
