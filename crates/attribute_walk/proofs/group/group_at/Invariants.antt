-- `attribute_walk::group::group_at` meets its contract. The invariant is residual: the end of every entry's group so
-- far is looked for in what is left. Assumes nothing.
use Rattle.attribute_walk.proofs.Groups.{Passed}
use Rattle.attribute_walk.proofs.group.group_at.Given as goal

abbrev pub invariant-loop-j : goal.invariant-loop-j
invariant-loop-j l = Passed l.list l.i l.end l.j
