-- `text::inner::bytes` meets its contract. The loop's invariant is residual: to put what is left of d from here gives
-- what putting all of it gives. Assumes nothing.
use lib.ListN.{drop}
use Rattle.text.proofs.Pieces.{Going}
use Rattle.text.proofs.inner.bytes.Given as goal

abbrev pub invariant-loop-b : goal.invariant-loop-b
invariant-loop-b l = Going l.initial.out l.at l.d l.out l.next (drop l.b-index l.d)
