-- `text::inner::hex` meets its contract. The loop's invariant is residual: to put what is left of d from here gives
-- what putting all of it gives. Assumes nothing.
use lib.ListN.{drop}
use Rattle.text.specs.Hex.{hex_of}
use Rattle.text.proofs.Pieces.{Going}
use Rattle.text.proofs.inner.hex.Given as goal

abbrev pub invariant-loop-b : goal.invariant-loop-b
invariant-loop-b l = Going l.initial.out l.at (hex_of l.d) l.out l.next (hex_of (drop l.b-index l.d))
