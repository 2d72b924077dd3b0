-- `state::inner::lay_out` meets its contract. The invariant: the entries so far are laid out, and pushing those that
-- are left gives the fresh table. Assumes nothing.
use Rattle.state.proofs.Laying.{Laying}
use Rattle.state.proofs.inner.lay_out.Given as goal

abbrev pub invariant-loop-r : goal.invariant-loop-r
invariant-loop-r l = Laying l.list l.out l.r-index
