-- `peers::who::same` meets its contract: the numbers are equal exactly where the identities are. Assumes nothing.
use Rattle.peers.proofs.Numbers.{by_number_lem}
use Rattle.peers.proofs.who.same.Goals as goal

pub returns : goal.returns
returns c =
    rw (c.number.ensures.0, c.number-2.ensures.0) (by_number_lem _ _ c.number.ensures.1 c.number-2.ensures.1)
