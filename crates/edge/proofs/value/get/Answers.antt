-- `edge::value::get` meets its contract. The answer into the buffer becomes a reply. Assumes nothing.
use Rattle.edge.proofs.Telling.{delivered}
use Rattle.edge.proofs.value.get.Goals as goal

pub returns : goal.returns
returns c =
    delivered _ _ _ _ _ c.get.ensures c.from.ensures
