-- `edge::value::can` meets its contract. The answer becomes a reply. Assumes nothing.
use Rattle.numbers.proofs.Telling.{replied}
use Rattle.edge.proofs.value.can.Goals as goal

pub returns : goal.returns
returns c =
    replied c.can.result _ _ (rw c.link-link.ensures at c.can.ensures)
    c.from.ensures
