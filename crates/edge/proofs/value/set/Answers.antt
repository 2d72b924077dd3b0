-- `edge::value::set` meets its contract. The answer becomes a reply; what is left is as the server leaves it. Assumes
-- nothing.
use Rattle.numbers.proofs.Telling.{replied}
use Rattle.edge.proofs.value.set.Goals as goal

pub returns : goal.returns
returns c =
    (replied c.set.result _ _ c.set.ensures.0 c.from.ensures, c.set.ensures.1)
