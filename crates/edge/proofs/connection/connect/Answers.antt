-- `edge::connection::connect` meets its contract. The answer becomes a reply; the state is as the server leaves it.
-- Assumes nothing.
use Rattle.numbers.proofs.Telling.{replied}
use Rattle.edge.proofs.connection.connect.Goals as goal

pub returns : goal.returns
returns c =
    (replied c.connect.result _ _ c.connect.ensures.0 c.from.ensures, c.connect.ensures.1)
