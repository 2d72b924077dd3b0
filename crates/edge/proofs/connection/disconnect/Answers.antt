-- `edge::connection::disconnect` meets its contract. The answer becomes a reply; the state is as the server leaves it.
-- Assumes nothing.
use Rattle.numbers.proofs.Telling.{replied}
use Rattle.edge.proofs.connection.disconnect.Goals as goal

pub returns : goal.returns
returns c = (
  replied c.disconnect.result _ _ c.disconnect.ensures.0 c.from.ensures,
  c.disconnect.ensures.1,
)
