-- `edge::table::set_client_att_table` meets its contract. The answer becomes a reply; the tables are as the server
-- leaves them. Assumes nothing.
use Rattle.numbers.proofs.Telling.{replied}
use Rattle.edge.proofs.table.set_client_att_table.Goals as goal

pub returns : goal.returns
returns c = (
  replied c.set_client_att_table.result _ _ c.set_client_att_table.ensures.0
      c.from.ensures,
  c.set_client_att_table.ensures.1,
)
