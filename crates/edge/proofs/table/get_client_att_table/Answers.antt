-- `edge::table::get_client_att_table` meets its contract. The answer into the buffer becomes a reply. Assumes nothing.
use Rattle.edge.proofs.Telling.{delivered}
use Rattle.edge.proofs.table.get_client_att_table.Goals as goal

pub returns : goal.returns
returns c = delivered _ _ _ _ _ c.get_client_att_table.ensures c.from.ensures
