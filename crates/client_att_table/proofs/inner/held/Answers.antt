-- `client_att_table::inner::held` meets its contract: a value that was found lies in the table. Assumes nothing.
use mathlib.Core.Path.{sym, ◌∙◌}
use Rattle.table_view.proofs.Search.{placed}
use Rattle.client_att_table.proofs.inner.held.Goals as goal

pub value-requires : goal.value-requires
value-requires c = (c.requires.0, (placed _ _ _ (sym c.requires.1.1 ∙ c.in-Some.is)).inside)
