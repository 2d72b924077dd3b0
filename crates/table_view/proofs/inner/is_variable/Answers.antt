-- `table_view::inner::is_variable` meets its contract. By congruence from what `get` ensures.
-- Assumes nothing.
use Rattle.table_view.proofs.inner.is_variable.Goals as goal

pub returns : goal.returns
returns c = cc
