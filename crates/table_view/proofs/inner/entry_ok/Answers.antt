-- `table_view::inner::entry_ok` meets its contract. A law for each answer, in the order of the tests. Assumes nothing.
use mathlib.Core.Path.{◌∙◌}
use native.Mathlib.Omega.{arith}
use Rattle.table_view.proofs.Reading.{low_key, low_offset, by_end}
use Rattle.table_view.proofs.inner.entry_ok.Goals as goal

pub returns-then-key_at-last : goal.returns-then-key_at-last
returns-then-key_at-last c = low_key _ _ _ _ (omega arith)

pub returns-then-off-from : goal.returns-then-off-from
returns-then-off-from c = low_offset _ _ _ _ (omega arith) (omega arith)

pub returns : goal.returns
returns c = (cc) ∙ by_end _ _ _ _ (omega arith) (omega arith)
