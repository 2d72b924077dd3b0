-- `table_view::try_from_raw` meets its contract: the test's two answers. Assumes nothing.
use mathlib.Core.Path.{refl, sym, ◌∙◌}
use Rattle.table_view.specs.Read.{read_of, read_told}
use Rattle.table_view.proofs.try_from_raw.Goals as goal

pub returns-then-is_table : goal.returns-then-is_table
unfolding read_of read_told
returns-then-is_table c = rw (sym c.is_table.ensures ∙ c.if-is_table.true) (refl, refl)

pub returns-else-is_table : goal.returns-else-is_table
unfolding read_of read_told
returns-else-is_table c = rw (sym c.is_table.ensures ∙ c.if-is_table.false) (refl, refl)
