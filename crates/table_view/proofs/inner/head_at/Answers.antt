-- `table_view::inner::head_at` meets its contract. A law for each case.
-- Assumes nothing.
use mathlib.Core.Path.{sym, ◌∙◌}
use native.Mathlib.Omega.{arith}
use Rattle.table_view.proofs.Cases.{head_var, head_fixed}
use Rattle.table_view.proofs.inner.head_at.Goals as goal

pub returns-then-is_variable : goal.returns-then-is_variable
returns-then-is_variable c = (sym (head_var _ _ (sym c.is_variable.ensures ∙ c.if-is_variable.true)), omega arith)

pub returns-else-is_variable : goal.returns-else-is_variable
returns-else-is_variable c = (sym (head_fixed _ _ (sym c.is_variable.ensures ∙ c.if-is_variable.false)), omega arith)
