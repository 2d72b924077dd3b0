-- `table_view::inner::value_len` meets its contract. A law for each case.
-- Assumes nothing.
use mathlib.Core.Path.{sym, ◌∙◌}
use native.Mathlib.Omega.{arith}
use Rattle.table_view.proofs.Cases.{head_var, len_var, len_fixed}
use Rattle.table_view.proofs.inner.value_len.Goals as goal

pub number-requires : goal.number-requires
number-requires c =
    omega (arith, head_var _ _ (sym c.is_variable.ensures ∙ c.if-is_variable.true))

pub returns-then-is_variable : goal.returns-then-is_variable
returns-then-is_variable c =
    ((cc) ∙ sym (len_var _ _ (sym c.is_variable.ensures ∙ c.if-is_variable.true)), omega arith)

pub returns-else-is_variable : goal.returns-else-is_variable
returns-else-is_variable c = (c.capacity.ensures.0 ∙ sym (len_fixed _ _ (sym c.is_variable.ensures ∙ c.if-is_variable.false)), omega arith)
