-- `table_view::inner::next_at` meets its contract. A law for each case.
-- Assumes nothing.
use mathlib.Core.Path.{sym, ◌∙◌}
use native.Mathlib.Omega.{arith}
use Rattle.table_view.proofs.Cases.{next_inner, next_last}
use Rattle.table_view.proofs.inner.next_at.Goals as goal

pub returns-then-i-number : goal.returns-then-i-number
returns-then-i-number c = (c.offset_at.ensures.0 ∙ sym (next_inner _ _ (omega arith)), omega arith)

pub returns-else-i-number : goal.returns-else-i-number
returns-else-i-number c = (c.number-else-i-number.ensures.0 ∙ sym (next_last _ _ (omega arith)), omega arith)
