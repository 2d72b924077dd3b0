-- `table_view::inner::value_ok` meets its contract. A law for each answer, in the order of the tests. Assumes nothing.
use mathlib.Core.Path.{sym, ◌∙◌}
use native.Mathlib.Omega.{arith}
use Rattle.table_view.proofs.Reading.{fixed_value, no_room, by_length}
use Rattle.table_view.proofs.inner.value_ok.Goals as goal

pub returns-then-not-is_variable : goal.returns-then-not-is_variable
returns-then-not-is_variable c = fixed_value _ _ (sym c.is_variable.ensures ∙ c.if-not-is_variable.true)

pub returns-then-next-off : goal.returns-then-next-off
returns-then-next-off c =
    no_room _ _ (sym c.is_variable.ensures ∙ c.if-not-is_variable.false) (omega arith)

pub returns : goal.returns
returns c =
    (cc) ∙ by_length _ _ (sym c.is_variable.ensures ∙ c.if-not-is_variable.false) (omega arith)
