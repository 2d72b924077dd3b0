-- `table_view::inner::is_table` meets its contract. A law for each answer, in the order of the tests. Assumes nothing.
use mathlib.Core.Path.{sym, ◌∙◌}
use native.Mathlib.Omega.{arith}
use Rattle.table_view.proofs.Reading.{short, unfit, bad_index, by_values}
use Rattle.table_view.proofs.inner.is_table.Goals as goal

pub returns-then-raw-lt4 : goal.returns-then-raw-lt4
returns-then-raw-lt4 c = short _ (omega arith)

pub returns-then-raw-values_end : goal.returns-then-raw-values_end
returns-then-raw-values_end c = unfit _ (omega arith) (omega arith)

pub returns-then-not-index_ok : goal.returns-then-not-index_ok
returns-then-not-index_ok c = bad_index _ (omega arith) (omega arith) (sym c.index_ok.ensures ∙ c.if-not-index_ok.true)

pub values_ok-requires : goal.values_ok-requires
values_ok-requires c = record { in_bounds = omega arith; t_value = sym c.index_ok.ensures ∙ c.if-not-index_ok.false }

pub returns : goal.returns
returns c =
    c.values_ok.ensures ∙ by_values _ (omega arith) (omega arith)
    (sym c.index_ok.ensures ∙ c.if-not-index_ok.false)
