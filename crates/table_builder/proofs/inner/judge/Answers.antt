-- `table_builder::inner::judge` meets its contract: its tests are the plan's. A builder is a table, which is what the
-- calls on it ask for. Assumes nothing.
use mathlib.Core.Path.{sym, ◌∙◌}
use native.Mathlib.Omega.{arith}
use Rattle.table_builder.proofs.Laws.{is_table}
use Rattle.table_view.proofs.Shape.{long, fits}
use Rattle.table_builder.proofs.inner.judge.Goals as goal

pub last_key-requires : goal.last_key-requires
last_key-requires c =
    let t = is_table _ (sym c.is_builder.ensures ∙ c.if-not-is_builder.false) in
    omega (arith, long _ t, fits _ t)

pub values_end-requires : goal.values_end-requires
values_end-requires c = long _ (is_table _ (sym c.is_builder.ensures ∙ c.if-not-is_builder.false))
