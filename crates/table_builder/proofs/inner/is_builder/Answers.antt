-- `table_builder::inner::is_builder` meets its contract. On a table the last test decides, and the part that it looks
-- at is all that follows the index (`tail`).
-- Assumes nothing.
use mathlib.Core.Bool.{true}
use mathlib.Core.Path.{◌≡◌, sym, ap, ◌∙◌}
use native.Mathlib.Omega.{arith}
use Rattle.table_view.specs.Rules.{accepts}
use Rattle.wire.specs.Bytes.{zeros}
use Rattle.table_builder.proofs.Laws.{by_zeros}
use Rattle.table_view.proofs.Shape.{long, fits}
use Rattle.wire.proofs.Sets.{tail}
use Rattle.table_builder.proofs.inner.is_builder.Goals as goal
use Rattle.table_builder.proofs.inner.is_builder.Goals.{Else-not-is_table}

ok : (c : Else-not-is_table) →
    accepts c.args.b.now ≡ true
ok c = sym c.is_table.ensures ∙ c.if-not-is_table.false

pub values_base-from-requires : goal.values_base-from-requires
values_base-from-requires c = long _ (ok (goal.at.values_base-from-requires c).Else-not-is_table)

pub slice_bounds-is_zero-count : goal.slice_bounds-is_zero-count
slice_bounds-is_zero-count c = omega (arith, fits _ (ok (goal.at.slice_bounds-is_zero-count c).Else-not-is_table))

pub slice_bounds-is_zero-start : goal.slice_bounds-is_zero-start
slice_bounds-is_zero-start c = omega (arith, fits _ (ok (goal.at.slice_bounds-is_zero-start c).Else-not-is_table))

pub returns : goal.returns
returns c =
    c.is_zero.ensures ∙ ap zeros (tail c.args.b.now c.values_base-from.result)
    ∙ rw c.values_base-from.ensures.0 (by_zeros _ (ok (goal.at.returns c).Else-not-is_table))
