use mathlib.Core.Path.{refl}
use native.Mathlib.Omega.{arith}
use borrow.Author.Tests.{eq-eqb}
use Rattle.wire.specs.Test.{both}
use Rattle.eight_tables.specs.Tables.{sized}
use Rattle.eight_tables.proofs.Columns.{every_by, table_turn, table_end}
use Rattle.eight_tables.proofs.inner.column.Goals as goal

pub loop-k-init : goal.loop-k-init
unfolding both
loop-k-init c = refl

pub loop-k-preserved : goal.loop-k-preserved
loop-k-preserved c = table_turn c.args.j c.args.f c.args.tables.now c.loop-k.acc _ _ c.loop-k.invariant (omega arith)

pub returns : goal.returns
unfolding sized
returns c = (
  table_end c.args.j c.args.f c.args.tables.now c.loop-k.acc _ _ c.loop-k.invariant (omega (arith, c.loop-k-test.false)),
  every_by sized c.args.tables.now (λ i l. eq-eqb _ _ (c.told-tables i l)),
)
