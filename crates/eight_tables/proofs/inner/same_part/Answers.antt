use mathlib.Core.Path.{refl, ap, ◌∙◌}
use Prim.Native.Nat.{ℕ}
use native.Mathlib.Omega.{arith}
use lib.Dec.{eqb}
use lib.ListN.{get_or}
use Rattle.wire.specs.Test.{both}
use Rattle.eight_tables.specs.Tables.{every}
use Rattle.eight_tables.proofs.Columns.{column_turn, column_end}
use Rattle.eight_tables.proofs.inner.same_part.Goals as goal

pub loop-j-init : goal.loop-j-init
unfolding both
loop-j-init g c = (λ f h. refl, λ h. absurd (omega arith))

pub loop-j-preserved : goal.loop-j-preserved
loop-j-preserved g c = (
  λ f h.
      column_turn f c.args.tables.now c.loop-j.acc _ _ _ _ (c.loop-j.invariant.0 f h) (omega arith)
      (c.column-acc.ensures.0 ∙ ap (λ (b : ℕ). every (λ t. eqb (get_or t c.loop-j.j 0) b) c.args.tables.now) (h _ _ c.byte.ensures)),
  λ h. c.column-acc.ensures.1,
)

pub returns-clause-all : goal.returns-clause-all
returns-clause-all g c f h =
    column_end f c.args.tables.now c.loop-j.acc 0 _ _ _ (c.loop-j.invariant.0 f h) (omega (arith, c.loop-j-test.false))
