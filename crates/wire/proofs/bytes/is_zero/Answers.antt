use mathlib.Core.Path.{refl}
use native.Mathlib.Omega.{arith}
use Rattle.wire.specs.Test.{both}
use Rattle.wire.proofs.Fold.{zeros_turn, zeros_end}
use Rattle.wire.proofs.bytes.is_zero.Goals as goal

pub loop-x-init : goal.loop-x-init
unfolding both
loop-x-init c = refl

pub loop-x-preserved : goal.loop-x-preserved
loop-x-preserved c = zeros_turn c.args.s.now c.loop-x.acc _ _ c.loop-x.invariant c.loop-x-test.true

pub returns : goal.returns
returns c = zeros_end c.args.s.now c.loop-x.acc _ _ c.loop-x.invariant (omega (arith, c.loop-x-test.false))
