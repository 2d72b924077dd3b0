use native.Mathlib.Omega.{arith}
use Rattle.wire.proofs.Sets.{fill}
use Rattle.state.proofs.inner.fill.Goals as goal

pub loop-x-preserved : goal.loop-x-preserved
loop-x-preserved g c = fill _ c.args.xs.now _ _ (omega arith) c.loop-x.invariant
