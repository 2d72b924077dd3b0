-- `wire::inner::copy` meets its contract: a byte is stored a turn, and at the end none is left to store. Assumes nothing.
use mathlib.Core.Path.{refl}
use native.Mathlib.Nat.{add-zero}
use native.Mathlib.Omega.{arith}
use lib.ListN.{length-set}
use Rattle.wire.proofs.Sets.{store, stored}
use Rattle.wire.proofs.inner.copy.Goals as goal

pub loop-i-init : goal.loop-i-init
loop-i-init c = (refl, simp add-zero)

pub loop-i-preserved : goal.loop-i-preserved
loop-i-preserved c = (simp length-set (omega arith), store _ _ _ _ _ c.loop-i-test.true c.loop-i.invariant.1)

pub returns-after-loop-i : goal.returns-after-loop-i
returns-after-loop-i c = stored _ c.args.d.now _ _ c.loop-i.i (omega (arith, c.loop-i-test.false)) c.loop-i.invariant.1
