use native.Mathlib.Omega.{arith}
use Rattle.text.proofs.Turns.{pair_short, pair_more, pair_end}
use Rattle.text.proofs.inner.hex.Goals as goal

pub byte-low-requires : goal.byte-low-requires
byte-low-requires c =
    omega (arith, pair_short _ _ _ _ _ _ c.loop-b.invariant c.requires c.loop-b-test.true)

pub byte-next-requires : goal.byte-next-requires
byte-next-requires c =
    omega (arith, c.byte-low.ensures.place, pair_short _ _ _ _ _ _ c.loop-b.invariant c.requires c.loop-b-test.true)

pub loop-b-preserved : goal.loop-b-preserved
loop-b-preserved c =
    pair_more _ _ _ _ _ _ c.loop-b.invariant _ _ _ _ _ _ c.loop-b-test.true c.digit.ensures c.byte-low.ensures c.digit-in-loop-b.ensures c.byte-next.ensures

pub returns : goal.returns
returns c = pair_end _ _ _ _ _ _ c.loop-b.invariant (omega (arith, c.loop-b-test.false))
