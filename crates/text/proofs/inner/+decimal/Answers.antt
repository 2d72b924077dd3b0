-- The proof of the cycle of calls {decimal}: the tenth of a number of two digits or more is less than it. Assumes
-- nothing.
use native.Mathlib.Omega.{arith}
use Rattle.text.proofs.Digits.{one_long, one_longer, digit_put, last_put}
use Rattle.text.proofs.inner.+decimal.Goals as goal

pub byte-requires : goal.byte-requires
byte-requires t c = omega (arith, c.requires, one_long c.args.n (omega (arith, c.if-n-le9.true)))

pub returns-then-n-le9 : goal.returns-then-n-le9
returns-then-n-le9 t c = digit_put _ _ _ _ _ _ c.digit.ensures c.byte.ensures (omega (arith, c.if-n-le9.true))

pub decimal-last-requires : goal.decimal-last-requires
decimal-last-requires t c =
    let e = one_longer c.args.n (omega (arith, c.if-n-le9.false)) in
    (omega (arith, c.decreases), omega (arith, c.requires, e))

pub byte-requires-2 : goal.byte-requires-2
byte-requires-2 t c =
    omega (arith, c.requires, c.decimal-last.ensures.place, one_longer c.args.n (omega (arith, c.if-n-le9.false)))

pub returns : goal.returns
returns t c =
    last_put _ _ _ _ _ _ _ _ c.decimal-last.ensures c.digit-2.ensures c.byte-2.ensures (omega (arith, c.if-n-le9.false))
