-- `wire::inner::zero_at` meets its contract. A part is lent. `zero_back` turns what `zero` ensures of the part into
-- what holds of the whole.
-- Assumes nothing.
use native.Mathlib.Omega.{arith}
use Rattle.wire.proofs.Sets.{zero_back}
use Rattle.wire.proofs.inner.zero_at.Goals as goal

pub returns : goal.returns
returns c =
    zero_back c.args.at c.args.n c.args.b.now _ (omega arith) c.zero.ensures
