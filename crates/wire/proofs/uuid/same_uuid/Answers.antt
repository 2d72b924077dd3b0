-- `wire::uuid::same_uuid` meets its contract. Of one length, the bytes decide; of two, a short one is widened. Assumes
-- nothing.
use mathlib.Core.Path.{◌∙◌}
use native.Mathlib.Omega.{arith}
use Rattle.wire.specs.Uuid.{same_uuid}
use Rattle.wire.proofs.Widening.{one_length, long_pair, wide_long}
use Rattle.wire.proofs.uuid.same_uuid.Goals as goal

pub returns-then-u-v : goal.returns-then-u-v
returns-then-u-v c = c.same.ensures ∙ one_length _ _ c.if-u-v.true

pub returns-then-u-eq2 : goal.returns-then-u-eq2
unfolding same_uuid
returns-then-u-eq2 c =
    c.same-then-u-eq2.ensures ∙ rw (c.widen.ensures, wide_long c.args.v.now (λ e. omega arith))

pub returns-then-v-eq2 : goal.returns-then-v-eq2
unfolding same_uuid
returns-then-v-eq2 c =
    c.same-then-v-eq2.ensures ∙ rw (c.widen-then-v-eq2.ensures, wide_long c.args.u.now (λ e. omega arith))

pub returns : goal.returns
returns c = long_pair _ _ c.if-u-v.false c.if-u-eq2.false c.if-v-eq2.false
