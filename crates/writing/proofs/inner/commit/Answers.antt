-- `writing::inner::commit` meets its contract. Nothing is due, or the pending write: a law for each. Assumes nothing.
use Rattle.writing.proofs.Changing.{other_flags, nothing_pending, is_due_lem}
use Rattle.model.specs.Answer.{execute_access}
use Rattle.model.specs.Change.{state_after}
use Rattle.model.specs.View.{pending_of}
use mathlib.Core.Path.{refl}
use Rattle.writing.proofs.inner.commit.Goals as goal

pub returns-then-flags-ne1 : goal.returns-then-flags-ne1
unfolding execute_access state_after
returns-then-flags-ne1 c =
    rw (other_flags (pending_of c.args.p c.args.bytes.now) _ c.if-flags-ne1.true) (refl, λ row. refl)

pub returns-then-p-eq0 : goal.returns-then-p-eq0
unfolding execute_access state_after
returns-then-p-eq0 c =
    rw (nothing_pending (pending_of c.args.p c.args.bytes.now) _ c.if-p-eq0.true c.if-flags-ne1.false)
    (refl, λ row. refl)

pub returns : goal.returns
unfolding execute_access state_after
returns c =
    rw (is_due_lem (pending_of c.args.p c.args.bytes.now) _ c.if-p-eq0.false c.if-flags-ne1.false) c.write.ensures
