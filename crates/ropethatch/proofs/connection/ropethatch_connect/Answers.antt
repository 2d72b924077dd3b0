-- `ropethatch::connection::ropethatch_connect` meets its contract. Of other than eight slots it is refused; else the one
-- slot that changes is stored, as the covered call promises it. Assumes nothing.
use mathlib.Core.Path.{◌∙◌}
use Rattle.state.specs.State.{state}
use Rattle.ropethatch.proofs.Refusing.{not_connected}
use Rattle.ropethatch.proofs.connection.ropethatch_connect.Goals as goal

pub returns-then-slots-ne-SLOTS : goal.returns-then-slots-ne-SLOTS
returns-then-slots-ne-SLOTS c =
    let a = c.args in
    let e = not_connected (state a.list.now a.store.now a.slots.now a.tables.now) a.who c.if-slots-ne-SLOTS.true in
    (c.refused.ensures ∙ e.0, e.1)
