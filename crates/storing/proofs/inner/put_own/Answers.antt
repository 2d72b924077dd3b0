-- `storing::inner::put_own` meets its contract. One table is lent on, that of the slot. Assumes nothing.
use Rattle.storing.proofs.Owning.{no_slot, in_slot}
use Rattle.storing.proofs.Tables.{slot_accepts}
use Rattle.storing.proofs.inner.put_own.Goals as goal

pub returns-in_default : goal.returns-in_default
returns-in_default c =
    let a = c.args in
    no_slot a.tables.now _ _ _ a.d.now c.in_default.is

pub returns : goal.returns
returns c =
    let a = c.args in
    let s = c.in-Some.is in
    let w = c.write.ensures in
    in_slot a.tables.now _ _ _ a.d.now _ s (slot_accepts _ _ c.requires _ s) _ _ w.0 w.1
