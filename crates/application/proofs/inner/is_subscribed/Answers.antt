-- `application::inner::is_subscribed` meets its contract. By the slot, whose table is a table. Assumes nothing.
use mathlib.Core.Path.{◌∙◌}
use native.Mathlib.Omega.{arith}
use Rattle.storing.proofs.Tables.{slot_there, slot_accepts}
use Rattle.application.proofs.Peers.{no_subscription, in_slot}
use Rattle.application.proofs.inner.is_subscribed.Goals as goal

pub returns-in_default : goal.returns-in_default
returns-in_default c = no_subscription _ _ _ _ c.in_default.is

pub offset_bounds-tables-k : goal.offset_bounds-tables-k
offset_bounds-tables-k c =
    omega (arith, slot_there _ _ c.requires.0 _ c.in-Some.is, c.requires.0.tables.eight)

pub bounds-tables-k : goal.bounds-tables-k
bounds-tables-k c =
    slot_there _ _ c.requires.0 _ c.in-Some.is

pub has_bit-requires : goal.has_bit-requires
has_bit-requires c =
    (slot_accepts _ _ c.requires.0 _ c.in-Some.is, c.requires.1)

pub returns : goal.returns
returns c =
    c.has_bit.ensures ∙ in_slot _ _ _ _ _ c.in-Some.is
