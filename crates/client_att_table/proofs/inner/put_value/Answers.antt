-- `client_att_table::inner::put_value` meets its contract. A length, a copy and zeros, in the code's own numbers;
-- `took` says that this is what is asked. Assumes nothing.
use native.Mathlib.Omega.{arith}
use lib.ListN.{length-take}
use Rattle.client_att_table.proofs.Taking.{took}
use Rattle.table_view.proofs.Shape.{fits, room_fits}
use Rattle.client_att_table.proofs.inner.put_value.Goals as goal

pub value_start-from-requires : goal.value_start-from-requires
value_start-from-requires c =
    omega (arith, fits _ c.requires.0)

pub capacity-cap-requires : goal.capacity-cap-requires
capacity-cap-requires c =
    omega (arith, fits _ c.requires.0, c.requires.1)

pub set_variable_len-requires : goal.set_variable_len-requires
set_variable_len-requires c =
    c.requires

pub copy-requires : goal.copy-requires
copy-requires c =
    let r = room_fits _ c.requires.0 _ c.requires.1 in
    simp length-take (omega (arith, fits _ c.requires.0, c.min-n.ensures))

pub zero_at-requires : goal.zero_at-requires
zero_at-requires c =
    let r = room_fits _ c.requires.0 _ c.requires.1 in
    omega (arith, fits _ c.requires.0, c.min-n.ensures)

pub returns : goal.returns
returns c =
    took _ c.args.v.now _ _ _ _ _ _ _ c.value_start-from.ensures.0 c.capacity-cap.ensures.0
    c.min-n.ensures c.set_variable_len.ensures c.copy.ensures
    c.zero_at.ensures
