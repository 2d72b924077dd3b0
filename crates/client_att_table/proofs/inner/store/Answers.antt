-- `client_att_table::inner::store` meets its contract. Data and zeros lie within the value's room, which lies within
-- the bytes. Assumes nothing.
use native.Mathlib.Omega.{arith}
use Rattle.client_att_table.proofs.Writing.{stored_done, tail_fits}
use Rattle.table_view.proofs.Shape.{fits, room_fits}
use Rattle.client_att_table.proofs.inner.store.Goals as goal

pub value_start-requires : goal.value_start-requires
value_start-requires c =
    omega (arith, fits _ c.requires.t_value.0)

pub drops-tail-requires : goal.drops-tail-requires
drops-tail-requires c =
    c.requires.t_value

pub set_variable_len-requires : goal.set_variable_len-requires
set_variable_len-requires c =
    c.requires.t_value

pub copy-requires : goal.copy-requires
copy-requires c =
    omega (arith, c.requires.d_bound.0, room_fits _ c.requires.t_value.0 _ c.requires.t_value.1, fits _ c.requires.t_value.0)

pub zero_at-requires : goal.zero_at-requires
zero_at-requires c =
    let ok = c.requires.t_value.0 in
    let tail = tail_fits _ ok _ c.requires.t_value.1 _ _ c.drops-tail.ensures (omega (arith, c.requires.d_bound.0)) in
    omega (arith, tail, room_fits _ ok _ c.requires.t_value.1, fits _ ok)

pub returns : goal.returns
returns c =
    stored_done _ _ _ _ _ _ _ _ _ _ c.drops-tail.ensures c.set_variable_len.ensures c.copy.ensures
    c.zero_at.ensures (omega arith) (omega (arith, c.value_start.ensures.0))
