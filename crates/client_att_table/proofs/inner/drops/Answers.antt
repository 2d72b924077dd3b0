-- `client_att_table::inner::drops` meets its contract: a fixed value drops nothing, nor does one that is no longer than
-- n. Assumes nothing.
use native.Mathlib.Omega.{arith}
use Rattle.table_view.proofs.Shape.{fits, entry_at}
use Rattle.client_att_table.proofs.inner.drops.Goals as goal

pub is_variable-requires : goal.is_variable-requires
is_variable-requires c = omega (arith, fits _ c.requires.0)

pub value_len-len-requires : goal.value_len-len-requires
value_len-len-requires c =
    let e = entry_at _ c.requires.0 _ c.requires.1 in
    record { t_in_bounds = omega (arith, fits _ c.requires.0); p_in_bounds = omega (arith, fits _ c.requires.0) }
