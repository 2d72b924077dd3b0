-- `client_att_table::inner::clear` meets its contract: zeros from the base to the end. Assumes nothing.
use native.Mathlib.Omega.{arith}
use Rattle.table_view.proofs.Shape.{long, fits}
use Rattle.client_att_table.proofs.inner.clear.Goals as goal

pub values_base-from-requires : goal.values_base-from-requires
values_base-from-requires c = long _ c.requires

pub number-n-requires : goal.number-n-requires
number-n-requires c =
    omega (arith, long _ c.requires)

pub zero_at-requires : goal.zero_at-requires
zero_at-requires c =
    omega (arith, fits _ c.requires)
