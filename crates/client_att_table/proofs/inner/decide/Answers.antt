-- `client_att_table::inner::decide` meets its contract: its tests are the plan's. What was found is an entry, and an
-- entry lies in the table. Assumes nothing.
use mathlib.Core.Path.{sym, ◌∙◌}
use native.Mathlib.Omega.{arith}
use Rattle.table_view.proofs.Search.{placed}
use Rattle.table_view.proofs.Shape.{fits, entry_at}
use Rattle.client_att_table.proofs.inner.decide.Goals as goal

pub value_len-requires : goal.value_len-requires
value_len-requires c =
    let i = (placed _ _ _ (sym c.find.ensures ∙ c.in-Some.is)).inside in
    let e = entry_at _ c.requires.0 _ i in
    record { t_in_bounds = omega (arith, fits _ c.requires.0); p_in_bounds = omega (arith, fits _ c.requires.0) }

pub capacity-requires : goal.capacity-requires
capacity-requires c =
    let i = (placed _ _ _ (sym c.find.ensures ∙ c.in-Some.is)).inside in
    omega (arith, fits _ c.requires.0)
