-- `values::inner::locate_own` meets its contract. The key is found, or it is not: a law for each. Assumes nothing.
use Rattle.values.proofs.Ways.{none_own, one_own}
use Rattle.table_view.proofs.Shape.{fits, entry_at}
use Rattle.table_view.proofs.Search.{placed}
use mathlib.Core.Path.{sym, ◌∙◌}
use native.Mathlib.Omega.{arith}
use Rattle.values.proofs.inner.locate_own.Goals as goal

pub find-requires : goal.find-requires
find-requires c = c.requires

pub returns-in_default : goal.returns-in_default
returns-in_default c = none_own _ _ (sym c.find.ensures ∙ c.in_default.is)

pub value_start-requires : goal.value_start-requires
value_start-requires c =
    let i = (placed _ _ _ (sym c.find.ensures ∙ c.in-Some.is)).inside in
    omega (arith, fits _ c.requires)

pub value_len-requires : goal.value_len-requires
value_len-requires c =
    let i = (placed _ _ _ (sym c.find.ensures ∙ c.in-Some.is)).inside in
    let e = entry_at _ c.requires _ i in
    record { t_in_bounds = omega (arith, fits _ c.requires); p_in_bounds = omega (arith, fits _ c.requires) }

pub returns : goal.returns
returns c =
    one_own _ _ _ _ _ (sym c.find.ensures ∙ c.in-Some.is) c.value_start.ensures.0 c.value_len.ensures.0
