-- `client_att_table::inner::set_variable_len` meets its contract. A variable value has room for its length's two bytes.
-- Assumes nothing.
use mathlib.Core.Path.{sym, ◌∙◌}
use native.Mathlib.Omega.{arith}
use Rattle.table_view.proofs.Cases.{head_var}
use Rattle.table_view.proofs.Shape.{fits, entry_at}
use Rattle.client_att_table.proofs.inner.set_variable_len.Goals as goal

pub is_variable-requires : goal.is_variable-requires
is_variable-requires c = omega (arith, fits _ c.requires.0)

pub values_base-requires : goal.values_base-requires
values_base-requires c =
    omega (arith, fits _ c.requires.0)

pub offset_at-requires : goal.offset_at-requires
offset_at-requires c =
    omega (arith, fits _ c.requires.0)

pub set-requires : goal.set-requires
set-requires c =
    let e = entry_at _ c.requires.0 _ c.requires.1 in
    let two = head_var _ _ (sym c.is_variable.ensures ∙ c.if-is_variable.true) in
    omega (arith, fits _ c.requires.0)
