-- `eight_tables::inner::value_ok` meets its contract. Assumes nothing.
use Rattle.eight_tables.proofs.Values.{all_fixed, all_within}
use Rattle.table_builder.proofs.Laws.{is_table}
use Rattle.table_view.proofs.Cases.{head_var}
use Rattle.table_view.proofs.Shape.{long, fits, entry_at}
use mathlib.Core.Path.{sym, ◌∙◌}
use native.Mathlib.Omega.{arith}
use Rattle.eight_tables.proofs.inner.value_ok.Goals as goal

pub is_variable-requires : goal.is_variable-requires
is_variable-requires c =
    omega (arith, fits _ (is_table _ c.requires.tables_len.2), c.requires.tables_len)

pub returns-then-not-is_variable : goal.returns-then-not-is_variable
returns-then-not-is_variable c =
    all_fixed c.args.fresh.now c.args.tables.now c.requires.tables_len.1 (is_table _ c.requires.tables_len.2)
    c.requires.tables_value.0 c.requires.tables_value.1 c.args.p.0 c.requires.tables_len.3
    (sym c.is_variable.ensures ∙ c.if-not-is_variable.true)

pub values_base-requires : goal.values_base-requires
values_base-requires c =
    long _ (is_table _ c.requires.tables_len.2)

pub offset_at-requires : goal.offset_at-requires
offset_at-requires c =
    omega (arith, fits _ (is_table _ c.requires.tables_len.2), c.requires.tables_len)

pub capacity-requires : goal.capacity-requires
capacity-requires c =
    (omega (arith, fits _ (is_table _ c.requires.tables_len.2)), c.requires.tables_len.3)

pub at_most-requires : goal.at_most-requires
at_most-requires c =
    let e = entry_at _ (is_table _ c.requires.tables_len.2) _ c.requires.tables_len.3 in (
      c.requires.tables_len.0,
      omega (
        arith,
        fits _ (is_table _ c.requires.tables_len.2),
        c.requires.tables_len.1,
        c.values_base.ensures.0,
        c.offset_at.ensures.0,
        e.room,
        e.within,
        head_var _ _ (sym c.is_variable.ensures ∙ c.if-not-is_variable.false),
      ),
    )

pub returns : goal.returns
returns c =
    c.at_most.ensures ∙ rw (c.values_base.ensures.0, c.offset_at.ensures.0, c.capacity.ensures.0)
    (all_within c.args.fresh.now c.args.tables.now c.requires.tables_len.1 (is_table _ c.requires.tables_len.2)
    c.requires.tables_value.0 c.requires.tables_value.1 c.args.p.0 c.requires.tables_len.3
    (sym c.is_variable.ensures ∙ c.if-not-is_variable.false))
