use mathlib.Core.Path.{sym, ◌∙◌}
use native.Mathlib.Omega.{arith}
use Rattle.table_builder.proofs.Laws.{is_table}
use Rattle.table_view.proofs.Shape.{long}
use Rattle.table_view.specs.Layout.{count_of}
use Rattle.eight_tables.proofs.Values.{next_value, bad_value, last_value}
use Rattle.eight_tables.proofs.inner.values_ok.Goals as goal

pub count-i-end-requires : goal.count-i-end-requires
count-i-end-requires c = long _ (is_table _ c.requires.tables_len.2)

pub value_ok-requires : goal.value_ok-requires
value_ok-requires c = record {
  tables_len = (c.requires.tables_len.0, c.requires.tables_len.1, c.requires.tables_len.2, omega (arith, c.count-i-end.ensures.0));
  tables_value = c.requires.tables_value;
}

pub returns-then-not-value_ok : goal.returns-then-not-value_ok
returns-then-not-value_ok c =
    bad_value c.args.tables.now (count_of c.args.fresh.now) _ _ c.loop-i.invariant (omega (arith, c.count-i-end.ensures.0))
    (sym c.value_ok.ensures ∙ c.if-not-value_ok.true)

pub loop-i-preserved : goal.loop-i-preserved
loop-i-preserved c =
    next_value c.args.tables.now (count_of c.args.fresh.now) _ _ c.loop-i.invariant (omega (arith, c.count-i-end.ensures.0))
    (sym c.value_ok.ensures ∙ c.if-not-value_ok.false)

pub returns : goal.returns
returns c =
    last_value c.args.tables.now (count_of c.args.fresh.now) c.loop-i.i _ c.loop-i.invariant
    (omega (arith, c.count-i-end.ensures.0, c.loop-i-test.false))
