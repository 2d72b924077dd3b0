use mathlib.Core.Path.{sym, ◌∙◌}
use native.Mathlib.Omega.{arith}
use Rattle.table_view.proofs.Reading.{next_value, bad_value, last_value}
use Rattle.table_view.proofs.Shape.{between}
use Rattle.table_view.proofs.inner.values_ok.Goals as goal

pub value_ok-requires : goal.value_ok-requires
value_ok-requires c =
    let b = between _ c.requires.t_value c.loop-i.i (omega arith) in
    record { t_in_bounds = omega (arith, b.high); p_bound = omega (arith, b.high) }

pub returns-then-not-value_ok : goal.returns-then-not-value_ok
returns-then-not-value_ok c =
    bad_value _ _ _ _ c.loop-i.invariant c.loop-i-test.true
    (sym c.value_ok.ensures ∙ c.if-not-value_ok.true)

pub loop-i-preserved : goal.loop-i-preserved
loop-i-preserved c =
    next_value _ _ _ _ c.loop-i.invariant c.loop-i-test.true
    (sym c.value_ok.ensures ∙ c.if-not-value_ok.false)

pub returns : goal.returns
returns c = last_value _ _ _ _ c.loop-i.invariant (omega (arith, c.loop-i-test.false))
