use mathlib.Core.Path.{sym, ◌∙◌}
use native.Mathlib.Omega.{arith}
use Rattle.table_view.proofs.Reading.{next_entry, bad_entry, last_entry}
use Rattle.table_view.proofs.inner.index_ok.Goals as goal

pub returns-then-not-entry_ok : goal.returns-then-not-entry_ok
returns-then-not-entry_ok c =
    bad_entry _ _ _ _ _ _ c.loop-i.invariant c.loop-i-test.true
    (sym c.entry_ok.ensures ∙ c.if-not-entry_ok.true)

pub loop-i-preserved : goal.loop-i-preserved
loop-i-preserved c =
    rw (c.key_at-last.ensures, c.offset_at-from.ensures.0) (next_entry _ _ _ _ _ _ c.loop-i.invariant
    c.loop-i-test.true (sym c.entry_ok.ensures ∙ c.if-not-entry_ok.false))

pub returns : goal.returns
returns c = last_entry _ _ _ _ _ _ c.loop-i.invariant (omega (arith, c.loop-i-test.false))
