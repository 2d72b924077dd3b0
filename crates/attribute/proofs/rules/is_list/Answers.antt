use mathlib.Core.Path.{sym, ◌∙◌}
use native.Mathlib.Omega.{arith}
use Rattle.attribute.proofs.Reading.{good_entry, bad_entry, no_entry}
use Rattle.attribute.proofs.rules.is_list.Goals as goal

pub returns-then-not-entry_ok : goal.returns-then-not-entry_ok
returns-then-not-entry_ok c =
    sym (bad_entry c.args.list.now _ _ _ _ c.loop-r-test.true
    (sym c.entry_ok.ensures ∙ c.if-not-entry_ok.true)) ∙ c.loop-r.invariant

pub loop-r-preserved : goal.loop-r-preserved
loop-r-preserved c =
    rw (c.end_after-end.ensures, c.decode-a.ensures) (sym (good_entry c.args.list.now _ _ _ _
    c.loop-r-test.true (sym c.entry_ok.ensures ∙ c.if-not-entry_ok.false)) ∙ c.loop-r.invariant)

pub returns : goal.returns
returns c =
    sym (no_entry c.args.list.now _ _ _ _ (omega (arith, c.loop-r-test.false))) ∙ c.loop-r.invariant
