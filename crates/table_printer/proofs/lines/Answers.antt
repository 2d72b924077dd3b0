use native.Mathlib.Omega.{arith}
use Rattle.table_view.proofs.Shape.{long}
use Rattle.table_printer.proofs.Putting.{entry_short, entry_more, entry_end, all_put, all_going, heading_short, entries_short}
use Rattle.table_printer.proofs.lines.Goals as goal

pub count-n-requires : goal.count-n-requires
count-n-requires c = long _ c.requires.0

pub heading-next-requires : goal.heading-next-requires
heading-next-requires c =
    heading_short _ _ c.count-n.ensures.0 c.requires.0 c.requires.1

pub loop-i-init : goal.loop-i-init
loop-i-init c =
    all_going _ _ c.count-n.ensures.0 _ _

pub entry-next-requires : goal.entry-next-requires
entry-next-requires c =
    let all = entries_short _ _ c.count-n.ensures.0 c.requires.0 c.requires.1 _ c.heading-next.ensures.place in
    record { t_value = (c.requires.0, omega (arith, c.count-n.ensures.0, c.loop-i-test.true)); short = entry_short _ _ _ _ _ _ _ _ c.loop-i.invariant all c.loop-i-test.true }

pub loop-i-preserved : goal.loop-i-preserved
loop-i-preserved c =
    entry_more _ _ _ _ _ _ _ _ c.loop-i.invariant _ _ c.loop-i-test.true c.entry-next.ensures

pub returns : goal.returns
returns c =
    all_put _ _ c.count-n.ensures.0 _ _ _ _ _ c.heading-next.ensures (entry_end _ _ _ _ _ _ _ _ c.loop-i.invariant (omega (arith, c.loop-i-test.false)))
