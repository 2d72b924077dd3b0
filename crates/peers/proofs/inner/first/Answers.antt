use mathlib.Core.Path.{refl, sym, ap, ◌∙◌}
use native.Mathlib.Omega.{arith}
use Rattle.peers.specs.Slots.{sought_seat}
use Rattle.peers.proofs.Laws.{row_hit, row_miss, row_end}
use Rattle.peers.proofs.inner.first.Goals as goal

pub loop-i-init : goal.loop-i-init
loop-i-init g c = rw (g.met.S.AsSlot.each c.args.row.now) refl

pub returns-then-is_wanted : goal.returns-then-is_wanted
returns-then-is_wanted g c =
    let e =
    sym (row_hit g.S.AsSlot.slot _ c.args.row.now _ c.loop-i-test.true c.index-row-i.is c.as_slot.ensures c.is_wanted.ensures c.if-is_wanted.true)
    ∙ c.loop-i.invariant in
    record { found = e; told = ap sought_seat e }

pub loop-i-preserved : goal.loop-i-preserved
loop-i-preserved g c =
    sym (row_miss g.S.AsSlot.slot _ c.args.row.now _ c.loop-i-test.true c.index-row-i.is c.as_slot.ensures c.is_wanted.ensures c.if-is_wanted.false)
    ∙ c.loop-i.invariant

pub returns : goal.returns
returns g c =
    let e = sym (row_end g.S.AsSlot.slot _ c.args.row.now _ (omega (arith, c.loop-i-test.false))) ∙ c.loop-i.invariant in
    record { found = e; told = ap sought_seat e }
