use mathlib.Core.Path.{◌≡◌, sym, ap, ◌∙◌}
use mathlib.Core.List.{[]}
use Prim.Native.Nat.{◌<◌}
use native.Mathlib.Omega.{arith}
use lib.ListN.{length, get_or}
use Rattle.peers.specs.Bytes.{row_of}
use Rattle.peers.specs.Slots.{no_slot}
use Rattle.peers.specs.declared.Slot.{Slot}
use Rattle.peers.proofs.Rows.{length_row, row_at}
use Rattle.state.specs.Clear.{clear_ok}
use Rattle.state.proofs.Testing.{next_slot, bad_slot, last_slot}
use Rattle.state.proofs.inner.clears_ok.Goals as goal
use Rattle.state.proofs.inner.clears_ok.Goals.{After-clear_ok}

-- the slot that was decoded is the row's
tested : (c : After-clear_ok) →
    clear_ok c.args.base c.args.end (get_or (row_of c.args.row.now) c.loop-i.i no_slot)
    (get_or c.args.tables.now c.loop-i.i []) ≡ c.clear_ok.result
tested c =
    let here : c.loop-i.i < length c.args.row.now = omega (arith, c.requires.3) in
    ap (λ (x : Slot). clear_ok c.args.base c.args.end x (get_or c.args.tables.now c.loop-i.i []))
    (row_at c.args.row.now c.loop-i.i here ∙ sym c.from.ensures) ∙ sym c.clear_ok.ensures

pub returns-then-not-clear_ok : goal.returns-then-not-clear_ok
returns-then-not-clear_ok c =
    bad_slot _ _ (row_of c.args.row.now) _ _ _ c.loop-i.invariant
    (omega (arith, length_row c.args.row.now, c.requires.3)) (omega arith)
    (tested (goal.at.returns-then-not-clear_ok c).After-clear_ok ∙ c.if-not-clear_ok.true)

pub loop-i-preserved : goal.loop-i-preserved
loop-i-preserved c =
    next_slot _ _ (row_of c.args.row.now) _ _ _ c.loop-i.invariant
    (omega (arith, length_row c.args.row.now, c.requires.3)) (omega arith)
    (tested (goal.at.loop-i-preserved c).After-clear_ok ∙ c.if-not-clear_ok.false)

pub returns : goal.returns
returns c =
    last_slot _ _ (row_of c.args.row.now) c.args.tables.now c.loop-i.i _ c.loop-i.invariant
    (omega (arith, length_row c.args.row.now, c.requires.3, c.loop-i-test.false)) (omega (arith, c.loop-i-test.false))
