-- `peers::inner::put` meets its contract: a store in the row of bytes is one in the row of slots; past the end it is
-- none. Assumes nothing.
use mathlib.Core.Path.{sym, ap, ◌∙◌}
use native.Mathlib.Omega.{arith}
use lib.ListN.{set}
use lib.Seq.{set_out}
use Rattle.peers.specs.Bytes.{row_of}
use Rattle.peers.specs.declared.Slot.{Slot}
use Rattle.peers.proofs.Rows.{length_row, row_set}
use Rattle.peers.proofs.inner.put.Goals as goal

pub returns-then-m-row : goal.returns-then-m-row
returns-then-m-row c =
    let a = c.args in
    row_set a.row.now a.m.seat.0 _ ∙ ap (λ (s : Slot). set (row_of a.row.now) a.m.seat.0 s) c.from.ensures.1

pub returns-else-m-row : goal.returns-else-m-row
returns-else-m-row c =
    let a = c.args in
    sym (set_out (row_of a.row.now) a.m.seat.0 a.m.slot (omega (arith, length_row a.row.now, c.if-m-row.false)))
