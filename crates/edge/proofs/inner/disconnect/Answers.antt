-- `edge::inner::disconnect` meets its contract: the walk's find is the move, the row's bytes are the row. Assumes
-- nothing.
use Rattle.std.specs.Prelude.{Option}
use mathlib.Core.Path.{◌≡◌, sym, ap, ◌∙◌}
use mathlib.Core.List.{List}
use Prim.Native.Nat.{ℕ}
use Rattle.peers.specs.declared.Identity.{Identity}
use Rattle.peers.specs.Bytes.{row_of}
use Rattle.peers.specs.Slots.{slot_of, leaving}
use Rattle.peers.specs.declared.Slot.{Slot}
use Rattle.peers.proofs.Rows.{length_row}
use Rattle.state.specs.State.{state}
use Rattle.attribute_server.specs.Connection.{move_left}
use Rattle.attribute_server.proofs.Moving.{part_is, found_inside, leaves_inside, told_parted}
use Rattle.numbers.specs.Request.{is_set}
use Rattle.edge.proofs.Joining.{joined}
use Rattle.edge.proofs.inner.disconnect.Goals as goal
use Rattle.edge.proofs.inner.disconnect.Goals.{After-part-m}
use Rattle.peers.specs.declared.Seat.{Seat}

-- the own slot is the same in the row's bytes
own_in : (own : Option Seat) (row : List Slot) (bytes : List (List ℕ)) (who : Identity) → own ≡ slot_of row who → row_of bytes ≡ row
    → own ≡ slot_of (row_of bytes) who
own_in own row bytes who e r = e ∙ ap (λ (row : List Slot). slot_of row who) (sym r)

in_bytes : (c : After-part-m) →
    let a = c.args in
    c.part-m.result ≡ leaving (row_of c.encode_row-bytes.result) a.who (is_set a.bonded)
in_bytes c = c.part-m.ensures ∙ part_is _ _ _ _ (own_in _ _ _ _ c.requires c.encode_row-bytes.ensures)

pub part-m-requires : goal.part-m-requires
part-m-requires c =
    let a = c.args in
    rw (length_row c.encode_row-bytes.result) at (found_inside (row_of c.encode_row-bytes.result) a.who _
    (own_in _ _ _ _ c.requires c.encode_row-bytes.ensures))

pub act-a-requires : goal.act-a-requires
act-a-requires c =
    leaves_inside c.encode_row-bytes.result _ _ _ (in_bytes (goal.at.act-a-requires c).After-part-m)

pub returns : goal.returns
returns c =
    let a = c.args in
    let s = state a.list.now a.store.now a.row a.tables.now in
    let w = rw c.encode_row-bytes.ensures at c.act-a.ensures in
    let m = rw c.encode_row-bytes.ensures at (in_bytes (goal.at.returns c).After-part-m) in
    let t = told_parted s a.who c.part-m.result (is_set a.bonded) in
    let j = joined s a.who _ _ w.1 _ _ _ w.0 t c.numbered.result c.numbered.ensures in
    (j.0, j.1 ∙ ap (move_left s a.who) m)
