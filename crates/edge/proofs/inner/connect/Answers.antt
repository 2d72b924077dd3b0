-- `edge::inner::connect` meets its contract: the walks' finds are the move, the row's bytes are the row. Assumes
-- nothing.
use mathlib.Core.Path.{◌≡◌, ap, ◌∙◌}
use Rattle.peers.specs.Bytes.{row_of}
use Rattle.peers.specs.Slots.{connecting}
use Rattle.state.specs.State.{state}
use Rattle.attribute_server.specs.Connection.{move_left}
use Rattle.attribute_server.proofs.Moving.{join_is, joins_inside, told_joined}
use Rattle.edge.proofs.Joining.{joined}
use Rattle.edge.proofs.inner.connect.Goals as goal
use Rattle.edge.proofs.inner.connect.Goals.{After-join-m}

made : (c : After-join-m) → c.join-m.result ≡ connecting c.args.row c.args.who
made c = c.join-m.ensures ∙ join_is _ _ _ _ c.requires.0 c.requires.1

pub act-a-requires : goal.act-a-requires
act-a-requires c =
    let m : c.join-m.result ≡ connecting (row_of c.encode_row-bytes.result) c.args.who =
    rw c.encode_row-bytes.ensures (made (goal.at.act-a-requires c).After-join-m) in
    joins_inside c.encode_row-bytes.result _ _ m

pub returns : goal.returns
returns c =
    let a = c.args in
    let s = state a.list.now a.store.now a.row a.tables.now in
    let w = rw c.encode_row-bytes.ensures at c.act-a.ensures in
    let m = made (goal.at.returns c).After-join-m in
    let j = joined s a.who _ _ w.1 _ _ _ w.0 (told_joined s a.who _ m) c.numbered.result c.numbered.ensures in
    (j.0, j.1 ∙ ap (move_left s a.who) m)
