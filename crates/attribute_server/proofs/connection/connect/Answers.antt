-- `attribute_server::connection::connect` meets its contract: what the two walks found is the move, and its slot is
-- put. Assumes nothing.
use mathlib.Core.Path.{◌≡◌, refl, sym, ap, ◌∙◌}
use mathlib.Core.List.{[]}
use Rattle.std.proofs.lemmas.Result.{err_from_is_err_and}
use Rattle.peers.specs.Bytes.{row_of}
use Rattle.peers.specs.Slots.{connecting, row_moved}
use Rattle.state.specs.State.{lent}
use Rattle.model.specs.Told.{told_answer}
use Rattle.attribute_server.specs.Connection.{move_left}
use Rattle.attribute_server.proofs.Moving.{join_is, joins_inside, told_joined, answer_left}
use Rattle.attribute_server.proofs.connection.connect.Goals as goal
use Rattle.attribute_server.proofs.connection.connect.Goals.{After-join-m}

made : (c : After-join-m) →
    c.join-m.result ≡ connecting (row_of c.args.row.now) c.args.who
made c = c.join-m.ensures ∙ join_is _ _ _ _ c.first-usable.ensures.found c.first-free.ensures.found

pub act-requires : goal.act-requires
act-requires c =
    joins_inside c.args.row.now _ _ (made (goal.at.act-requires c).After-join-m)

pub returns-in_err-a : goal.returns-in_err-a
returns-in_err-a c =
    let a = c.args in
    let s = lent a.list.now a.store.now a.row.now a.tables.now in
    let p = err_from_is_err_and c.from_residual.result c.from_residual.ensures.1 in
    let m = made (goal.at.returns-in_err-a c).After-join-m in
    rw (p.1, p.2) (
      ap (told_answer []) (sym c.in_err-a.was) ∙ c.act.ensures.0 ∙ told_joined s a.who _ m,
      answer_left s a.who _ s.row _ c.act.ensures.1 _ _ c.act.ensures.0 _ c.in_err-a.was refl ∙ ap (move_left s a.who) m,
    )

pub returns-in-Some : goal.returns-in-Some
returns-in-Some c =
    let a = c.args in
    let s = lent a.list.now a.store.now a.row.now a.tables.now in
    let put = c.put.ensures ∙ ap (row_moved s.row) (sym c.in-Some.is) in
    let m = made (goal.at.returns-in-Some c).After-join-m in (
      ap (told_answer []) (sym c.in_ok-a.was) ∙ c.act.ensures.0 ∙ told_joined s a.who _ m,
      answer_left s a.who _ _ _ c.act.ensures.1 _ _ c.act.ensures.0 _ c.in_ok-a.was put ∙ ap (move_left s a.who) m,
    )

pub returns-in_default : goal.returns-in_default
returns-in_default c =
    let a = c.args in
    let s = lent a.list.now a.store.now a.row.now a.tables.now in
    let stays = ap (row_moved s.row) (sym c.in_default.is) in
    let m = made (goal.at.returns-in_default c).After-join-m in (
      ap (told_answer []) (sym c.in_ok-a.was) ∙ c.act.ensures.0 ∙ told_joined s a.who _ m,
      answer_left s a.who _ s.row _ c.act.ensures.1 _ _ c.act.ensures.0 _ c.in_ok-a.was stays ∙ ap (move_left s a.who) m,
    )
