-- `attribute_server::request::process` meets its contract. A request that is refused, and one that is let in: a law for
-- each. Assumes nothing.
use mathlib.Core.Path.{sym, ◌∙◌}
use native.Mathlib.Omega.{arith}
use lib.ListN.{length}
use borrow.Author.Rules.{rules}
use Rattle.peers.specs.Bytes.{row_of}
use Rattle.peers.specs.Slots.{slot_of}
use Rattle.state.specs.State.{State, Waiting, lent, waiting}
use Rattle.model.specs.View.{pending_of}
use Rattle.requests.proofs.Given.{told_given, lent_given}
use Rattle.attribute_server.specs.Request.{Query, query}
use Rattle.admission.proofs.Admitting.{admitted, room_enough}
use Rattle.attribute_server.proofs.Admitting.{ready_given, with_record, without_record, request_fits}
use Rattle.attribute_server.proofs.Processing.{process_refused, process_answered}
use Rattle.attribute_server.proofs.request.process.Goals as goal
use Rattle.attribute_server.proofs.request.process.Goals.{Start}

-- the state, what waits at the link, and the request
abbrev was : (c : Start) → State
was c = lent c.args.list.now c.args.store.now c.args.row.now c.args.tables.now

abbrev waits : (c : Start) → Waiting
waits c = waiting c.args.p c.args.bytes.now

abbrev asked : (c : Start) → Query
asked c = query c.args.who c.args.link c.args.rq c.args.d.now

pub returns-in-Err : goal.returns-in-Err
returns-in-Err c =
    process_refused (was (goal.at.returns-in-Err c).Start) (waits (goal.at.returns-in-Err c).Start) (asked (goal.at.returns-in-Err c).Start) c.args.out.now c.with_record.result _
    (sym c.admit_request.ensures ∙ c.in-Err.is) c.with_record.ensures.0
    c.with_record.ensures.1

pub answer-requires : goal.answer-requires
answer-requires c =
    let a = c.args in
    let w = admitted _ _ _ (sym c.admit_request.ensures ∙ c.in_default.is) in
    record {
      ready_to_store = (
        rw c.slot_for-slot.ensures (ready_given _ a.who (without_record _ _ w.right) a.rq),
        with_record _ _ w.right,
      );
      bytes_len = (search rules, omega (arith, room_enough _ _ _ w.buffer), request_fits _ _ _ w.buffer);
    }

pub returns : goal.returns
returns c =
    let a = c.args in
    let e = rw c.slot_for-slot.ensures at c.answer.ensures in
    let w = pending_of a.p a.bytes.now in
    let slot = slot_of (row_of a.row.now) a.who in
    process_answered (was (goal.at.returns c).Start) (waits (goal.at.returns c).Start) (asked (goal.at.returns c).Start) a.out.now c.answer.result _ _ _
    (sym c.admit_request.ensures ∙ c.in_default.is) e.0 e.1
    (e.2 (row_of a.row.now) ∙ lent_given a.link (was (goal.at.returns c).Start) w a.d.now slot a.rq)
    (rw (told_given a.link a.list.now a.store.now a.tables.now w (length a.out.now) a.d.now slot a.rq) at e.3)
