-- `reading::inner::respond` meets its contract. What is located means what the view shows: a code, an offset past the
-- end, or the part that goes in, and a law for each. Assumes nothing.
use Rattle.attribute_walk.proofs.Halves.{ascending}
use Rattle.values.specs.Locate.{contents_of, LiesInside}
use Rattle.values.proofs.Meaning.{got, inside}
use Rattle.reading.proofs.Ways.{by_code, in_bytes, past_end, value_part}
use Rattle.response.proofs.Errors.{one_byte}
use Rattle.model.specs.View.{seen_all, read_at}
use Rattle.model.proofs.Sending.{sent, sent_as}
use Rattle.wire.proofs.Written.{wrote_then, wrote_length}
use Rattle.wire.specs.declared.cursor.WriteCursor.{WriteCursor}
use mathlib.Core.Path.{◌≡◌, ap, ◌∙◌}
use native.Mathlib.Omega.{arith}
use Rattle.reading.proofs.inner.respond.Goals as goal
use Rattle.reading.proofs.inner.respond.Goals.{After-locate}

means : (c : After-locate) →
    contents_of c.args.v.store.now c.args.v.table.now c.locate.result
    ≡ read_at c.args.handle (seen_all c.args.link c.args.v.list.now c.args.v.store.now c.args.v.table.now)
means c = ap (contents_of _ _) c.locate.ensures ∙ got _ _ _ _ _

lies : (c : After-locate) →
    LiesInside c.args.v.store.now c.args.v.table.now c.locate.result
lies c = rw c.locate.ensures (inside _ _ c.args.v.ready.table _ c.args.v.ready.right _ _)

pub locate-requires : goal.locate-requires
locate-requires c = (ascending _ _ c.args.v.ready.right, c.args.v.ready.table)

pub returns-in-Err : goal.returns-in-Err
returns-in-Err c =
    sent_as _ _ _ _ _ c.error_response.ensures
    (by_code _ _ _ _ (means (goal.at.returns-in-Err c).After-locate) _ _ _ _ _ _ c.in-Err.is)

pub returns-then-s-offset : goal.returns-then-s-offset
returns-then-s-offset c =
    let l = (goal.at.returns-then-s-offset c).After-locate in
    sent_as _ _ _ _ _ c.error_response-then-s-offset.ensures
    (past_end _ _ _ _ (means l) _ c.in-Ok.is (lies l) _ _ _ _ _ (omega (arith, c.if-s-offset.true)))

pub append_span-c-requires : goal.append_span-c-requires
append_span-c-requires c =
    let w = one_byte _ _ _ _ _ c.new.ensures.0 (omega (arith, c.requires)) c.byte-c.ensures.0
    c.byte-c.ensures.1 in
    let n = ap (λ (x : WriteCursor). x.len) w.cursor in
    let l = (goal.at.append_span-c-requires c).After-locate in
    record {
      n_in_bounds = omega (
        arith,
        n,
        c.new.ensures.0,
        wrote_length _ _ _ _ _ w,
        c.min-n.ensures,
        c.if-s-offset.false,
        c.requires,
      );
      len_in_bounds = in_bytes _ _ _ _ (means l) _ c.in-Ok.is (lies l);
    }

pub returns-else-s-offset : goal.returns-else-s-offset
returns-else-s-offset c =
    let w = one_byte _ _ _ _ _ c.new.ensures.0 (omega (arith, c.requires)) c.byte-c.ensures.0
    c.byte-c.ensures.1 in
    let l = (goal.at.returns-else-s-offset c).After-locate in
    sent_as _ _ _ _ _ (sent _ _ _ _ _ c.new.ensures.0 (wrote_then _ _ _ _ _ _ _ _ w c.append_span-c.ensures))
    (value_part _ _ _ _ (means l) _ c.in-Ok.is (lies l) _ _ _ _ _ _ c.if-s-offset.false c.min-n.ensures)
