use mathlib.Core.Path.{◌≡◌, sym, ◌∙◌}
use native.Mathlib.Omega.{arith}
use lib.ListN.{length}
use Rattle.attribute_walk.proofs.Groups.{passed_one, passed_more, passed_stops, passed_ends}
use Rattle.attribute_walk.proofs.group.group_at.Goals as goal

pub loop-j-init : goal.loop-j-init
loop-j-init c = rw c.handle_at-end.ensures (passed_one c.args.list.now _)

pub returns-then-is_service : goal.returns-then-is_service
returns-then-is_service c = (
  omega arith,
  omega arith,
  passed_stops c.args.list.now _ _ _ c.loop-j.invariant c.loop-j-test.true (sym c.is_service.ensures ∙ c.if-is_service.true),
)

pub loop-j-preserved : goal.loop-j-preserved
loop-j-preserved c =
    rw c.handle_at-end-in-loop-j.ensures
    (passed_more c.args.list.now _ _ _ c.loop-j.invariant c.loop-j-test.true (sym c.is_service.ensures ∙ c.if-is_service.false))

pub returns : goal.returns
returns c =
    let e : c.loop-j.j ≡ length c.args.list.now = omega arith in
    (omega arith, omega arith, rw (← e) (passed_ends c.args.list.now _ _ _ c.loop-j.invariant (omega arith)))
