use mathlib.Core.Path.{sym, ◌∙◌}
use native.Mathlib.Omega.{arith}
use Rattle.attribute_walk.proofs.Groups.{no_group, group_here, group_later}
use Rattle.attribute_walk.proofs.Walks.{may_not}
use Rattle.model.proofs.Along.{along_start, along_skip, along_more, along_stop, along_end}
use Rattle.finding_by_value.proofs.Founds.{found_as, found_other, found_skip}
use Rattle.finding_by_value.proofs.inner.put_found.Goals as goal
use Rattle.finding_by_value.proofs.inner.put_found.Goals.{then-may_be+then-is_found+else-c-before, else-may_be, else-may_be-via-then-may_be+else-is_found, else-may_be-via-else-may_be}

pub loop-i-init : goal.loop-i-init
loop-i-init c =
    (along_start _ _ _ _ _ _ c.requires.0 c.requires.1 c.requires.3, no_group c.args.v.list.now _)

pub next_group-group-requires : goal.next_group-group-requires
next_group-group-requires c =
    (omega arith, c.loop-i.invariant.1)

pub found_row-c-requires : goal.found_row-c-requires
found_row-c-requires c = (
  omega arith,
  c.loop-i.invariant.0.room,
  group_here c.args.v.list.now _ _ c.next_group-group.ensures.0 c.next_group-group.ensures.1,
)

pub returns-then-c-before : goal.returns-then-c-before
returns-then-c-before c =
    along_stop _ _ _ _ _ _ _ _ _ c.loop-i.invariant.0 c.loop-i-test.true _ _ _ c.found_row-c.ensures
    (λ want w. found_as _ _ want _ _ _ _ (sym c.is_found.ensures ∙ c.if-is_found.true) w) c.if-c-before.true

pub loop-i-preserved : goal.loop-i-preserved
loop-i-preserved c =
    elim c.if-may_be.branch [
      | then-may_be+then-is_found+else-c-before w ↦ rw (w.out-is, w.c-is, w.group-is) (
        along_more _ _ _ _ _ _ _ _ _ c.loop-i.invariant.0 c.loop-i-test.true _ _ _ w.found_row-c.ensures
            (λ want t. found_as _ _ want _ _ _ _ (sym w.is_found.ensures ∙ w.if-is_found.true) t) w.if-c-before.false,
        group_later c.args.v.list.now _ _ w.next_group-group.ensures.1,
      )
      | else-may_be w ↦ rw (w.out-is, w.c-is, w.group-is) (
        along_skip _ _ _ _ _ _ _ _ _ c.loop-i.invariant.0 c.loop-i-test.true
            (λ want t.
            elim w.else-may_be.branch [
              | else-may_be-via-then-may_be+else-is_found e ↦ found_other _ _ want _ _ _ _ (sym e.is_found.ensures ∙ e.if-is_found.false) t
              | else-may_be-via-else-may_be e ↦
                  found_skip _ _ want _ _ _
                  (t ∙ may_not _ _ c.may_be.ensures.1 _ c.requires.2 (sym c.may_be.ensures.0 ∙ e.if-may_be.false))
            ]),
        group_later c.args.v.list.now _ _ c.loop-i.invariant.1,
      )
    ]

pub returns : goal.returns
returns c =
    along_end _ _ _ _ _ _ _ _ _ c.loop-i.invariant.0 (omega (arith, c.loop-i-test.false)) (λ want r rs room w. found_skip _ _ want r rs room w)
