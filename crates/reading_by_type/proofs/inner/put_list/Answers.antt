use mathlib.Core.Path.{sym, ◌∙◌}
use Prim.Native.Nat.{◌+◌, ◌-◌}
use native.Mathlib.Omega.{arith}
use lib.ListN.{length, drop}
use Rattle.attribute_walk.proofs.Groups.{no_group, group_here, group_later}
use Rattle.attribute_walk.proofs.Walks.{may_not}
use Rattle.model.proofs.Along.{along_start, along_skip, along_more, along_stop, along_end}
use Rattle.reading_by_type.proofs.Lists.{turn_skip, turn_any}
use Rattle.reading_by_type.proofs.inner.put_list.Goals as goal
use Rattle.reading_by_type.proofs.inner.put_list.Goals.{then-may_be+then-is_type+else-c-before, else-may_be, else-may_be-via-then-may_be+else-is_type, else-may_be-via-else-may_be}

pub loop-i-init : goal.loop-i-init
loop-i-init c =
    (along_start _ _ _ _ _ _ c.requires.from_le_to.0 c.requires.from_le_to.1 c.requires.len_in_bounds.0, λ t. no_group c.args.v.list.now _)

pub row-c-requires : goal.row-c-requires
row-c-requires c = record {
  i_in_bounds = omega (arith, c.loop-i-test.true, c.requires.from_le_to.1);
  len_in_bounds = (c.loop-i.invariant.0.room, c.requires.len_in_bounds.1, c.requires.len_in_bounds.2);
  end_value = λ t. group_here c.args.v.list.now _ _ (c.next_group-group.ensures t).0
      (c.next_group-group.ensures t).1;
}

pub returns-then-c-before : goal.returns-then-c-before
returns-then-c-before c =
    along_stop _ _ _ _ _ _ _ _ _ c.loop-i.invariant.0 c.loop-i-test.true _ _ _ c.row-c.ensures
    (λ want w. turn_any _ _ _ _ want _ _ (drop (c.loop-i.i + 1) c.args.v.list.now)
    (length c.loop-i.out - c.loop-i.c.len) (w ∙ sym c.is_type.ensures ∙ c.if-is_type.true)) c.if-c-before.true

pub loop-i-preserved : goal.loop-i-preserved
loop-i-preserved c =
    elim c.if-may_be.branch [
      | then-may_be+then-is_type+else-c-before w ↦ rw (w.out-is, w.c-is, w.group-is) (
        along_more _ _ _ _ _ _ _ _ _ c.loop-i.invariant.0 c.loop-i-test.true _ _ _ w.row-c.ensures
            (λ want t. turn_any _ _ _ _ want _ _ (drop (c.loop-i.i + 1) c.args.v.list.now)
            (length c.loop-i.out - c.loop-i.c.len) (t ∙ sym w.is_type.ensures ∙ w.if-is_type.true))
            w.if-c-before.false,
        λ t. group_later c.args.v.list.now _ _ (w.next_group-group.ensures t).1,
      )
      | else-may_be w ↦ rw (w.out-is, w.c-is, w.group-is) (
        along_skip _ _ _ _ _ _ _ _ _ c.loop-i.invariant.0 c.loop-i-test.true
            (λ want t. turn_skip _ _ _ _ want _ _ (drop (c.loop-i.i + 1) c.args.v.list.now)
            (length c.loop-i.out - c.loop-i.c.len)
            (elim w.else-may_be.branch [
              | else-may_be-via-then-may_be+else-is_type e ↦ t ∙ sym e.is_type.ensures ∙ e.if-is_type.false
              | else-may_be-via-else-may_be e ↦ t ∙ may_not _ _ c.may_be.ensures.1 _ c.requires.from_le_to.2 (sym c.may_be.ensures.0 ∙ e.if-may_be.false)
            ])),
        λ t. group_later c.args.v.list.now _ _ (c.loop-i.invariant.1 t),
      )
    ]

pub returns : goal.returns
returns c = along_end _ _ _ _ _ _ _ _ _ c.loop-i.invariant.0 (omega (arith, c.loop-i-test.false)) (λ want r rs n w. turn_skip _ _ _ _ want _ r rs n w)
