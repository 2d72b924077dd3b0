-- `finding_by_value::inner::put_found` meets its contract. The loop, by the laws of `Along` and of the group met last.
-- Assumes nothing.
use mathlib.Core.Bool.{Bool}
use Rattle.attribute.specs.Record.{Entry}
use Rattle.attribute_walk.specs.Walk.{is_of_type, InGroup}
use Rattle.model.specs.Rows.{find_turn}
use Rattle.model.proofs.Along.{Along}
use Rattle.finding_by_value.proofs.inner.put_found.Given as goal

abbrev pub invariant-loop-i : goal.invariant-loop-i
invariant-loop-i l =
    Along (λ (want : Entry → Bool). find_turn l.fn.v.store.now want l.d) (is_of_type l.uuid) l.fn.v.list.now l.fn.p l.initial.out l.initial.c l.out l.c l.i
    × InGroup l.fn.v.list.now l.i l.group
