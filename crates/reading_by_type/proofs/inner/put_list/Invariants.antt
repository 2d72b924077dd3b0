-- `reading_by_type::inner::put_list` meets its contract. The loop, by the laws of `Along` and of the group met last.
-- Assumes nothing.
use mathlib.Core.Path.{◌≡◌}
use mathlib.Core.Bool.{true}
use Rattle.attribute_walk.specs.Walk.{is_of_type, InGroup}
use Rattle.model.proofs.Along.{Along}
use Rattle.reading_by_type.specs.Turns.{row_at}
use Rattle.reading_by_type.proofs.inner.put_list.Given as goal

abbrev pub invariant-loop-i : goal.invariant-loop-i
invariant-loop-i l =
    Along (λ want. row_at l.form l.link l.v.store.now l.v.table.now want l.size) (is_of_type l.uuid) l.v.list.now l.fn.p l.initial.out l.initial.c l.out l.c l.i × (l.form.group ≡ true → InGroup l.v.list.now l.i l.group)
