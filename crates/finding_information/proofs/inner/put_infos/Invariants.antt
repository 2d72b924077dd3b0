-- `finding_information::inner::put_infos` meets its contract. The loop, by the laws of `Along`. Assumes nothing.
use mathlib.Core.Bool.{Bool}
use Rattle.attribute.specs.Record.{Entry}
use Rattle.attribute_walk.specs.Walk.{any_record}
use Rattle.finding_information.specs.Turns.{info_at}
use Rattle.model.proofs.Along.{Along}
use Rattle.finding_information.proofs.inner.put_infos.Given as goal

abbrev pub invariant-loop-i : goal.invariant-loop-i
invariant-loop-i l = Along (λ (want : Entry → Bool). info_at want l.size) any_record l.list l.fn.p l.initial.out l.initial.c l.out l.c l.i
