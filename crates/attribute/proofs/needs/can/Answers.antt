-- `attribute::needs::can` meets its contract. A place that is found is one of the list. Assumes nothing.
use mathlib.Core.List.{[]}
use mathlib.Core.Path.{sym, ◌∙◌}
use Prim.Native.Nat.{◌<◌}
use native.Mathlib.Omega.{arith}
use lib.ListN.{length}
use Rattle.attribute.specs.Lookup.{has_handle}
use Rattle.wire.proofs.Walk.{placed, one_found}
use Rattle.attribute.proofs.needs.can.Goals as goal
use Rattle.attribute.proofs.needs.can.Goals.{In_ok-i}

inside : (c : In_ok-i) → c.in_ok-i.i < length c.args.list.now
inside c =
    (placed (has_handle c.args.handle) [] c.args.list.now 0 _
    (sym (one_found c.find_handle.result _ c.find_handle.ensures) ∙ c.in_ok-i.ensures.ok_part)).inside

pub offset_bounds-list-i : goal.offset_bounds-list-i
offset_bounds-list-i c = omega (arith, inside c)

pub bounds-list-i : goal.bounds-list-i
bounds-list-i c = inside c
