-- `attribute_walk::walk::find_type` meets its contract. The invariant is residual: what is left of the walk answers as
-- the whole does. Assumes nothing.
use mathlib.Core.Path.{◌≡◌}
use lib.ListN.{take}
use Rattle.wire.specs.Walk.{place_from}
use Rattle.attribute_walk.specs.Walk.{is_of_type}
use Rattle.attribute_walk.proofs.walk.find_type.Given as goal

abbrev pub invariant-loop-i : goal.invariant-loop-i
invariant-loop-i l = place_from (is_of_type l.uuid) (take l.fn.p.to l.list) l.i ≡ place_from (is_of_type l.uuid) (take l.fn.p.to l.list) l.fn.p.from
