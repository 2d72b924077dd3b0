-- `attribute_walk::walk::place_from` meets its contract. Where handles ascend, the test of a handle parts the list at
-- one point, which std finds by halves. Assumes nothing.
use lib.Dec.{ltb}
use Rattle.std.proofs.Common.{rules, tests}
use Rattle.std.proofs.lemmas.List.Sorted.{IsPartitionPoint-from_clause, IsPartitionedBy-ltb}
use Rattle.attribute.specs.Lookup.{handle_of}
use Rattle.attribute_walk.proofs.Halves.{rises, parts_at}
use Rattle.attribute_walk.proofs.walk.place_from.Goals as goal

pub returns : goal.returns
returns c =
    let h = c.args.handle in
    let parted = IsPartitionedBy-ltb handle_of c.args.list.now h (rises _ c.requires) in
    parts_at _ _ _ c.partition_point.ensures.bound
    (IsPartitionPoint-from_clause (λ r. ltb (handle_of r) h) _ _ c.partition_point.ensures.partitioned parted (λ a r q k. search (rules, tests)))
