use Rattle.std.proofs.Common.{ltb, rules}
use Rattle.std.proofs.lemmas.List.Sorted.{IsPartitionPoint-from_clause, IsPartitionedBy-ltb}
use Rattle.control_points.specs.declared.check.Check.{Check}
use Rattle.control_points.proofs.Counted.{checks_rise, counted}
use Rattle.control_points.proofs.flow.Flow.checks_below.Goals as goal

pub returns : goal.returns
returns c =
    let f = c.args.self.now in
    let parted = IsPartitionedBy-ltb (λ (d : Check). d.point) f.checks c.args.point (checks_rise f.points f.checks f.checks_fit) in
    let clause = rw c.checks.ensures at c.partition_point.ensures.partitioned in
    let point = IsPartitionPoint-from_clause (λ (d : Check). ltb d.point c.args.point) f.checks c.partition_point.result clause parted (λ a r q k. search rules) in
    let within = rw c.checks.ensures at c.partition_point.ensures.bound in
    counted (λ (d : Check). ltb d.point c.args.point) f.checks c.partition_point.result within point
