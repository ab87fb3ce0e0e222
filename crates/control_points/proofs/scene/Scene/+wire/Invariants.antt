use Rattle.std.proofs.Common.{◌≡◌, ◌+◌, ◌≤◌, length, drop, map}
use Rattle.control_points.specs.Drawing.{IsDrawn, SizesAt, plan_in}
use Rattle.control_points.specs.Extents.{arms_extent, statements_extent}
use Rattle.control_points.specs.Edges.{arms_from, in_order, laid_arm, laid_statement}
use Rattle.control_points.proofs.Followed.{Leads}
use Rattle.control_points.proofs.scene.Scene.+wire.Given as goal

abbrev pub invariant-sequence-loop-k : goal.invariant-sequence-loop-k
invariant-sequence-loop-k l = record {
  here : l.here + (statements_extent (drop l.k l.body)).points ≡ l.stand.here + (statements_extent l.body).points;
  low : l.stand.here ≤ l.here;
  order : l.order + length (statements_extent (drop l.k l.body)).sizes ≡ l.stand.order + length (statements_extent l.body).sizes;
  sizes : SizesAt l.self l.order (statements_extent (drop l.k l.body)).sizes;
  drawn : IsDrawn l.self l.graph l.here;
  exact : Leads l.initial.graph l.graph (in_order (plan_in l.self) (map (laid_statement (plan_in l.self)) (drop l.k l.body)) l.here l.stand.next) (in_order (plan_in l.self) (map (laid_statement (plan_in l.self)) l.body) l.stand.here l.stand.next);
}

abbrev pub invariant-arms-loop-arm : goal.invariant-arms-loop-arm
invariant-arms-loop-arm l = record {
  here : l.here + (arms_extent (drop l.arm-index l.arms)).points ≡ l.fn.inside.here + (arms_extent l.arms).points;
  low : l.fn.inside.here ≤ l.here;
  order : l.order + length (arms_extent (drop l.arm-index l.arms)).sizes ≡ l.fn.inside.order + length (arms_extent l.arms).sizes;
  sizes : SizesAt l.self l.order (arms_extent (drop l.arm-index l.arms)).sizes;
  drawn : IsDrawn l.self l.graph l.here;
  exact : Leads l.initial.graph l.graph (arms_from (plan_in l.self) l.of l.from (map (laid_arm (plan_in l.self)) (drop l.arm-index l.arms)) l.here l.fn.inside.next) (arms_from (plan_in l.self) l.of l.from (map (laid_arm (plan_in l.self)) l.arms) l.fn.inside.here l.fn.inside.next);
}
