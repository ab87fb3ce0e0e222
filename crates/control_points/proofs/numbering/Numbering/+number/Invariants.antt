use Rattle.std.proofs.Common.{◌≡◌, ◌++◌, map, drop}
use Rattle.control_points.specs.Extents.{statements_extent, arms_extent}
use Rattle.control_points.specs.Marks.{joined, statements_marks, arm_marks}
use Rattle.control_points.proofs.numbering.Numbering.+number.Given as goal

abbrev pub invariant-sequence-loop-s : goal.invariant-sequence-loop-s
invariant-sequence-loop-s l = record {
  marks : l.self.marks ++ statements_marks l.routine (drop l.s-index l.body) ≡ l.initial.self.marks ++ statements_marks l.routine l.body;
  sizes : l.self.sizes ++ (statements_extent (drop l.s-index l.body)).sizes ≡ l.initial.self.sizes ++ (statements_extent l.body).sizes;
  entries : l.self.entries ≡ l.initial.self.entries;
}

abbrev pub invariant-arms-loop-arm : goal.invariant-arms-loop-arm
invariant-arms-loop-arm l = record {
  marks : l.self.marks ++ joined (map (arm_marks l.routine) (drop l.arm-index l.arms)) ≡ l.initial.self.marks ++ joined (map (arm_marks l.routine) l.arms);
  sizes : l.self.sizes ++ (arms_extent (drop l.arm-index l.arms)).sizes ≡ l.initial.self.sizes ++ (arms_extent l.arms).sizes;
  entries : l.self.entries ≡ l.initial.self.entries;
}
