use Rattle.std.proofs.Common.{◌≡◌, ◌++◌, drop}
use Rattle.std.specs.List.{flat_map}
use Rattle.control_points.specs.Marks.{read_marks}
use Rattle.control_points.proofs.numbering.Numbering.reads.Given as goal

abbrev pub invariant-loop-access : goal.invariant-loop-access
invariant-loop-access l = record {
  marks : l.self.marks ++ flat_map (read_marks l.routine) (drop l.access-index l.to) ≡ l.initial.self.marks ++ flat_map (read_marks l.routine) l.to;
  sizes : l.self.sizes ≡ l.initial.self.sizes;
  entries : l.self.entries ≡ l.initial.self.entries;
}
