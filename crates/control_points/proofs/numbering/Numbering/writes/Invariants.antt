use Rattle.std.proofs.Common.{◌≡◌, ◌++◌, drop}
use Rattle.std.specs.List.{flat_map}
use Rattle.control_points.specs.Marks.{write_marks}
use Rattle.control_points.proofs.numbering.Numbering.writes.Given as goal

abbrev pub invariant-loop-item : goal.invariant-loop-item
invariant-loop-item l = record {
  marks : l.self.marks ++ flat_map (write_marks l.routine) (drop l.item-index l.items) ≡ l.initial.self.marks ++ flat_map (write_marks l.routine) l.items;
  sizes : l.self.sizes ≡ l.initial.self.sizes;
  entries : l.self.entries ≡ l.initial.self.entries;
}
