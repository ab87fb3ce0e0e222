use Rattle.std.proofs.Common.{◌≡◌, drop}
use Rattle.control_points.specs.Evaluation.{part_type}
use Rattle.control_points.specs.Judging.{known}
use Rattle.control_points.proofs.judging.Judge.part_type.Given as goal

abbrev pub invariant-loop-subscript : goal.invariant-loop-subscript
invariant-loop-subscript l = part_type (known l.self) l.t (drop l._subscript-index l.subscripts) ≡ part_type (known l.self) l.of_type l.subscripts
