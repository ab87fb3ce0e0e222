use Rattle.std.proofs.Common.{◌≡◌, map, take}
use Rattle.control_points.specs.declared.numbering.Mark.{Mark}
use Rattle.control_points.proofs.assembly.asserts_of.Given as goal

abbrev pub invariant-loop-mark : goal.invariant-loop-mark
invariant-loop-mark l = l.asserts ≡ map (λ (m : Mark). m.asserts) (take l.mark-index l.marks)
