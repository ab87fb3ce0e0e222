use Rattle.std.proofs.Common.{◌≡◌, ◌<◌, length}
use Rattle.pas_program.specs.Types.{layout}
use Rattle.pas_program.proofs.program.Program.type_range.Given as goal

-- the range is that of the type reached
abbrev pub invariant-loop-lo : goal.invariant-loop-lo
invariant-loop-lo l = (l.t < length l.self.types) × ((layout l.self.types l.t).lo ≡ (layout l.self.types l.fn.t).lo) × ((layout l.self.types l.t).hi ≡ (layout l.self.types l.fn.t).hi)

abbrev pub decreases-loop-lo : goal.decreases-loop-lo
decreases-loop-lo l = l.t
