use Rattle.std.proofs.Common.{◌≡◌, drop}
use Rattle.control_points.specs.Flows.{chart_of}
use Rattle.control_points.specs.Steps.{first_done}
use Rattle.interp.specs.Meant.{InState}
use Rattle.interp.proofs.machine.Machine.first.Given as goal

-- no action of an edge before was the one to be done
abbrev pub invariant-loop-number : goal.invariant-loop-number
invariant-loop-number l = InState l.self (λ s. first_done (chart_of l.self.flow.now) s l.numbers ≡ first_done (chart_of l.self.flow.now) s (drop l.number-index l.numbers))
