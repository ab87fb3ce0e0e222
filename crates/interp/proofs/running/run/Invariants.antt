use Rattle.interp.proofs.ValuingRuns.{Reaches}
use Rattle.interp.proofs.running.run.Given as goal

-- the machine is in the state after as many steps
abbrev pub invariant-loop-steps : goal.invariant-loop-steps
invariant-loop-steps l = record { reaches : Reaches l.flow l.items l.steps l.machine }
