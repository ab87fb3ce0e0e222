use Rattle.std.proofs.Common.{ℕ, drop}
use Rattle.pas_check.specs.Blocks.{RoutinesMay, Standing, planned, standing, waiting_of}
use Rattle.pas_check.specs.Outcome.{Outcome}
use Rattle.pas_check.specs.Sight.{sight}
use Rattle.pas_check.specs.Stage.{stage}
use Rattle.pas_check.proofs.Routines.{AreTheirs}
use Rattle.pas_check.proofs.checker.Checker.+block.Given as goal

-- what the headings that are left may answer, where so many routines have ended before them, all may answer
abbrev pub invariant-routine_part-loop-routine : goal.invariant-routine_part-loop-routine
invariant-routine_part-loop-routine l =
    let text = (sight l.fn.self.seen).text in
    (first : ℕ) → AreTheirs text first l.fn.plans.items l.routines → (before : ℕ) × AreTheirs text before l.plans.items (drop l.routine-index l.routines)
    × ((o : Outcome Standing) → RoutinesMay (standing (stage l.self) (waiting_of l.waiting)) (planned text before (drop l.routine-index l.routines)) o → RoutinesMay (standing (stage l.fn.self) (waiting_of l.fn.waiting)) (planned text first l.routines) o)
