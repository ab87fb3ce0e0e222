use Rattle.std.proofs.Common.{◌≡◌, map, take}
use Rattle.alias_class.specs.Outlines.{routine_outline}
use Rattle.alias_class.proofs.outline.routine_outlines.Given as goal

abbrev pub invariant-loop-routine : goal.invariant-loop-routine
invariant-loop-routine l = l.routines ≡ map (routine_outline l.program.vars) (take l.routine-index l.program.routines)
