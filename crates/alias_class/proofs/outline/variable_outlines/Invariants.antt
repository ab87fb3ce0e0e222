use Rattle.std.proofs.Common.{◌≡◌, take}
use Rattle.alias_class.specs.Outlines.{variable_outlines}
use Rattle.alias_class.proofs.outline.variable_outlines.Given as goal

abbrev pub invariant-loop-var : goal.invariant-loop-var
invariant-loop-var l = l.variables ≡ take l.var (variable_outlines l.program.types l.routines l.program.vars)
