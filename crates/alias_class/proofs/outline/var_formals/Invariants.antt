use Rattle.std.proofs.Common.{◌≡◌, take}
use Rattle.std.specs.List.{filter}
use Rattle.alias_class.specs.Outlines.{is_var_formal}
use Rattle.alias_class.proofs.outline.var_formals.Given as goal

abbrev pub invariant-loop-var : goal.invariant-loop-var
invariant-loop-var l = l.formals ≡ filter (λ v. is_var_formal l.program.vars v) (take l.var-index l.routine.formals)
