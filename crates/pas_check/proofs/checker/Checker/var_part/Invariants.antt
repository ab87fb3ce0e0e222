use Rattle.std.proofs.Common.{◌≡◌, drop}
use Rattle.pas_check.specs.Declarations.{led_by, var_declared}
use Rattle.pas_check.specs.Stage.{stage}
use Rattle.pas_check.proofs.checker.Checker.var_part.Given as goal

abbrev pub invariant-loop-decl : goal.invariant-loop-decl
invariant-loop-decl l = led_by var_declared (stage l.fn.self) l.decls ≡ led_by var_declared (stage l.self) (drop l.decl-index l.decls)
