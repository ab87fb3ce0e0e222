use Rattle.std.proofs.Common.{◌≡◌, drop}
use Rattle.pas_check.specs.Declarations.{led}
use Rattle.pas_check.specs.Formals.{formal_declared, formed_by}
use Rattle.pas_check.specs.Stage.{stage}
use Rattle.pas_check.proofs.checker.Checker.formals_declared.Given as goal

abbrev pub invariant-loop-name : goal.invariant-loop-name
invariant-loop-name l =
    led (formal_declared l.owner l.formal) (formed_by (stage l.fn.self) l.fn.formals) l.names ≡ led (formal_declared l.owner l.formal) (formed_by (stage l.self) l.formals) (drop l.name-index l.names)
