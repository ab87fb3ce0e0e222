use Rattle.std.proofs.Common.{◌≡◌, drop}
use Rattle.pas_check.specs.Declarations.{led, local_declared}
use Rattle.pas_check.specs.Stage.{stage}
use Rattle.pas_check.proofs.checker.Checker.locals.Given as goal

abbrev pub invariant-loop-name : goal.invariant-loop-name
invariant-loop-name l = led (local_declared l.of_type) (stage l.fn.self) l.names ≡ led (local_declared l.of_type) (stage l.self) (drop l.name-index l.names)
