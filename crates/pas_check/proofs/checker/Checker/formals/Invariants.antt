use Rattle.std.proofs.Common.{◌≡◌, [], drop}
use Rattle.pas_check.specs.Declarations.{led_by}
use Rattle.pas_check.specs.Formals.{formed_by, section_declared}
use Rattle.pas_check.specs.Stage.{stage}
use Rattle.pas_check.proofs.checker.Checker.formals.Given as goal

abbrev pub invariant-loop-section : goal.invariant-loop-section
invariant-loop-section l =
    led_by (section_declared l.owner) (record { at = stage l.fn.self; formals = []; numbers = [] }) l.sections ≡ led_by (section_declared l.owner) (formed_by (stage l.self) l.formals) (drop l.section-index l.sections)
