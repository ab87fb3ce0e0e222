use Rattle.std.proofs.Common.{[], rules}
use Rattle.pas_check.specs.Declarations.{led_by}
use Rattle.pas_check.specs.Formals.{Formed, formed_by, section_declared}
use Rattle.pas_check.specs.Stage.{stage}
use Rattle.pas_check.proofs.Declarations.{led_ends, led_fails, led_goes}
use Rattle.pas_check.proofs.Passing.{gives_wrong}
use Rattle.pas_check.proofs.checker.Checker.formals.Goals as goal

pub returns-in_err-section_declared : goal.returns-in_err-section_declared
returns-in_err-section_declared c =
    let first : Formed = record { at = stage c.args.self.now; formals = []; numbers = [] } in
    let now : Formed = formed_by (stage c.loop-section.self) c.loop-section.formals in record {
      value = gives_wrong {B = Formed} _ (led_by (section_declared c.args.owner) first c.args.sections.now) c.from_residual.result c.in_err-section_declared.field-0.0 (search rules) (λ own.
          led_fails (section_declared c.args.owner) _ now c.args.sections.now c.loop-section.section-index c.section-item.result c.in_err-section_declared.field-0.0 c.loop-section.invariant c.loop-section-test.true c.section-item.is (c.in_err-section_declared.ensures.value own));
    }

pub loop-section-preserved : goal.loop-section-preserved
loop-section-preserved c =
    let now : Formed = formed_by (stage c.loop-section.self) c.loop-section.formals in
    led_goes (section_declared c.args.owner) _ now _ c.args.sections.now c.loop-section.section-index c.section-item.result c.loop-section.invariant c.loop-section-test.true c.section-item.is c.in_ok-section_declared.ensures.value

pub returns : goal.returns
returns c =
    let now : Formed = formed_by (stage c.loop-section.self) c.loop-section.formals in record {
      value = led_ends (section_declared c.args.owner) _ now c.args.sections.now c.loop-section.section-index c.loop-section.invariant c.loop-section-test.false;
    }
