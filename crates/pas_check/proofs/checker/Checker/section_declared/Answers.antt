use Rattle.std.proofs.Common.{rules, ◌∙◌}
use Rattle.pas_check.specs.Formals.{Formed, formed_by, section_declared}
use Rattle.pas_check.specs.Stage.{stage}
use Rattle.pas_check.proofs.Formals.{section_in_names, section_in_type, section_whole}
use Rattle.pas_check.proofs.Passing.{gives_wrong}
use Rattle.pas_check.proofs.checker.Checker.section_declared.Goals as goal

pub returns-in_err-claim_names : goal.returns-in_err-claim_names
returns-in_err-claim_names c =
    let s : Formed = formed_by (stage c.args.self.now) c.args.formals.now in record {
      value = gives_wrong {B = Formed} _ (section_declared c.args.owner s c.args.section.now) c.from_residual.result c.in_err-claim_names.field-0.0 (search rules) (λ own.
          section_in_names c.args.owner s c.args.section.now c.as_slice-names.result.now c.as_slice-names.ensures c.in_err-claim_names.field-0.0 (c.in_err-claim_names.ensures.value own));
    }

pub returns-in_err-of_type : goal.returns-in_err-of_type
returns-in_err-of_type c =
    let s : Formed = formed_by (stage c.args.self.now) c.args.formals.now in record {
      value = gives_wrong {B = Formed} _ (section_declared c.args.owner s c.args.section.now) c.from_residual-in_err-of_type.result c.in_err-of_type.field-0.0 (search rules) (λ own.
          section_in_type c.args.owner s c.args.section.now c.as_slice-names.result.now c.as_slice-names.ensures _ c.in_err-of_type.field-0.0 c.in_ok-claim_names.ensures.value (c.in_err-of_type.ensures.value own));
    }

pub returns : goal.returns
returns c =
    let s : Formed = formed_by (stage c.args.self.now) c.args.formals.now in record {
      value = section_whole c.args.owner s c.args.section.now c.as_slice-names.result.now c.as_slice-names.ensures _ _ _ _ c.in_ok-claim_names.ensures.value c.in_ok-of_type.ensures.value (c.named_type.ensures.kept ∙ c.claim_names.ensures.kept) c.in_ok-formals_declared.ensures.value;
    }
