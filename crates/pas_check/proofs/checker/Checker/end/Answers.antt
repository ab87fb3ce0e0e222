use Rattle.std.proofs.Common.{rules}
use Rattle.pas_check.specs.Blocks.{EndMay}
use Rattle.pas_check.specs.Sight.{sight}
use Rattle.pas_check.specs.Stage.{Stage, stage}
use Rattle.pas_check.proofs.Blocks.{block_ends, end_fails, statements_fail}
use Rattle.pas_check.proofs.Declarations.{meets_wrong}
use Rattle.pas_check.proofs.checker.Checker.end.Goals as goal

pub returns-in_err-body : goal.returns-in_err-body
returns-in_err-body c = record {
  value = λ s p text around own lacking. meets_wrong {B = Stage} _ (EndMay s p c.args.block.now text (stage c.args.self.now)) c.from_residual-in_err-body.result c.in_err-body.field-0.0 (search rules) (λ broken.
      statements_fail s p c.args.block.now text (stage c.args.self.now) c.as_slice.result.now c.as_slice.ensures c.in_err-body.field-0.0 (c.in_err-body.ensures.value broken));
}

pub returns-in_err-end_allowed : goal.returns-in_err-end_allowed
returns-in_err-end_allowed c = record {
  value = λ s p text around own lacking. meets_wrong {B = Stage} _ (EndMay s p c.args.block.now text (stage c.args.self.now)) c.from_residual-in_err-end_allowed.result c.in_err-end_allowed.field-0.0 (search rules) (λ broken.
      end_fails s p c.args.block.now text (stage c.args.self.now) c.as_slice.result.now c.as_slice.ensures (sight c.statement_part.new.self.seen) c.in_ok-body.ensures.value c.args.function own c.in_err-end_allowed.field-0.0 (c.in_err-end_allowed.ensures.value text lacking broken));
}

pub returns : goal.returns
unfolding sight
returns c = record {
  value = λ s p text around own lacking.
      block_ends s p c.args.block.now text (stage c.args.self.now) c.as_slice.result.now c.as_slice.ensures (sight c.statement_part.new.self.seen) c.in_ok-body.ensures.value c.args.function own c.args.outer c.in_ok-body.body c.statement_part.new.self.made.built c.in_ok-names.names (c.in_ok-names.ensures.names) c.statement_of.result
      around (c.in_ok-end_allowed.ensures.value text lacking) c.in_ok-body.ensures.form c.statement_of.ensures (stage c.leave.new.self) c.leave.result c.leave.ensures.number c.leave.ensures.left c.leave.ensures.built c.leave.ensures.memory;
}
