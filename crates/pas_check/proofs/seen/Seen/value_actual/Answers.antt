use Rattle.std.proofs.Common.{ap, ◌∙◌}
use Rattle.pas_check.specs.Expr.{expression_by, value_given}
use Rattle.pas_check.specs.Forms.{actual_value_form, expression_form}
use Rattle.pas_check.specs.Sight.{sight}
use Rattle.pas_check.proofs.Forms.{given_form_value, value_form_of_expression}
use Rattle.pas_check.proofs.Found.{given_value, value_of_expression}
use Rattle.pas_check.proofs.seen.Seen.value_actual.Goals as goal

pub returns-in-Value-clause-value : goal.returns-in-Value-clause-value
returns-in-Value-clause-value c =
    let v = sight c.args.self.now in
    ap expression_by (given_value v c.args.actual.now ∙ ap (value_given v) c.in-Value.is ∙ value_of_expression v c.in-Value.value)

pub returns-in-Value-clause-form : goal.returns-in-Value-clause-form
returns-in-Value-clause-form c =
    let v = sight c.args.self.now in
    ap expression_form (given_form_value v c.args.actual.now ∙ ap (actual_value_form v) c.in-Value.is ∙ value_form_of_expression v c.in-Value.value)
