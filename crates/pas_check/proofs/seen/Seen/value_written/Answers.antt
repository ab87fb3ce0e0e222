use Rattle.std.proofs.Common.{◌≡◌, ap, ◌∙◌, rules}
use Rattle.pas_check.specs.Sight.{sight}
use Rattle.pas_check.specs.StatementForms.{unquoted}
use Rattle.pas_check.proofs.Calls.{operand_is, text_form_is, value_form_is}
use Rattle.pas_check.proofs.seen.Seen.value_written.Goals as goal

pub returns-in_ok-scalar-in-Value-clause-form : goal.returns-in_ok-scalar-in-Value-clause-form
returns-in_ok-scalar-in-Value-clause-form c =
    value_form_is (sight c.args.self.now) c.args.value.now c.in-Value.value c.args.made.now.built _ _ c.in-Value.is (operand_is _ _ _ _ _ c.in_ok-scalar-in-Value.ensures.form)

pub returns-in_ok-map_err-in-Text-clause-form : goal.returns-in_ok-map_err-in-Text-clause-form
unfolding sight
returns-in_ok-map_err-in-Text-clause-form c =
    let made : c.in_ok-map_err-in-Text.field-0 ≡ unquoted c.spelling.result.now = search rules in
    text_form_is (sight c.args.self.now) c.args.value.now c.in-Text.span c.args.made.now.built _ c.in-Text.is (made ∙ ap unquoted c.spelling.ensures)
