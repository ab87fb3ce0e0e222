use Rattle.std.proofs.Common.{◌∙◌, Some, ap}
use Rattle.pas_check.specs.Forms.{expr_form}
use Rattle.pas_check.specs.Sight.{sight}
use Rattle.pas_check.proofs.Calls.{assigned_is}
use Rattle.pas_check.proofs.seen.Seen.assigned.Goals as goal

pub returns-in-Scalar-clause-form : goal.returns-in-Scalar-clause-form
returns-in-Scalar-clause-form c =
    assigned_is c.args.target.access (expr_form (sight c.args.self.now) c.args.value.now) c.args.made.now.built _ _ (c.in_ok-boolean.ensures.form ∙ ap (λ t. Some (t, c.expr.new.made.built)) c.in-Scalar.is)

pub returns-in-Array-clause-form : goal.returns-in-Array-clause-form
returns-in-Array-clause-form c =
    assigned_is c.args.target.access (expr_form (sight c.args.self.now) c.args.value.now) c.args.made.now.built _ _ (c.in_ok-boolean.ensures.form ∙ ap (λ t. Some (t, c.expr.new.made.built)) c.in-Array.is)
