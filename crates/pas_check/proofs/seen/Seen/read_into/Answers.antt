use Rattle.pas_check.specs.Forms.{expr_form, given_form}
use Rattle.pas_check.specs.Sight.{sight}
use Rattle.pas_check.proofs.Calls.{read_is}
use Rattle.pas_check.proofs.seen.Seen.read_into.Goals as goal

pub returns-clause-form : goal.returns-clause-form
returns-clause-form c =
    let v = sight c.args.self.now in
    read_is (given_form v c.args.actual.now) (expr_form v c.in_ok-value.value.now) c.args.made.now.built c.in_ok-reached.reached _ _ c.in_ok-value.ensures.form c.in_ok-reached.ensures.form c.in_ok-threaten.ensures.kept
