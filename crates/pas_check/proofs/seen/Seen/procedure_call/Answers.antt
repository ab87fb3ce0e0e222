use Rattle.std.proofs.Common.{map, sym}
use Rattle.pas_check.specs.Expr.{call_shown}
use Rattle.pas_check.specs.Forms.{given_form}
use Rattle.pas_check.specs.Sight.{sight}
use Rattle.pas_check.proofs.Calls.{procedure_is}
use Rattle.pas_check.proofs.seen.Seen.procedure_call.Goals as goal

pub returns-clause-form : goal.returns-clause-form
returns-clause-form c =
    let v = sight c.args.self.now in
    procedure_is v c.args.head c.args.name.start (map (given_form v) c.args.actuals.now) c.args.made.now.built _ (call_shown c.in-Some.callee) _ (sym c.in-Some.ensures) c.in_ok-actuals.ensures.form
