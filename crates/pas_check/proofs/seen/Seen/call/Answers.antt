use Rattle.std.proofs.Common.{ap, map}
use Rattle.pas_check.specs.declared.seen.Made.{Made}
use Rattle.pas_check.specs.Forms.{given_form}
use Rattle.pas_check.specs.Sight.{sight}
use Rattle.pas_check.proofs.Calls.{call_is}
use Rattle.pas_check.proofs.seen.Seen.call.Goals as goal

pub returns-clause-form : goal.returns-clause-form
returns-clause-form c =
    let v = sight c.args.self.now in
    call_is v c.args.name (map (given_form v) c.args.actuals.now) c.args.made.now.built _ _ c.in_ok-meaning.meaning c.called_by.result c.in_ok-meaning.ensures.value
    (ap (λ (m : Made). m.built) c.in_ok-meaning.ensures.kept) c.called_by.ensures.form
