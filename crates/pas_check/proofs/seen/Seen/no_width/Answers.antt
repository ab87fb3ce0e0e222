use Rattle.std.proofs.Common.{ap, ◌∙◌, sym, Err}
use Rattle.std.specs.Option.{option_map}
use Rattle.pas_check.specs.declared.fault.Fault.TheVariants.{Broken}
use Rattle.pas_check.specs.declared.fault.Rule.TheVariants as rule
use Rattle.pas_check.specs.Expr.{found, no_width}
use Rattle.pas_check.specs.Sight.{sight}
use Rattle.pas_check.proofs.Found.{given_width}
use Rattle.pas_check.proofs.seen.Seen.no_width.Goals as goal

pub returns-in-Some : goal.returns-in-Some
returns-in-Some c =
    let v = sight c.args.self.now in record {
      value = λ own.
          ap no_width (given_width v c.args.actual.now ∙ ap (option_map (found v)) c.in-Some.is)
          ∙ ap (λ at. Err (Broken rule.Type at)) (sym c.first.ensures) ∙ ap Err (sym c.broken.ensures);
    }
