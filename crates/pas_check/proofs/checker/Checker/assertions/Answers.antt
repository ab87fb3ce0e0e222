use Rattle.std.proofs.Common.{◌≡◌, [], ◌∷◌, ◌++◌, arith, rules}
use Rattle.std.proofs.lemmas.Grind.{common_steps}
use Rattle.pas_check.specs.Sight.{sight}
use Rattle.pas_check.specs.StatementForms.{assert_form}
use Rattle.pas_check.proofs.InOrder.{order_goes}
use Rattle.pas_check.proofs.StatementForms.{assert_form_is}
use Rattle.pas_check.proofs.checker.Checker.assertions.Goals as goal

pub loop-assertion-preserved : goal.loop-assertion-preserved
loop-assertion-preserved c =
    let v = sight c.args.self.now.seen in
    let pushed : c.push.new.self ≡ c.loop-assertion.numbers ++ c.in_ok-number.number ∷ [] = search rules in
    record {
      kept = search rules;
      rest = grind (arith, common_steps);
      writes = grind (arith, common_steps);
      form = order_goes (assert_form v) _ c.loop-assertion.numbers c.args.assertions.now c.loop-assertion.assertion-index c.assertion-item.result _ _ _ _ c.loop-assertion.invariant.form c.loop-assertion-test.true c.assertion-item.is
          (assert_form_is c.assertion-item.result v _ _ _ _ _ _ c.loop-assertion.invariant.kept c.in_ok-cond.ensures.form c.in_ok-number.ensures.form) pushed;
    }
