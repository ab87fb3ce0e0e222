use Rattle.std.proofs.Common.{rules, refl, ◌∙◌, arith}
use Rattle.std.proofs.lemmas.Grind.{common_steps}
use Rattle.pas_check.specs.Sight.{sight}
use Rattle.pas_check.proofs.Calls.{constants_begin, constants_end, constants_go}
use Rattle.pas_check.proofs.seen.Seen.case_constants.Goals as goal

pub loop-constant-init : goal.loop-constant-init
loop-constant-init c = record {
  rest = refl;
  writes = refl;
  form = constants_begin (sight c.args.self.now) c.new-values.result c.args.constants.now c.new-values.ensures;
  kept = refl;
}

pub loop-constant-preserved : goal.loop-constant-preserved
loop-constant-preserved c = record {
  rest = grind (arith, common_steps);
  writes = c.in_ok-value.ensures.writes ∙ c.loop-constant.invariant.writes;
  form = constants_go (sight c.args.self.now) _ c.loop-constant.values c.args.constants.now c.loop-constant.constant-index c.loop-constant.invariant.form _ c.in_ok-value.value c.push.new.self c.loop-constant-test.true c.in_ok-value.ensures.form (search rules);
  kept = c.in_ok-value.ensures.kept ∙ c.loop-constant.invariant.kept;
}

pub returns-clause-form : goal.returns-clause-form
returns-clause-form c = constants_end (sight c.args.self.now) _ c.loop-constant.values c.args.constants.now c.loop-constant.constant-index c.loop-constant.invariant.form c.loop-constant-test.false
