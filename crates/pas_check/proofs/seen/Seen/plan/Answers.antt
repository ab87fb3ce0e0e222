use Rattle.std.proofs.Common.{◌≡◌, rules}
use Rattle.pas_check.specs.Names.{name_at}
use Rattle.pas_check.proofs.Plans.{passed_on, word_planned}
use Rattle.pas_check.proofs.seen.Seen.plan.Goals as goal

pub returns-in-Word-clause-value : goal.returns-in-Word-clause-value
returns-in-Word-clause-value c = λ before rest same kept.
    let name : c.as_slice-name.result.now ≡ name_at c.args.self.now.text.now c.args.routine.now.name = search rules in
    passed_on c.wait.result c.map_err-in-Word.result c.map_err-in-Word.ensures.variant c.wait.ensures.plan c.wait.ensures.lacking
    (word_planned c.args.self.now.text.now c.args.bodies.now c.args.plans.now c.wait.new.self c.args.routine.now c.args.number before rest kept c.in-Word.field-0 c.as_slice-name.result.now c.get.result c.in-Word.is same name c.get.ensures)
