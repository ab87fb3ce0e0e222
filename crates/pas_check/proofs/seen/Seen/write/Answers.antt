use Rattle.std.proofs.Common.{rules}
use Rattle.pas_check.specs.Expr.{given}
use Rattle.pas_check.specs.Forms.{given_form}
use Rattle.pas_check.specs.Sight.{sight}
use Rattle.pas_check.specs.StatementForms.{item_form}
use Rattle.pas_check.specs.Statements as whole
use Rattle.pas_check.specs.Writes.{item_writes}
use Rattle.pas_check.proofs.Calls.{each_shown_goes, writes_are}
use Rattle.pas_check.proofs.InOrder.{shown_begins, shown_ends, shown_goes}
use Rattle.pas_check.proofs.Writes.{turn_goes}
use Rattle.pas_check.proofs.seen.Seen.write.Goals as goal

pub loop-actual-init : goal.loop-actual-init
loop-actual-init c = record {
  rest = search rules;
  writes = search rules;
  form = shown_begins (item_form (sight c.args.self.now)) (given_form (sight c.args.self.now)) c.new-items.result c.args.actuals.now c.args.made.now.built c.new-items.ensures;
}

pub loop-actual-preserved : goal.loop-actual-preserved
loop-actual-preserved c =
    let v = sight c.args.self.now in record {
      rest = each_shown_goes whole.written (given v) _ c.args.actuals.now c.loop-actual.actual-index c.actual-item.result c.loop-actual.invariant.rest c.loop-actual-test.true c.actual-item.is c.in_ok-item.ensures.value;
      writes = turn_goes item_writes (given v) c.args.actuals.now c.loop-actual.actual-index c.actual-item.result _ _ _ c.loop-actual-test.true c.actual-item.is c.loop-actual.invariant.writes c.in_ok-item.ensures.writes;
      form = shown_goes (item_form v) (given_form v) _ _ c.args.actuals.now c.loop-actual.actual-index c.actual-item.result _ _ _ _ c.loop-actual.invariant.form c.loop-actual-test.true c.actual-item.is c.in_ok-item.ensures.form (search rules);
    }

pub returns-clause-form : goal.returns-clause-form
returns-clause-form c =
    let v = sight c.args.self.now in
    writes_are v c.args.line _ _ _ _ (shown_ends (item_form v) (given_form v) _ _ c.args.actuals.now c.loop-actual.actual-index _ c.loop-actual.invariant.form c.loop-actual-test.false)
