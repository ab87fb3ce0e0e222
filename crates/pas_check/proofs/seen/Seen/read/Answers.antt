use Rattle.std.proofs.Common.{◌+◌, ap, ◌∙◌, drop, map, rules}
use Rattle.pas_check.specs.Expr.{given}
use Rattle.pas_check.specs.Forms.{given_form}
use Rattle.pas_check.specs.Outcome.{◌>>=◌}
use Rattle.pas_check.specs.Sight.{sight}
use Rattle.pas_check.specs.Statement.{all_read}
use Rattle.pas_check.specs.StatementForms.{read_form}
use Rattle.pas_check.specs.Writes.{read_writes}
use Rattle.pas_check.proofs.Calls.{reads_are}
use Rattle.pas_check.proofs.InOrder.{shown_begins, shown_ends, shown_goes}
use Rattle.pas_check.proofs.Passing.{gives_wrong, read_next}
use Rattle.pas_check.proofs.Writes.{turn_goes}
use Rattle.pas_check.proofs.seen.Seen.read.Goals as goal

pub loop-actual-init : goal.loop-actual-init
loop-actual-init c = record {
  rest = search rules;
  writes = search rules;
  form = shown_begins read_form (given_form (sight c.args.self.now)) c.new-to.result c.args.actuals.now c.args.made.now.built c.new-to.ensures;
}

pub loop-actual-preserved : goal.loop-actual-preserved
loop-actual-preserved c =
    let v = sight c.args.self.now in
    let rest = all_read v (map (given v) (drop (c.loop-actual.actual-index + 1) c.args.actuals.now)) in record {
      rest = c.loop-actual.invariant.rest ∙ read_next v c.args.actuals.now c.loop-actual.actual-index c.actual-item.result c.loop-actual-test.true c.actual-item.is
          ∙ ap (λ o. o >>= (λ done. rest)) c.in_ok-access.ensures.value;
      writes = turn_goes (read_writes v) (given v) c.args.actuals.now c.loop-actual.actual-index c.actual-item.result _ _ _ c.loop-actual-test.true c.actual-item.is c.loop-actual.invariant.writes c.in_ok-access.ensures.writes;
      form = shown_goes read_form (given_form v) _ _ c.args.actuals.now c.loop-actual.actual-index c.actual-item.result _ _ _ _ c.loop-actual.invariant.form c.loop-actual-test.true c.actual-item.is c.in_ok-access.ensures.form (search rules);
    }

pub returns-in_err-access-clause-value : goal.returns-in_err-access-clause-value
returns-in_err-access-clause-value c =
    let v = sight c.args.self.now in
    let rest = all_read v (map (given v) (drop (c.loop-actual.actual-index + 1) c.args.actuals.now)) in
    gives_wrong _ _ c.from_residual.result c.in_err-access.field-0.0 (search rules) (λ own.
    c.loop-actual.invariant.rest ∙ read_next v c.args.actuals.now c.loop-actual.actual-index c.actual-item.result c.loop-actual-test.true c.actual-item.is
    ∙ ap (λ o. o >>= (λ done. rest)) (c.in_err-access.ensures.value own))

pub returns-clause-form : goal.returns-clause-form
returns-clause-form c =
    let v = sight c.args.self.now in
    reads_are c.args.line _ _ _ _ (shown_ends read_form (given_form v) _ _ c.args.actuals.now c.loop-actual.actual-index _ c.loop-actual.invariant.form c.loop-actual-test.false)
