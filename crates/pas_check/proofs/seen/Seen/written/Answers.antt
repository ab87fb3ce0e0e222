use Rattle.std.proofs.Common.{rules}
use Rattle.pas_check.specs.Sight.{sight}
use Rattle.pas_check.proofs.Calls.{item_is}
use Rattle.pas_check.proofs.Passing.{gives_wrong}
use Rattle.pas_check.proofs.Statements.{value_fails, width_is}
use Rattle.pas_check.proofs.Writes.{item_writes_are}
use Rattle.pas_check.proofs.seen.Seen.written.Goals as goal

pub returns-in_err-value-clause-value : goal.returns-in_err-value-clause-value
returns-in_err-value-clause-value c =
    gives_wrong _ _ c.from_residual.result c.in_err-value.field-0.0 (search rules) (λ own. value_fails (sight c.args.self.now) c.args.actual.now c.in_err-value.field-0.0 (c.in_err-value.ensures.value own))

pub returns-in_err-width-clause-value : goal.returns-in_err-width-clause-value
returns-in_err-width-clause-value c =
    gives_wrong _ _ c.from_residual-in_err-width.result c.in_err-width.field-0.0 (search rules) (λ own. width_is (sight c.args.self.now) c.args.actual.now _ c.in_ok-value.ensures.value (c.in_err-width.ensures.value own))

pub returns : goal.returns
returns c = record {
  value = width_is (sight c.args.self.now) c.args.actual.now _ c.in_ok-value.ensures.value c.in_ok-width.ensures.value;
  form = item_is (sight c.args.self.now) c.args.actual.now _ _ _ _ _ c.in_ok-value.ensures.form c.in_ok-width.ensures.form;
  writes = item_writes_are (sight c.args.self.now) c.args.actual.now _ _ _ c.in_ok-value.ensures.writes c.in_ok-width.ensures.writes;
}
