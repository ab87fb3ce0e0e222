use Rattle.std.proofs.Common.{◌≡◌, drop}
use Rattle.pas_check.specs.Built.{in_order}
use Rattle.pas_check.specs.Outcome.{each}
use Rattle.pas_check.specs.Sight.{sight}
use Rattle.pas_check.specs.StatementForms.{assert_form}
use Rattle.pas_check.specs.Statements.{asserted}
use Rattle.pas_check.specs.Writes.{assertion_writes}
use Rattle.pas_check.specs.Written.{writes_in_turn, written}
use Rattle.pas_check.proofs.InOrder.{after}
use Rattle.pas_check.proofs.checker.Checker.assertions.Given as goal

abbrev pub invariant-loop-assertion : goal.invariant-loop-assertion
invariant-loop-assertion l = record {
  kept : sight l.self.seen ≡ sight l.fn.self.seen;
  rest : each (asserted (sight l.fn.self.seen)) l.assertions ≡ each (asserted (sight l.fn.self.seen)) (drop l.assertion-index l.assertions);
  writes : writes_in_turn (assertion_writes (sight l.fn.self.seen)) l.assertions (written l.fn.self.made) ≡ writes_in_turn (assertion_writes (sight l.fn.self.seen)) (drop l.assertion-index l.assertions) (written l.self.made);
  form : in_order (assert_form (sight l.fn.self.seen)) l.assertions l.fn.self.made.built ≡ after l.numbers (in_order (assert_form (sight l.fn.self.seen)) (drop l.assertion-index l.assertions) l.self.made.built);
}
