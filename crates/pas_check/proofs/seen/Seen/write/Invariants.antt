use Rattle.std.proofs.Common.{◌≡◌, map, drop}
use Rattle.pas_check.specs.Built.{in_order}
use Rattle.pas_check.specs.Expr.{given}
use Rattle.pas_check.specs.Forms.{given_form}
use Rattle.pas_check.specs.Outcome.{each}
use Rattle.pas_check.specs.Sight.{sight}
use Rattle.pas_check.specs.StatementForms.{item_form}
use Rattle.pas_check.specs.Statements as whole
use Rattle.pas_check.specs.Writes.{item_writes}
use Rattle.pas_check.specs.Written.{writes_in_turn, written}
use Rattle.pas_check.proofs.InOrder.{after}
use Rattle.pas_check.proofs.seen.Seen.write.Given as goal

abbrev pub invariant-loop-actual : goal.invariant-loop-actual
invariant-loop-actual l = record {
  rest : each whole.written (map (given (sight l.self)) l.actuals) ≡ each whole.written (map (given (sight l.self)) (drop l.actual-index l.actuals));
  writes : writes_in_turn item_writes (map (given (sight l.self)) l.actuals) (written l.fn.made) ≡ writes_in_turn item_writes (map (given (sight l.self)) (drop l.actual-index l.actuals)) (written l.made);
  form : in_order (item_form (sight l.self)) (map (given_form (sight l.self)) l.actuals) l.fn.made.built ≡ after l.items (in_order (item_form (sight l.self)) (map (given_form (sight l.self)) (drop l.actual-index l.actuals)) l.made.built);
}
