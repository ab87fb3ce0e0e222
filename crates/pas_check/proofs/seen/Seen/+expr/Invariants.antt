use Rattle.std.proofs.Common.{◌≡◌, map, drop}
use Rattle.pas_check.specs.Expr.{all_passed, all_passed_writes, formals_at, found, found_writes, given, led}
use Rattle.pas_check.specs.Forms.{all_passed_form, expr_form, given_form, subscripts_form}
use Rattle.pas_check.specs.Sight.{sight}
use Rattle.pas_check.specs.Written.{writes_in_turn, written}
use Rattle.pas_check.proofs.Forms.{after_subscripts}
use Rattle.pas_check.proofs.InOrder.{after}
use Rattle.pas_check.proofs.seen.Seen.+expr.Given as goal

abbrev pub invariant-reached-loop-subscript : goal.invariant-reached-loop-subscript
invariant-reached-loop-subscript l = record {
  led : led (sight l.self) (map (found (sight l.self)) l.subscripts) l.variable.of_type ≡ led (sight l.self) (map (found (sight l.self)) (drop l.subscript-index l.subscripts)) l.of_type;
  writes : writes_in_turn found_writes (map (found (sight l.self)) l.subscripts) (written l.fn.made) ≡ writes_in_turn found_writes (map (found (sight l.self)) (drop l.subscript-index l.subscripts)) (written l.made);
  form : subscripts_form (sight l.self) l.variable.of_type (map (expr_form (sight l.self)) l.subscripts) l.fn.made.built ≡ after_subscripts l.list (subscripts_form (sight l.self) l.of_type (map (expr_form (sight l.self)) (drop l.subscript-index l.subscripts)) l.made.built);
}

abbrev pub invariant-actuals-loop-k : goal.invariant-actuals-loop-k
invariant-actuals-loop-k l = record {
  passed : all_passed (sight l.self) (formals_at (sight l.self) l.head) (map (given (sight l.self)) l.actuals) ≡ all_passed (sight l.self) (drop l.k (formals_at (sight l.self) l.head)) (map (given (sight l.self)) (drop l.k l.actuals));
  writes : all_passed_writes (sight l.self) (formals_at (sight l.self) l.head) (map (given (sight l.self)) l.actuals) (written l.fn.made) ≡ all_passed_writes (sight l.self) (drop l.k (formals_at (sight l.self) l.head)) (map (given (sight l.self)) (drop l.k l.actuals)) (written l.made);
  form : all_passed_form (formals_at (sight l.self) l.head) (map (given_form (sight l.self)) l.actuals) l.fn.made.built ≡ after l.list (all_passed_form (drop l.k (formals_at (sight l.self) l.head)) (map (given_form (sight l.self)) (drop l.k l.actuals)) l.made.built);
}
