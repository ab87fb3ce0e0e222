use Rattle.pas_program.specs.Checked.{scope_in}
use Rattle.alias_class.specs.Cells.{routine_of}
use Rattle.alias_class.specs.Outlines.{outline_of_program}
use Rattle.abstract_expr.specs.Standing.{seen_rule}
use Rattle.abstract_expr.proofs.Seen.{call_seen, variable_seen}
use Rattle.abstract_expr.proofs.Weaker.{access_weaker, expr_weaker}
use Rattle.abstract_expr.proofs.laws.what_is_visible_is_seen.Goals as goal

pub returns-clause-exprs : goal.returns-clause-exprs
returns-clause-exprs _ = λ p c e is h.
    let o = outline_of_program p in
    expr_weaker (scope_in p (routine_of o c)) (seen_rule o c) (variable_seen p c is) (call_seen p c is) e h

pub returns-clause-accesses : goal.returns-clause-accesses
returns-clause-accesses _ = λ p c a is h.
    let o = outline_of_program p in
    access_weaker (scope_in p (routine_of o c)) (seen_rule o c) (variable_seen p c is) (call_seen p c is) a h
