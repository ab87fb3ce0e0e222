use Rattle.std.proofs.Common.{◌+◌, ◌-◌, ◌*◌, ◌<◌, ◌≤◌, length}
use Rattle.pas_lexer.specs.declared.token.Symbol.TheVariants.{Comma, LeftBracket}
use Rattle.pas_parser.specs.Expr.{up_to, expr, term, simple, exprs, actual, actuals, bracketed, subscripts}
use Rattle.pas_parser.specs.Look.{is_symbol, kind_at}
use Rattle.pas_parser.specs.Operator.{adding, multiplying}
use Rattle.pas_parser.specs.Reading.{appended, joined}
use Rattle.pas_parser.proofs.Chain.{Applies}
use Rattle.pas_parser.proofs.Loops.{Lists}
use Rattle.pas_parser.proofs.expr.+expr.Given as goal

-- a level, and in it the order in which the productions call one another

abbrev pub decreases-expr : goal.decreases-expr
decreases-expr l = 16 * l.levels

abbrev pub decreases-exprs : goal.decreases-exprs
decreases-exprs l = 16 * l.levels + 1

abbrev pub decreases-actual_value : goal.decreases-actual_value
decreases-actual_value l = 16 * l.levels + 1

abbrev pub decreases-width : goal.decreases-width
decreases-width l = 16 * l.levels + 1

abbrev pub decreases-actual : goal.decreases-actual
decreases-actual l = 16 * l.levels + 2

abbrev pub decreases-actuals : goal.decreases-actuals
decreases-actuals l = 16 * l.levels + 3

abbrev pub decreases-arguments : goal.decreases-arguments
decreases-arguments l = 16 * l.levels + 4

abbrev pub decreases-bracketed : goal.decreases-bracketed
decreases-bracketed l = 16 * l.levels + 2

abbrev pub decreases-subscripts : goal.decreases-subscripts
decreases-subscripts l = 16 * l.levels + 3

abbrev pub decreases-access : goal.decreases-access
decreases-access l = 16 * l.levels + 4

abbrev pub decreases-parenthesized : goal.decreases-parenthesized
decreases-parenthesized l = 16 * l.levels + 1

abbrev pub decreases-negation : goal.decreases-negation
decreases-negation l = 16 * l.levels + 1

abbrev pub decreases-named : goal.decreases-named
decreases-named l = 16 * l.levels + 5

abbrev pub decreases-factor : goal.decreases-factor
decreases-factor l = 16 * l.levels + 6

abbrev pub decreases-term : goal.decreases-term
decreases-term l = 16 * l.levels + 7

abbrev pub decreases-signed : goal.decreases-signed
decreases-signed l = 16 * l.levels + 8

abbrev pub decreases-simple : goal.decreases-simple
decreases-simple l = 16 * l.levels + 9

abbrev pub decreases-comparison : goal.decreases-comparison
decreases-comparison l = 16 * l.levels + 10

abbrev pub invariant-exprs-loop-alloc : goal.invariant-exprs-loop-alloc
invariant-exprs-loop-alloc l = record {
  moved : l.fn.at < l.list.next;
  inside : l.list.next ≤ length l.tokens;
  shallow : l.list.height ≤ l.levels;
  lists : Lists (λ list. list.next) joined (λ next. is_symbol Comma (kind_at l.tokens next)) (λ next. expr l.tokens l.levels (next + 1)) (exprs l.tokens (expr l.tokens l.levels) l.fn.at) (length l.tokens) l.list;
}

abbrev pub decreases-exprs-loop-alloc : goal.decreases-exprs-loop-alloc
decreases-exprs-loop-alloc l = length l.tokens - l.list.next

abbrev pub invariant-actuals-loop-alloc : goal.invariant-actuals-loop-alloc
invariant-actuals-loop-alloc l = record {
  moved : l.fn.at < l.list.next;
  inside : l.list.next ≤ length l.tokens;
  shallow : l.list.height ≤ l.levels;
  lists : Lists (λ list. list.next) joined (λ next. is_symbol Comma (kind_at l.tokens next)) (λ next. actual l.tokens (expr l.tokens l.levels) (next + 1)) (actuals l.tokens (expr l.tokens l.levels) l.fn.at) (length l.tokens) l.list;
}

abbrev pub decreases-actuals-loop-alloc : goal.decreases-actuals-loop-alloc
decreases-actuals-loop-alloc l = length l.tokens - l.list.next

abbrev pub invariant-subscripts-loop-alloc : goal.invariant-subscripts-loop-alloc
invariant-subscripts-loop-alloc l = record {
  moved : l.fn.at ≤ l.list.next;
  inside : l.list.next ≤ length l.tokens;
  shallow : l.list.height ≤ l.levels;
  lists : Lists (λ list. list.next) appended (λ next. is_symbol LeftBracket (kind_at l.tokens next)) (bracketed l.tokens (expr l.tokens l.levels)) (subscripts l.tokens (expr l.tokens l.levels) l.fn.at) (length l.tokens) l.list;
}

abbrev pub decreases-subscripts-loop-alloc : goal.decreases-subscripts-loop-alloc
decreases-subscripts-loop-alloc l = length l.tokens - l.list.next

abbrev pub invariant-simple-loop-op : goal.invariant-simple-loop-op
invariant-simple-loop-op l = record {
  moved : l.at < l.left.next;
  inside : l.left.next ≤ length l.tokens;
  shallow : l.left.height ≤ l.levels;
  applies : Applies l.tokens adding l.levels l.at (up_to l.tokens l.levels).term (simple l.tokens l.levels l.at) l.left;
}

abbrev pub decreases-simple-loop-op : goal.decreases-simple-loop-op
decreases-simple-loop-op l = length l.tokens - l.left.next

abbrev pub invariant-term-loop-op : goal.invariant-term-loop-op
invariant-term-loop-op l = record {
  moved : l.at < l.left.next;
  inside : l.left.next ≤ length l.tokens;
  shallow : l.left.height ≤ l.levels;
  applies : Applies l.tokens multiplying l.levels l.at (up_to l.tokens l.levels).factor (term l.tokens l.levels l.at) l.left;
}

abbrev pub decreases-term-loop-op : goal.decreases-term-loop-op
decreases-term-loop-op l = length l.tokens - l.left.next
