use Rattle.std.proofs.Common.{◌+◌, ◌-◌, ◌<◌, ◌≤◌, length}
use Rattle.pas_lexer.specs.declared.token.Symbol.TheVariants.{Comma}
use Rattle.pas_parser.specs.Look.{is_symbol, kind_at}
use Rattle.pas_parser.specs.TypeExpr.{index, indexes}
use Rattle.pas_parser.specs.Reading.{extended}
use Rattle.pas_parser.proofs.Loops.{Lists}
use Rattle.pas_parser.proofs.type_expr.indexes.Given as goal

abbrev pub invariant-loop-list : goal.invariant-loop-list
invariant-loop-list l = record {
  moved : l.fn.at < l.list.next;
  inside : l.list.next ≤ length l.tokens;
  lists : Lists (λ list. list.next) extended (λ next. is_symbol Comma (kind_at l.tokens next)) (λ next. index l.tokens (next + 1)) (indexes l.tokens l.fn.at) (length l.tokens) l.list;
}

abbrev pub decreases-loop-list : goal.decreases-loop-list
decreases-loop-list l = length l.tokens - l.list.next
