use Rattle.std.proofs.Common.{◌+◌, ◌-◌, ◌*◌, ◌<◌, ◌≤◌, length}
use Rattle.pas_lexer.specs.declared.token.Symbol.TheVariants.{Semicolon}
use Rattle.pas_parser.specs.Look.{is_symbol, kind_at}
use Rattle.pas_parser.specs.Reading.{extended}
use Rattle.pas_parser.specs.Statement.{element, elements, has_element, sequence, statement}
use Rattle.pas_parser.proofs.Loops.{Lists}
use Rattle.pas_parser.proofs.statement.+statement.Given as goal

-- a level, and in it the order in which the productions call one another

abbrev pub decreases-statement : goal.decreases-statement
decreases-statement l = 8 * l.levels

abbrev pub decreases-part : goal.decreases-part
decreases-part l = 8 * l.levels + 1

abbrev pub decreases-sequence : goal.decreases-sequence
decreases-sequence l = 8 * l.levels + 1

abbrev pub decreases-element : goal.decreases-element
decreases-element l = 8 * l.levels + 1

abbrev pub decreases-elements : goal.decreases-elements
decreases-elements l = 8 * l.levels + 2

abbrev pub decreases-else_part : goal.decreases-else_part
decreases-else_part l = 8 * l.levels + 2

abbrev pub decreases-compound : goal.decreases-compound
decreases-compound l = 8 * l.levels + 3

abbrev pub decreases-if_statement : goal.decreases-if_statement
decreases-if_statement l = 8 * l.levels + 3

abbrev pub decreases-case : goal.decreases-case
decreases-case l = 8 * l.levels + 3

abbrev pub decreases-while_loop : goal.decreases-while_loop
decreases-while_loop l = 8 * l.levels + 3

abbrev pub decreases-repeat : goal.decreases-repeat
decreases-repeat l = 8 * l.levels + 3

abbrev pub decreases-for_loop : goal.decreases-for_loop
decreases-for_loop l = 8 * l.levels + 3

abbrev pub decreases-body : goal.decreases-body
decreases-body l = 8 * l.levels + 4

abbrev pub decreases-measured_statement : goal.decreases-measured_statement
decreases-measured_statement l = 8 * l.levels + 5

abbrev pub invariant-sequence-loop-alloc : goal.invariant-sequence-loop-alloc
invariant-sequence-loop-alloc l = record {
  moved : l.fn.at ≤ l.list.next;
  inside : l.list.next ≤ length l.tokens;
  lists : Lists (λ list. list.next) extended (λ next. is_symbol Semicolon (kind_at l.tokens next)) (λ next. statement l.tokens l.levels (next + 1)) (sequence l.tokens (statement l.tokens l.levels) l.fn.at) (length l.tokens) l.list;
}

abbrev pub decreases-sequence-loop-alloc : goal.decreases-sequence-loop-alloc
decreases-sequence-loop-alloc l = length l.tokens - l.list.next

abbrev pub invariant-elements-loop-alloc : goal.invariant-elements-loop-alloc
invariant-elements-loop-alloc l = record {
  moved : l.fn.at < l.list.next;
  inside : l.list.next ≤ length l.tokens;
  lists : Lists (λ list. list.next) extended (has_element l.tokens) (λ next. element l.tokens (statement l.tokens l.levels) (next + 1)) (elements l.tokens (statement l.tokens l.levels) l.fn.at) (length l.tokens) l.list;
}

abbrev pub decreases-elements-loop-alloc : goal.decreases-elements-loop-alloc
decreases-elements-loop-alloc l = length l.tokens - l.list.next
