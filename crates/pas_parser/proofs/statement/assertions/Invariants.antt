use Rattle.std.proofs.Common.{◌-◌, ◌≤◌, length}
use Rattle.pas_parser.specs.Look.{kind_at}
use Rattle.pas_parser.specs.Statement.{assertion, assertions, begins_assertion}
use Rattle.pas_parser.specs.Reading.{extended}
use Rattle.pas_parser.proofs.Loops.{Lists}
use Rattle.pas_parser.proofs.statement.assertions.Given as goal

abbrev pub invariant-loop-alloc : goal.invariant-loop-alloc
invariant-loop-alloc l = record {
  moved : l.fn.at ≤ l.list.next;
  inside : l.list.next ≤ length l.tokens;
  lists : Lists (λ list. list.next) extended (λ next. begins_assertion (kind_at l.tokens next)) (assertion l.tokens l.levels) (assertions l.tokens l.levels l.fn.at) (length l.tokens) l.list;
}

abbrev pub decreases-loop-alloc : goal.decreases-loop-alloc
decreases-loop-alloc l = length l.tokens - l.list.next
