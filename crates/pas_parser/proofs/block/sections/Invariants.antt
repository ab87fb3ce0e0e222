use Rattle.std.proofs.Common.{◌+◌, ◌-◌, ◌<◌, ◌≤◌, length}
use Rattle.pas_lexer.specs.declared.token.Symbol.TheVariants.{Semicolon}
use Rattle.pas_parser.specs.Look.{is_symbol, kind_at}
use Rattle.pas_parser.specs.Block.{section, sections}
use Rattle.pas_parser.specs.Reading.{extended}
use Rattle.pas_parser.proofs.Loops.{Lists}
use Rattle.pas_parser.proofs.block.sections.Given as goal

abbrev pub invariant-loop-alloc : goal.invariant-loop-alloc
invariant-loop-alloc l = record {
  moved : l.fn.at < l.list.next;
  inside : l.list.next ≤ length l.tokens;
  lists : Lists (λ list. list.next) extended (λ next. is_symbol Semicolon (kind_at l.tokens next)) (λ next. section l.tokens (next + 1)) (sections l.tokens l.fn.at) (length l.tokens) l.list;
}

abbrev pub decreases-loop-alloc : goal.decreases-loop-alloc
decreases-loop-alloc l = length l.tokens - l.list.next
