use Rattle.std.proofs.Common.{◌-◌, ◌<◌, ◌≤◌, length}
use Rattle.pas_parser.specs.Look.{is_ident, kind_at}
use Rattle.pas_parser.specs.Block.{declarations, const_decl}
use Rattle.pas_parser.specs.Reading.{extended}
use Rattle.pas_parser.proofs.Loops.{Lists}
use Rattle.pas_parser.proofs.block.const_decls.Given as goal

abbrev pub invariant-loop-list : goal.invariant-loop-list
invariant-loop-list l = record {
  moved : l.fn.at < l.list.next;
  inside : l.list.next ≤ length l.tokens;
  lists : Lists (λ list. list.next) extended (λ next. is_ident (kind_at l.tokens next)) (const_decl l.tokens) (declarations l.tokens (const_decl l.tokens) l.fn.at) (length l.tokens) l.list;
}

abbrev pub decreases-loop-list : goal.decreases-loop-list
decreases-loop-list l = length l.tokens - l.list.next
