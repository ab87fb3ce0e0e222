use Rattle.std.proofs.Common.{◌-◌, ◌<◌, ◌≤◌, length}
use Rattle.pas_parser.specs.Look.{is_ident, kind_at}
use Rattle.pas_parser.specs.Block.{declarations, var_decl}
use Rattle.pas_parser.specs.Reading.{extended}
use Rattle.pas_parser.proofs.Loops.{Lists}
use Rattle.pas_parser.proofs.block.var_decls.Given as goal

abbrev pub invariant-loop-alloc : goal.invariant-loop-alloc
invariant-loop-alloc l = record {
  moved : l.fn.at < l.list.next;
  inside : l.list.next ≤ length l.tokens;
  lists : Lists (λ list. list.next) extended (λ next. is_ident (kind_at l.tokens next)) (var_decl l.tokens l.levels) (declarations l.tokens (var_decl l.tokens l.levels) l.fn.at) (length l.tokens) l.list;
}

abbrev pub decreases-loop-alloc : goal.decreases-loop-alloc
decreases-loop-alloc l = length l.tokens - l.list.next
