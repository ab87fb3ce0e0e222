use Rattle.std.proofs.Common.{◌+◌, ◌-◌, ◌*◌, ◌≤◌, length}
use Rattle.pas_parser.specs.Block.{begins_routine, block, routine, routines}
use Rattle.pas_parser.specs.Look.{kind_at}
use Rattle.pas_parser.specs.Reading.{extended}
use Rattle.pas_parser.proofs.Loops.{Lists}
use Rattle.pas_parser.proofs.block.+block.Given as goal

-- a level, and in it the order in which the productions call one another

abbrev pub decreases-block : goal.decreases-block
decreases-block l = 8 * l.levels

abbrev pub decreases-routine_body : goal.decreases-routine_body
decreases-routine_body l = 8 * l.levels + 1

abbrev pub decreases-routine : goal.decreases-routine
decreases-routine l = 8 * l.levels + 2

abbrev pub decreases-routines : goal.decreases-routines
decreases-routines l = 8 * l.levels + 3

abbrev pub decreases-measured_block : goal.decreases-measured_block
decreases-measured_block l = 8 * l.levels + 4

abbrev pub invariant-routines-loop-alloc : goal.invariant-routines-loop-alloc
invariant-routines-loop-alloc l = record {
  moved : l.fn.at ≤ l.list.next;
  inside : l.list.next ≤ length l.tokens;
  lists : Lists (λ list. list.next) extended (λ next. begins_routine (kind_at l.tokens next)) (routine l.tokens (block l.tokens l.levels)) (routines l.tokens (block l.tokens l.levels) l.fn.at) (length l.tokens) l.list;
}

abbrev pub decreases-routines-loop-alloc : goal.decreases-routines-loop-alloc
decreases-routines-loop-alloc l = length l.tokens - l.list.next
