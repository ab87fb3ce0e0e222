use Rattle.std.proofs.Common.{◌≡◌, refl, rules, arith}
use Rattle.pas_parser.specs.Block.{block, routines}
use Rattle.pas_parser.specs.Loop.{parts}
use Rattle.pas_parser.specs.Reading.{extended}
use Rattle.pas_parser.proofs.Levels.{above}
use Rattle.pas_parser.proofs.Loops.{gives_wrong, lists_start, lists_more, lists_wrong, lists_end}
use Rattle.pas_parser.proofs.block.+block.Goals as goal

pub block-returns-clause-value : goal.block-returns-clause-value
unfolding block
block-returns-clause-value t c = rw (above (λ n. block c.args.tokens.now n c.args.at) c.args.levels (omega arith)) c.measured_block.ensures.value

pub routines-loop-alloc-init : goal.routines-loop-alloc-init
unfolding routines parts
routines-loop-alloc-init t c =
    record { moved = search rules; inside = search rules; lists = lists_start _ (rw c.new.ensures refl) }

pub routines-loop-alloc-preserved : goal.routines-loop-alloc-preserved
routines-loop-alloc-preserved t c =
    let same : c.in_ok-list.list ≡ extended c.loop-alloc.list c.in_ok-more.more = search rules in
    record {
      moved = search rules;
      inside = search rules;
      lists = lists_more c.loop-alloc.list c.in_ok-more.more c.in_ok-list.list c.loop-alloc.invariant.lists (search rules) (search rules) (search rules) same (search rules);
    }

pub routines-returns-in_err-more-clause-value : goal.routines-returns-in_err-more-clause-value
routines-returns-in_err-more-clause-value t c =
    gives_wrong _ c.from_residual.result c.in_err-more.field-0.0 (search rules)
    (λ own. lists_wrong c.loop-alloc.list _ c.loop-alloc.invariant.lists (search rules) (search rules) (c.in_err-more.ensures.value own))

pub routines-returns-clause-value : goal.routines-returns-clause-value
routines-returns-clause-value t c = lists_end c.loop-alloc.list c.loop-alloc.invariant.lists (search rules)
