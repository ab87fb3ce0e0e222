use Rattle.std.proofs.Common.{◌≡◌, Ok, refl, rules, arith}
use Rattle.pas_parser.specs.Loop.{parts, separated}
use Rattle.pas_parser.specs.Reading.{extended, listed}
use Rattle.pas_parser.specs.Statement.{element, elements, sequence, statement}
use Rattle.pas_parser.proofs.Levels.{above}
use Rattle.pas_parser.proofs.Loops.{gives_wrong, lists_start, lists_more, lists_wrong, lists_end}
use Rattle.pas_parser.proofs.statement.+statement.Goals as goal

pub statement-returns-then-levels-gt0-clause-value : goal.statement-returns-then-levels-gt0-clause-value
unfolding statement
statement-returns-then-levels-gt0-clause-value t c = rw (above (λ n. statement c.args.tokens.now n c.args.at) c.args.levels (omega arith)) c.measured_statement.ensures.value

pub sequence-loop-alloc-init : goal.sequence-loop-alloc-init
unfolding sequence separated parts
sequence-loop-alloc-init t c =
    let same : c.in_ok-list.list ≡ listed c.in_ok-first.first = search rules in
    let got : statement c.args.tokens.now c.args.levels c.args.at ≡ Ok c.in_ok-first.first = search rules in
    record {
      moved = search rules;
      inside = search rules;
      lists = lists_start c.in_ok-list.list (rw (same, got) refl);
    }

pub sequence-loop-alloc-preserved : goal.sequence-loop-alloc-preserved
sequence-loop-alloc-preserved t c =
    let same : c.in_ok-list-2.list ≡ extended c.loop-alloc.list c.in_ok-more.more = search rules in
    record {
      moved = search rules;
      inside = search rules;
      lists = lists_more c.loop-alloc.list c.in_ok-more.more c.in_ok-list-2.list c.loop-alloc.invariant.lists (search rules) (search rules) (search rules) same (search rules);
    }

pub sequence-returns-in_err-more-clause-value : goal.sequence-returns-in_err-more-clause-value
sequence-returns-in_err-more-clause-value t c =
    gives_wrong _ c.from_residual-in_err-more.result c.in_err-more.field-0.0 (search rules)
    (λ own. lists_wrong c.loop-alloc.list _ c.loop-alloc.invariant.lists (search rules) (search rules) (c.in_err-more.ensures.value own))

pub sequence-returns-clause-value : goal.sequence-returns-clause-value
sequence-returns-clause-value t c = lists_end c.loop-alloc.list c.loop-alloc.invariant.lists (search rules)

pub elements-loop-alloc-init : goal.elements-loop-alloc-init
unfolding elements parts
elements-loop-alloc-init t c =
    let same : c.in_ok-list.list ≡ listed c.in_ok-first.first = search rules in
    let got : element c.args.tokens.now (statement c.args.tokens.now c.args.levels) c.args.at ≡ Ok c.in_ok-first.first = search rules in
    record {
      moved = search rules;
      inside = search rules;
      lists = lists_start c.in_ok-list.list (rw (same, got) refl);
    }

pub elements-loop-alloc-preserved : goal.elements-loop-alloc-preserved
elements-loop-alloc-preserved t c =
    let same : c.in_ok-list-2.list ≡ extended c.loop-alloc.list c.in_ok-more.more = search rules in
    record {
      moved = search rules;
      inside = search rules;
      lists = lists_more c.loop-alloc.list c.in_ok-more.more c.in_ok-list-2.list c.loop-alloc.invariant.lists (search rules) (search rules) (search rules) same (search rules);
    }

pub elements-returns-in_err-more-clause-value : goal.elements-returns-in_err-more-clause-value
elements-returns-in_err-more-clause-value t c =
    gives_wrong _ c.from_residual-in_err-more.result c.in_err-more.field-0.0 (search rules)
    (λ own. lists_wrong c.loop-alloc.list _ c.loop-alloc.invariant.lists (search rules) (search rules) (c.in_err-more.ensures.value own))

pub elements-returns-clause-value : goal.elements-returns-clause-value
elements-returns-clause-value t c = lists_end c.loop-alloc.list c.loop-alloc.invariant.lists (search rules)
