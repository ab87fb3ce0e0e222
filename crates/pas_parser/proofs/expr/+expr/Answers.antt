use Rattle.std.proofs.Common.{◌≡◌, ◌+◌, ◌-◌, Ok, refl, rules, arith}
use Rattle.pas_parser.specs.Expr.{binary, expr, exprs, actual, actuals, subscripts, negation, factor, term, term_over, signed, simple, simple_over}
use Rattle.pas_parser.specs.Loop.{separated_measured}
use Rattle.pas_parser.specs.Reading.{appended, deeper, gathered, joined}
use Rattle.pas_parser.proofs.Levels.{expr_above, no_expr, no_factor, factor_below, term_below}
use Rattle.pas_parser.proofs.Chain.{applies_start, applies_more, applies_wrong, applies_too_deep, applies_end}
use Rattle.pas_parser.proofs.Loops.{gives_wrong, lists_start, lists_more, lists_wrong, lists_end}
use Rattle.pas_parser.proofs.expr.+expr.Goals as goal

pub expr-returns-then-levels-eq0-clause-value : goal.expr-returns-then-levels-eq0-clause-value
expr-returns-then-levels-eq0-clause-value t c own = rw (no_expr c.args.tokens.now c.args.levels c.args.at (omega arith)) (search rules)

pub expr-returns-in_err-comparison-clause-value : goal.expr-returns-in_err-comparison-clause-value
expr-returns-in_err-comparison-clause-value t c = rw (expr_above c.args.tokens.now c.args.levels c.args.at (omega arith)) (search rules)

pub expr-returns-clause-value : goal.expr-returns-clause-value
expr-returns-clause-value t c = rw (expr_above c.args.tokens.now c.args.levels c.args.at (omega arith)) (search rules)

pub negation-returns-then-levels-eq0-clause-value : goal.negation-returns-then-levels-eq0-clause-value
unfolding negation
negation-returns-then-levels-eq0-clause-value t c own = rw (no_factor c.args.tokens.now c.args.levels (c.args.at + 1) (omega arith)) (search rules)

pub negation-returns-in_err-inner-clause-value : goal.negation-returns-in_err-inner-clause-value
unfolding negation
negation-returns-in_err-inner-clause-value t c = rw (factor_below c.args.tokens.now c.args.levels (omega arith)) (search rules)

pub negation-returns-clause-value : goal.negation-returns-clause-value
unfolding negation
negation-returns-clause-value t c = rw (factor_below c.args.tokens.now c.args.levels (omega arith)) (search rules)

pub exprs-loop-alloc-init : goal.exprs-loop-alloc-init
unfolding exprs separated_measured
exprs-loop-alloc-init t c =
    let same : c.in_ok-list.list ≡ gathered c.in_ok-first.first = search rules in
    let got : expr c.args.tokens.now c.args.levels c.args.at ≡ Ok c.in_ok-first.first = search rules in
    record {
      moved = search rules;
      inside = search rules;
      shallow = search rules;
      lists = lists_start c.in_ok-list.list (rw (same, got) refl);
    }

pub exprs-loop-alloc-preserved : goal.exprs-loop-alloc-preserved
exprs-loop-alloc-preserved t c =
    let same : c.in_ok-list-2.list ≡ joined c.loop-alloc.list c.in_ok-more.more = search rules in
    record {
      moved = search rules;
      inside = search rules;
      shallow = search rules;
      lists = lists_more c.loop-alloc.list c.in_ok-more.more c.in_ok-list-2.list c.loop-alloc.invariant.lists (search rules) (search rules) (search rules) same (search rules);
    }

pub exprs-returns-in_err-more-clause-value : goal.exprs-returns-in_err-more-clause-value
exprs-returns-in_err-more-clause-value t c =
    gives_wrong _ c.from_residual-in_err-more.result c.in_err-more.field-0.0 (search rules)
    (λ own. lists_wrong c.loop-alloc.list _ c.loop-alloc.invariant.lists (search rules) (search rules) (c.in_err-more.ensures.value own))

pub exprs-returns-clause-value : goal.exprs-returns-clause-value
exprs-returns-clause-value t c = lists_end c.loop-alloc.list c.loop-alloc.invariant.lists (search rules)

pub actuals-loop-alloc-init : goal.actuals-loop-alloc-init
unfolding actuals separated_measured
actuals-loop-alloc-init t c =
    let same : c.in_ok-list.list ≡ gathered c.in_ok-first.first = search rules in
    let got : actual c.args.tokens.now (expr c.args.tokens.now c.args.levels) c.args.at ≡ Ok c.in_ok-first.first = search rules in
    record {
      moved = search rules;
      inside = search rules;
      shallow = search rules;
      lists = lists_start c.in_ok-list.list (rw (same, got) refl);
    }

pub actuals-loop-alloc-preserved : goal.actuals-loop-alloc-preserved
actuals-loop-alloc-preserved t c =
    let same : c.in_ok-list-2.list ≡ joined c.loop-alloc.list c.in_ok-more.more = search rules in
    record {
      moved = search rules;
      inside = search rules;
      shallow = search rules;
      lists = lists_more c.loop-alloc.list c.in_ok-more.more c.in_ok-list-2.list c.loop-alloc.invariant.lists (search rules) (search rules) (search rules) same (search rules);
    }

pub actuals-returns-in_err-more-clause-value : goal.actuals-returns-in_err-more-clause-value
actuals-returns-in_err-more-clause-value t c =
    gives_wrong _ c.from_residual-in_err-more.result c.in_err-more.field-0.0 (search rules)
    (λ own. lists_wrong c.loop-alloc.list _ c.loop-alloc.invariant.lists (search rules) (search rules) (c.in_err-more.ensures.value own))

pub actuals-returns-clause-value : goal.actuals-returns-clause-value
actuals-returns-clause-value t c = lists_end c.loop-alloc.list c.loop-alloc.invariant.lists (search rules)

pub subscripts-loop-alloc-init : goal.subscripts-loop-alloc-init
unfolding subscripts
subscripts-loop-alloc-init t c =
    record { moved = search rules; inside = search rules; shallow = search rules; lists = lists_start _ (rw c.new.ensures refl) }

pub subscripts-loop-alloc-preserved : goal.subscripts-loop-alloc-preserved
subscripts-loop-alloc-preserved t c =
    let same : c.in_ok-list.list ≡ appended c.loop-alloc.list c.in_ok-more.more = search rules in
    record {
      moved = search rules;
      inside = search rules;
      shallow = search rules;
      lists = lists_more c.loop-alloc.list c.in_ok-more.more c.in_ok-list.list c.loop-alloc.invariant.lists (search rules) (search rules) (search rules) same (search rules);
    }

pub subscripts-returns-in_err-more-clause-value : goal.subscripts-returns-in_err-more-clause-value
subscripts-returns-in_err-more-clause-value t c =
    gives_wrong _ c.from_residual.result c.in_err-more.field-0.0 (search rules)
    (λ own. lists_wrong c.loop-alloc.list _ c.loop-alloc.invariant.lists (search rules) (search rules) (c.in_err-more.ensures.value own))

pub subscripts-returns-clause-value : goal.subscripts-returns-clause-value
subscripts-returns-clause-value t c = lists_end c.loop-alloc.list c.loop-alloc.invariant.lists (search rules)

pub simple-returns-in_err-left-clause-value : goal.simple-returns-in_err-left-clause-value
unfolding simple simple_over term
simple-returns-in_err-left-clause-value t c = search rules

pub simple-loop-op-init : goal.simple-loop-op-init
unfolding simple simple_over term
simple-loop-op-init t c =
    let got : signed c.args.tokens.now (term c.args.tokens.now c.args.levels) c.args.at ≡ Ok c.in_ok-left.left = search rules in
    record { moved = search rules; inside = search rules; shallow = search rules; applies = applies_start c.in_ok-left.left (rw got refl) }

pub simple-returns-then-left-levels-clause-value : goal.simple-returns-then-left-levels-clause-value
simple-returns-then-left-levels-clause-value t c _ =
    applies_too_deep c.loop-op.left c.in-Some.op c.loop-op.invariant.applies (search rules) (search rules) (omega arith)

pub simple-returns-in_err-right-clause-value : goal.simple-returns-in_err-right-clause-value
simple-returns-in_err-right-clause-value t c =
    gives_wrong _ c.from_residual-in_err-right.result c.in_err-right.field-0.0 (search rules)
    (λ own. applies_wrong c.loop-op.left c.in-Some.op _ c.loop-op.invariant.applies (search rules) (search rules) (omega arith)
    (rw (term_below c.args.tokens.now c.args.levels (omega arith)) (c.in_err-right.ensures.value own)))

pub simple-loop-op-preserved : goal.simple-loop-op-preserved
simple-loop-op-preserved t c =
    let made : c.in_ok-map_err.field-0 ≡ binary c.args.tokens.now c.args.at c.in-Some.op c.loop-op.left c.in_ok-right.right = search rules in
    let same : c.deeper-left.result ≡ deeper (binary c.args.tokens.now c.args.at c.in-Some.op c.loop-op.left c.in_ok-right.right) = rw (← made) c.deeper-left.ensures in
    let got : term c.args.tokens.now (c.args.levels - 1) (c.loop-op.left.next + 1) ≡ Ok c.in_ok-right.right = search rules in
    record {
      moved = search rules;
      inside = search rules;
      shallow = search rules;
      applies = applies_more c.loop-op.left c.in_ok-right.right c.deeper-left.result c.in-Some.op c.loop-op.invariant.applies (search rules) (search rules) (omega arith)
          (rw (term_below c.args.tokens.now c.args.levels (omega arith)) got) same (search rules);
    }

pub simple-returns-clause-value : goal.simple-returns-clause-value
simple-returns-clause-value t c = applies_end c.loop-op.left c.loop-op.invariant.applies (search rules)

pub term-returns-in_err-left-clause-value : goal.term-returns-in_err-left-clause-value
unfolding term term_over factor
term-returns-in_err-left-clause-value t c = search rules

pub term-loop-op-init : goal.term-loop-op-init
unfolding term term_over factor
term-loop-op-init t c =
    let got : factor c.args.tokens.now c.args.levels c.args.at ≡ Ok c.in_ok-left.left = search rules in
    record { moved = search rules; inside = search rules; shallow = search rules; applies = applies_start c.in_ok-left.left (rw got refl) }

pub term-returns-then-left-levels-clause-value : goal.term-returns-then-left-levels-clause-value
term-returns-then-left-levels-clause-value t c _ =
    applies_too_deep c.loop-op.left c.in-Some.op c.loop-op.invariant.applies (search rules) (search rules) (omega arith)

pub term-returns-in_err-right-clause-value : goal.term-returns-in_err-right-clause-value
term-returns-in_err-right-clause-value t c =
    gives_wrong _ c.from_residual-in_err-right.result c.in_err-right.field-0.0 (search rules)
    (λ own. applies_wrong c.loop-op.left c.in-Some.op _ c.loop-op.invariant.applies (search rules) (search rules) (omega arith)
    (rw (factor_below c.args.tokens.now c.args.levels (omega arith)) (c.in_err-right.ensures.value own)))

pub term-loop-op-preserved : goal.term-loop-op-preserved
term-loop-op-preserved t c =
    let made : c.in_ok-map_err.field-0 ≡ binary c.args.tokens.now c.args.at c.in-Some.op c.loop-op.left c.in_ok-right.right = search rules in
    let same : c.deeper-left.result ≡ deeper (binary c.args.tokens.now c.args.at c.in-Some.op c.loop-op.left c.in_ok-right.right) = rw (← made) c.deeper-left.ensures in
    let got : factor c.args.tokens.now (c.args.levels - 1) (c.loop-op.left.next + 1) ≡ Ok c.in_ok-right.right = search rules in
    record {
      moved = search rules;
      inside = search rules;
      shallow = search rules;
      applies = applies_more c.loop-op.left c.in_ok-right.right c.deeper-left.result c.in-Some.op c.loop-op.invariant.applies (search rules) (search rules) (omega arith)
          (rw (factor_below c.args.tokens.now c.args.levels (omega arith)) got) same (search rules);
    }

pub term-returns-clause-value : goal.term-returns-clause-value
term-returns-clause-value t c = applies_end c.loop-op.left c.loop-op.invariant.applies (search rules)
