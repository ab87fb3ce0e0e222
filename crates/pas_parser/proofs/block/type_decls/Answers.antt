use Rattle.std.proofs.Common.{◌≡◌, Ok, refl, rules}
use Rattle.pas_parser.specs.Block.{declarations, type_decl}
use Rattle.pas_parser.specs.Loop.{parts}
use Rattle.pas_parser.specs.Reading.{listed, extended}
use Rattle.pas_parser.proofs.Loops.{gives_wrong, lists_start, lists_more, lists_wrong, lists_end}
use Rattle.pas_parser.proofs.block.type_decls.Goals as goal

pub loop-alloc-init : goal.loop-alloc-init
unfolding declarations parts
loop-alloc-init c =
    let same : c.in_ok-list.list ≡ listed c.in_ok-first.first = search rules in
    let got : type_decl c.args.tokens.now c.args.levels c.args.at ≡ Ok c.in_ok-first.first = search rules in
    record {
      moved = search rules;
      inside = search rules;
      lists = lists_start c.in_ok-list.list (rw (same, got) refl);
    }

pub loop-alloc-preserved : goal.loop-alloc-preserved
loop-alloc-preserved c =
    let same : c.in_ok-list-2.list ≡ extended c.loop-alloc.list c.in_ok-more.more = search rules in
    record {
      moved = search rules;
      inside = search rules;
      lists = lists_more c.loop-alloc.list c.in_ok-more.more c.in_ok-list-2.list c.loop-alloc.invariant.lists (search rules) (search rules) (search rules) same (search rules);
    }

pub returns-in_err-more-clause-value : goal.returns-in_err-more-clause-value
returns-in_err-more-clause-value c =
    gives_wrong _ c.from_residual-in_err-more.result c.in_err-more.field-0.0 (search rules)
    (λ own. lists_wrong c.loop-alloc.list _ c.loop-alloc.invariant.lists (search rules) (search rules) (c.in_err-more.ensures.value own))

pub returns-clause-value : goal.returns-clause-value
returns-clause-value c = lists_end c.loop-alloc.list c.loop-alloc.invariant.lists (search rules)
