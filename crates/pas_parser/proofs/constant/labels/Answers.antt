use Rattle.std.proofs.Common.{◌≡◌, Ok, refl, rules}
use Rattle.pas_parser.specs.Constant.{label, labels}
use Rattle.pas_parser.specs.Loop.{parts, separated}
use Rattle.pas_parser.specs.Reading.{listed, extended}
use Rattle.pas_parser.proofs.Loops.{gives_wrong, lists_start, lists_more, lists_wrong, lists_end}
use Rattle.pas_parser.proofs.constant.labels.Goals as goal

pub loop-list-init : goal.loop-list-init
unfolding labels separated parts
loop-list-init c =
    let same : c.in_ok-list.list ≡ listed c.in_ok-first.first = search rules in
    let got : label c.args.tokens.now c.args.at ≡ Ok c.in_ok-first.first = search rules in
    record {
      moved = search rules;
      inside = search rules;
      lists = lists_start c.in_ok-list.list (rw (same, got) refl);
    }

pub loop-list-preserved : goal.loop-list-preserved
loop-list-preserved c =
    let same : c.in_ok-list-2.list ≡ extended c.loop-list.list c.in_ok-more.more = search rules in
    record {
      moved = search rules;
      inside = search rules;
      lists = lists_more c.loop-list.list c.in_ok-more.more c.in_ok-list-2.list c.loop-list.invariant.lists (search rules) (search rules) (search rules) same (search rules);
    }

pub returns-in_err-more-clause-value : goal.returns-in_err-more-clause-value
returns-in_err-more-clause-value c =
    gives_wrong _ c.from_residual-in_err-more.result c.in_err-more.field-0.0 (search rules)
    (λ own. lists_wrong c.loop-list.list _ c.loop-list.invariant.lists (search rules) (search rules) (c.in_err-more.ensures.value own))

pub returns-clause-value : goal.returns-clause-value
returns-clause-value c = lists_end c.loop-list.list c.loop-list.invariant.lists (search rules)
