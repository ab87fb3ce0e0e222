use Rattle.std.proofs.Common.{◌≡◌, refl, rules}
use Rattle.pas_parser.specs.Statement.{assertions}
use Rattle.pas_parser.specs.Loop.{parts}
use Rattle.pas_parser.specs.Reading.{extended}
use Rattle.pas_parser.proofs.Loops.{gives_wrong, lists_start, lists_more, lists_wrong, lists_end}
use Rattle.pas_parser.proofs.statement.assertions.Goals as goal

pub loop-alloc-init : goal.loop-alloc-init
unfolding assertions parts
loop-alloc-init c =
    record { moved = search rules; inside = search rules; lists = lists_start _ (rw c.new.ensures refl) }

pub loop-alloc-preserved : goal.loop-alloc-preserved
loop-alloc-preserved c =
    let same : c.in_ok-list.list ≡ extended c.loop-alloc.list c.in_ok-more.more = search rules in
    record {
      moved = search rules;
      inside = search rules;
      lists = lists_more c.loop-alloc.list c.in_ok-more.more c.in_ok-list.list c.loop-alloc.invariant.lists (search rules) (search rules) (search rules) same (search rules);
    }

pub returns-in_err-more-clause-value : goal.returns-in_err-more-clause-value
returns-in_err-more-clause-value c =
    gives_wrong _ c.from_residual.result c.in_err-more.field-0.0 (search rules)
    (λ own. lists_wrong c.loop-alloc.list _ c.loop-alloc.invariant.lists (search rules) (search rules) (c.in_err-more.ensures.value own))

pub returns-clause-value : goal.returns-clause-value
returns-clause-value c = lists_end c.loop-alloc.list c.loop-alloc.invariant.lists (search rules)
