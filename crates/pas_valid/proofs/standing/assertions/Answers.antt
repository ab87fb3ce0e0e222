use Rattle.std.proofs.Common.{nat_eq}
use Rattle.pas_valid.proofs.Marks.{counted_first, counted_next, counted_last, at_any}
use Rattle.pas_valid.proofs.standing.assertions.Goals as goal

pub loop-a-init : goal.loop-a-init
loop-a-init c = λ test n none. counted_first (λ b. nat_eq n b) (test c.args.mark) c.args.list.now _

pub loop-a-preserved : goal.loop-a-preserved
loop-a-preserved c = λ test n none.
    counted_next (λ b. nat_eq n b) (test c.args.mark) c.args.list.now c.loop-a.a-index _ _ _ _ c.loop-a-test.true
    (at_any c.args.list.now c.loop-a.a-index _ _ c.loop-a-test.true) (c.in_ok-assertion.ensures test n none) (c.loop-a.invariant test n none)

pub returns : goal.returns
returns c = λ test n none. counted_last (λ b. nat_eq n b) (test c.args.mark) c.args.list.now c.loop-a.a-index _ _ c.loop-a-test.false (c.loop-a.invariant test n none)
