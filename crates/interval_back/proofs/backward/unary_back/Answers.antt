use Rattle.std.proofs.Common.{sym, subst, IsTrue, ◌∙◌}
use Rattle.interval.specs.Intervals.{is_within, IsIn}
use Rattle.interval_back.proofs.KeptOne.{operand_kept}
use Rattle.interval_back.proofs.Possible.{possible, impossible}
use Rattle.interval_back.proofs.Within.{operand_within}
use Rattle.interval_back.proofs.backward.unary_back.Goals as goal

pub returns-then-is_empty-clause-kept : goal.returns-then-is_empty-clause-kept
returns-then-is_empty-clause-kept c a z i e k =
    absurd (impossible c.args.wanted c.unary.result.value z c.meet-possible.ensures (sym c.is_empty.ensures ∙ c.if-is_empty.true) k (c.unary.ensures.sound a z i e))

pub returns-clause-kept : goal.returns-clause-kept
returns-clause-kept c a z i e k =
    subst (λ v. IsIn v a) (sym c.operand.ensures)
    (operand_kept c.args.op c.meet-possible.result c.args.x a z i e
    (possible c.args.wanted c.unary.result.value z c.meet-possible.ensures k (c.unary.ensures.sound a z i e)))

pub returns-clause-within : goal.returns-clause-within
returns-clause-within c =
    subst (λ v. IsTrue (is_within v c.args.x)) (sym c.operand.ensures) (operand_within c.args.op _ c.args.x)
