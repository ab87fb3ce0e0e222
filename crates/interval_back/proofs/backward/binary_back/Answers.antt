use Rattle.std.proofs.Common.{sym, subst, ap, IsTrue, ◌∙◌, arith}
use Rattle.std.proofs.lemmas.Int.{ints}
use Rattle.interval.specs.declared.answer.Answer.{Answer}
use Rattle.interval.specs.Intervals.{IsIn, is_within, meet}
use Rattle.interval_back.proofs.Logical.{left_possible, right_possible}
use Rattle.interval_back.proofs.Possible.{possible, impossible}
use Rattle.interval_back.proofs.Within.{left_within, right_within}
use Rattle.interval_back.proofs.backward.binary_back.Goals as goal

pub returns-then-is_empty-clause-left_kept : goal.returns-then-is_empty-clause-left_kept
returns-then-is_empty-clause-left_kept c a b z i j e k =
    absurd (impossible c.args.wanted c.binary.result.value z c.meet-possible.ensures (sym c.is_empty.ensures ∙ c.if-is_empty.true) k (c.binary.ensures.sound a b z i j e))

pub returns-then-is_empty-clause-right_kept : goal.returns-then-is_empty-clause-right_kept
returns-then-is_empty-clause-right_kept c a b z i j e k =
    absurd (impossible c.args.wanted c.binary.result.value z c.meet-possible.ensures (sym c.is_empty.ensures ∙ c.if-is_empty.true) k (c.binary.ensures.sound a b z i j e))

pub returns-clause-left_kept : goal.returns-clause-left_kept
returns-clause-left_kept c a b z i j e k =
    c.left_operand.ensures.kept a b z i j e
    (possible c.args.wanted c.binary.result.value z c.meet-possible.ensures k (c.binary.ensures.sound a b z i j e))

pub returns-clause-right_kept : goal.returns-clause-right_kept
returns-clause-right_kept c a b z i j e k =
    c.right_operand.ensures.kept a b z i j e
    (possible c.args.wanted c.binary.result.value z c.meet-possible.ensures k (c.binary.ensures.sound a b z i j e))

pub returns-clause-left_within : goal.returns-clause-left_within
returns-clause-left_within c =
    subst (λ v. IsTrue (is_within v c.args.x)) (sym c.left_operand.ensures.value) (left_within c.args.op _ c.args.x c.args.y)

pub returns-clause-right_within : goal.returns-clause-right_within
returns-clause-right_within c =
    subst (λ v. IsTrue (is_within v c.args.y)) (sym c.right_operand.ensures.value) (right_within c.args.op _ c.args.x c.args.y)

pub returns-then-is_empty-clause-left_possible : goal.returns-then-is_empty-clause-left_possible
returns-then-is_empty-clause-left_possible c l a i = absurd (omega (arith, ints, i.0, i.1))

pub returns-then-is_empty-clause-right_possible : goal.returns-then-is_empty-clause-right_possible
returns-then-is_empty-clause-right_possible c l b i = absurd (omega (arith, ints, i.0, i.1))

pub returns-clause-left_possible : goal.returns-clause-left_possible
returns-clause-left_possible c l a i =
    left_possible c.args.op c.args.wanted c.args.x c.args.y c.meet-possible.result
    (c.meet-possible.ensures ∙ ap (λ (r : Answer). meet c.args.wanted r.value) c.binary.ensures.answer)
    (sym c.is_empty.ensures ∙ c.if-is_empty.false) l a (subst (λ v. IsIn v a) c.left_operand.ensures.value i)

pub returns-clause-right_possible : goal.returns-clause-right_possible
returns-clause-right_possible c l b i =
    right_possible c.args.op c.args.wanted c.args.x c.args.y c.meet-possible.result
    (c.meet-possible.ensures ∙ ap (λ (r : Answer). meet c.args.wanted r.value) c.binary.ensures.answer)
    (sym c.is_empty.ensures ∙ c.if-is_empty.false) l b (subst (λ v. IsIn v b) c.right_operand.ensures.value i)
