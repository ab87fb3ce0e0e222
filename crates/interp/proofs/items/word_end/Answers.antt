use Rattle.std.proofs.Common.{sym, ◌∙◌, arith}
use Rattle.std.proofs.lemmas.List.Sums.{position_or_len_is}
use Rattle.interp.specs.InputItems as spec
use Rattle.interp.proofs.items.word_end.Goals as goal

pub returns-then-is_between-clause-value : goal.returns-then-is_between-clause-value
returns-then-is_between-clause-value c =
    sym (position_or_len_is spec.is_between c.args.bytes.now c.loop-i.i 0 (omega arith) c.loop-i.invariant (λ _. sym c.is_between.ensures ∙ c.if-is_between.true))

pub returns-clause-value : goal.returns-clause-value
returns-clause-value c =
    let bytes = c.args.bytes.now in
    sym (position_or_len_is spec.is_between bytes _ 0 (omega arith) (λ k h. c.loop-i.invariant k (omega arith)) (λ h. absurd (omega arith)))
