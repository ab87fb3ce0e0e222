use Rattle.std.proofs.Common.{suc, ◌+◌, ◌-◌, ◌*◌, drop, get_or, arith, drop-cons}
use Rattle.pas_lexer.proofs.Digits.{decimal_after-grows}
use Rattle.pas_lexer.proofs.piece.value_of.Goals as goal

pub returns-then-value-gt-LARGEST : goal.returns-then-value-gt-LARGEST
returns-then-value-gt-LARGEST c =
    let digits = c.args.digits.now in
    let i = c.loop-digit.digit-index in
    let same = rw (drop-cons digits i 0 c.loop-digit-test.true) at c.loop-digit.invariant.same in
    let grows = decimal_after-grows (c.loop-digit.value * 10 + (get_or digits i 0 - 48)) (drop (suc i) digits) in
    λ fits. omega (arith, same, grows, c.from.ensures)
