use Rattle.std.proofs.Common.{◌≡◌, ◌-◌, false, get_or, nat_eq, ap, take, length, arith}
use Rattle.std.proofs.lemmas.Grind.{common_steps}
use Rattle.std.proofs.lemmas.Bool.{ne_eqb}
use Rattle.std.specs.Prelude.{◌&&◌}
use Rattle.pas_check.specs.StatementForms.{quote, unquoted}
use Rattle.pas_check.proofs.Quotes.{all_kept, kept, no_skip, quotes_begin}
use Rattle.pas_check.proofs.transput.unquoted.Goals as goal
use Rattle.pas_check.proofs.transput.unquoted.Goals.{else-quote-via-then-quote+else-skip, else-quote-via-else-quote}

pub loop-byte-init : goal.loop-byte-init
loop-byte-init c =
    let front : c.unwrap_or-byte-items.result.now ≡ take (length c.args.quoted.now - 1) c.args.quoted.now = grind (arith, common_steps) in
    quotes_begin c.args.quoted.now c.new-bytes.result c.unwrap_or-byte-items.result.now c.new-bytes.ensures front

pub loop-byte-preserved : goal.loop-byte-preserved
loop-byte-preserved c =
    let items = c.unwrap_or-byte-items.result.now in
    let k = c.loop-byte.byte-index in
    let other : (nat_eq (get_or items k 0) quote && c.loop-byte.skip) ≡ false =
    elim c.else-quote.branch [ else-quote-via-then-quote+else-skip w ↦ no_skip _ _ w.if-skip.false | else-quote-via-else-quote w ↦ ap (λ b. b && c.loop-byte.skip) (ne_eqb _ _ w.if-quote.false) ] in
    kept (unquoted c.args.quoted.now) c.loop-byte.bytes items k c.loop-byte-test.true c.loop-byte.skip c.push.new.self c.loop-byte.invariant other c.in_ok-push.ensures.ok

pub returns : goal.returns
returns c = all_kept (unquoted c.args.quoted.now) c.loop-byte.bytes c.unwrap_or-byte-items.result.now c.loop-byte.byte-index c.loop-byte.skip c.loop-byte.invariant c.loop-byte-test.false
