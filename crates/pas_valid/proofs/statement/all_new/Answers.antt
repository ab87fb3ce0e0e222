use Rattle.std.proofs.Common.{◌≡◌, true, List, ℤ, pos, ◌++◌, sym, subst}
use Rattle.std.proofs.lemmas.List.{drop_all}
use Rattle.pas_valid.specs.Standing.{fresh}
use Rattle.pas_valid.proofs.Constants.{fresh_next}
use Rattle.pas_valid.proofs.Marks.{at_any}
use Rattle.pas_valid.proofs.statement.all_new.Goals as goal

pub loop-value-init : goal.loop-value-init
loop-value-init c = λ zs h. h

pub loop-value-preserved : goal.loop-value-preserved
loop-value-preserved c =
    let k = c.loop-value.value-index in
    let xs : List ℤ = c.args.values.now in
    fresh_next c.loop-value.seen c.is_new.new.seen (λ zs. fresh c.args.seen.now (xs ++ zs) ≡ true) xs k _ c.loop-value-test.true
    (at_any xs k (pos 0) _ c.loop-value-test.true) c.in_ok-is_new.ensures c.loop-value.invariant

pub returns : goal.returns
returns c = λ zs h.
    c.loop-value.invariant zs (subst (λ (ys : List ℤ). fresh c.loop-value.seen (ys ++ zs) ≡ true) (sym (drop_all c.loop-value.value-index c.args.values.now c.loop-value-test.false)) h)
