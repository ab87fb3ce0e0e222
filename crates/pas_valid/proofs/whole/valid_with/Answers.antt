use Rattle.std.proofs.lemmas.Result.{on_ok_weaker}
use Rattle.pas_valid.specs.Whole.{AllFit}
use Rattle.pas_valid.proofs.Validity.{valid}
use Rattle.pas_valid.proofs.whole.valid_with.Goals as goal

pub returns : goal.returns
returns c =
    let labels = c.as_slice.result.now in
    on_ok_weaker c.valid.result
    (λ (f : AllFit c.args.types.now c.args.vars.now c.args.routines.now c.args.asserts.now labels c.args.ranks.now).
    valid c.args.types.now c.args.vars.now c.args.routines.now c.args.asserts.now labels c.args.ranks.now f (rw c.as_slice.ensures.value c.in_ok-sets.ensures.labels) c.in_ok-sets.ensures.once c.in_ok-sets.ensures.own)
    c.valid.ensures
