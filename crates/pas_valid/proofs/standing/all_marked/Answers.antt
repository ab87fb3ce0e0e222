use Rattle.std.proofs.Common.{◌≡◌, suc, Some, sym, ap, ◌∙◌, arith}
use Rattle.std.specs.List.{slice_get}
use Rattle.std.specs.Option.{option_copied}
use Rattle.pas_program.specs.declared.routine.Assert.{Assert}
use Rattle.pas_valid.proofs.Lists.{each_next, each_last}
use Rattle.pas_valid.proofs.standing.all_marked.Goals as goal

pub loop-a-preserved : goal.loop-a-preserved
loop-a-preserved c =
    let same : c.in-Some.mark.now ≡ suc c.index-asserts-a.result.routine = omega arith in
    each_next (λ j (d : Assert). slice_get c.args.marks.now j ≡ Some (suc d.routine)) c.args.asserts.now c.loop-a.a c.index-asserts-a.result c.loop-a-test.true c.index-asserts-a.is
    (sym c.at.ensures ∙ ap option_copied c.in-Some.is ∙ ap Some same) c.loop-a.invariant

pub returns : goal.returns
returns c = each_last (λ j (d : Assert). slice_get c.args.marks.now j ≡ Some (suc d.routine)) c.args.asserts.now c.loop-a.a c.loop-a-test.false c.loop-a.invariant
