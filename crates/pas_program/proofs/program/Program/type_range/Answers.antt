use Rattle.std.proofs.Common.{rules, sym, ◌∙◌, w32, SFits}
use Rattle.std.proofs.lemmas.Int.{to_z-of_z}
use Rattle.pas_program.proofs.Layouts.{array_below, layout-Scalar}
use Rattle.pas_program.proofs.program.Program.type_range.Goals as goal

pub loop-lo-preserved : goal.loop-lo-preserved
loop-lo-preserved c =
    let b = array_below c.args.self.now.types c.loop-lo.t c.in-Array.index c.in-Array.element c.args.self.now.types_fit c.in-Array.ensures.value in
    (b.in_range, b.same_lo ∙ c.loop-lo.invariant.1, b.same_hi ∙ c.loop-lo.invariant.2)

pub loop-lo-smaller : goal.loop-lo-smaller
loop-lo-smaller c = (array_below c.args.self.now.types c.loop-lo.t c.in-Array.index c.in-Array.element c.args.self.now.types_fit c.in-Array.ensures.value).before

pub returns-in-Scalar : goal.returns-in-Scalar
returns-in-Scalar c =
    let l = layout-Scalar c.args.self.now.types c.loop-lo.t c.in-Scalar.boolean c.in-Scalar.lo c.in-Scalar.hi c.in-Scalar.ensures.value in
    let lo : SFits w32 c.in-Scalar.lo = search rules in
    let hi : SFits w32 c.in-Scalar.hi = search rules in
    simp (to_z-of_z, sym c.loop-lo.invariant.1, sym c.loop-lo.invariant.2, l)
