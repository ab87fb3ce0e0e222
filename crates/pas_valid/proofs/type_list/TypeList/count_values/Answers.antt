use Rattle.std.proofs.Common.{rules, arith, w32, SFits}
use Rattle.std.proofs.lemmas.Int.{to_z-of_z}
use Rattle.pas_program.proofs.Layouts.{values_few, scalar_fits}
use Rattle.pas_valid.proofs.type_list.TypeList.count_values.Goals as goal

pub overflow_add-result : goal.overflow_add-result
overflow_add-result c =
    let lo : SFits w32 c.in-Scalar.lo = search rules in
    let hi : SFits w32 c.in-Scalar.hi = search rules in
    let e = simp to_z-of_z at c.abs_diff.ensures in
    let few = values_few _ _ _ (scalar_fits c.args.self.now.list c.args.t c.in-Scalar.boolean c.in-Scalar.lo c.in-Scalar.hi c.args.self.now.fits c.in-Scalar.ensures.value) in
    omega (arith, e, few)
