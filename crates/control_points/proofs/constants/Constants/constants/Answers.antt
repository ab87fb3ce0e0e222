use Rattle.std.proofs.lemmas.List.{get_or_default}
use Rattle.std.proofs.Common.{[], ◌∷◌, refl, pos, get_or, w32}
use Rattle.std.proofs.Common.{FitsSigned, rules}
use Rattle.std.proofs.lemmas.Int.{to_z-of_z}
use Rattle.control_points.proofs.Walked.{all_by, more_by}
use Rattle.control_points.proofs.constants.Constants.constants.Goals as goal

pub loop-z-preserved : goal.loop-z-preserved
loop-z-preserved c =
    let zs = c.args.zs.now in
    let within = c.loop-z-test.true in
    let z = get_or zs c.loop-z.z-index (pos 0) in
    let fits : FitsSigned w32 z = search rules in
    let is = to_z-of_z w32 z fits in
    more_by (λ ys. ys) (λ y. y ∷ []) zs (λ x ys. refl) c.loop-z.z-index z _ _ _ within (get_or_default zs c.loop-z.z-index _ _ within) (rw is at c.in_ok-constant.ensures) c.loop-z.invariant

pub returns : goal.returns
returns c = all_by (λ ys. ys) (λ z. z ∷ []) c.args.zs.now refl c.loop-z.z-index c.loop-z.self.values _ c.loop-z.self.first c.loop-z-test.false c.loop-z.invariant
