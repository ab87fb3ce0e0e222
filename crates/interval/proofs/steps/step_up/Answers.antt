use Rattle.std.proofs.Common.{◌≡◌, ◌<◌, true, false, ℤ, pos, int_lt, get_or, to_z, of_z, w32, refl, sym, ◌∙◌, arith, rules, length}
use Rattle.std.specs.Int.{int_min}
use Rattle.std.specs.List.{AllWithin}
use Rattle.std.specs.List.Sorted.{IsPartitionPoint}
use Rattle.std.proofs.lemmas.Int.{ints}
use Rattle.std.proofs.lemmas.List.Sorted.{IsPartitionPoint-from_clause}
use Rattle.interval.proofs.NextStep.{below_first, up_past, up_at}
use Rattle.interval.proofs.steps.step_up.Goals as goal

pub returns-then-place-steps : goal.returns-then-place-steps
returns-then-place-steps c =
    let z = c.args.z in
    let steps = c.args.steps.now in
    let point : IsPartitionPoint (λ s. int_lt s z ≡ true) (λ s. int_lt s z ≡ false) steps c.partition_point-place.result =
    IsPartitionPoint-from_clause (λ s. int_lt s z) _ _ c.partition_point-place.ensures.partitioned (below_first steps z c.requires) (λ a r q k. search rules) in
    let all : AllWithin (λ s. int_lt s z ≡ true) steps 0 (length steps) = λ k d low high. point.0 k d low (omega (arith, c.if-place-steps.true)) in
    let exact : to_z w32 (of_z w32 c.args.end) ≡ c.args.end = omega (arith, ints) in
    exact ∙ sym (up_past steps z c.args.end all)

pub returns : goal.returns
returns c =
    let z = c.args.z in
    let end = c.args.end in
    let steps = c.args.steps.now in
    let place = c.partition_point-place.result in
    let step : ℤ = get_or steps place (pos 0) in
    let point : IsPartitionPoint (λ s. int_lt s z ≡ true) (λ s. int_lt s z ≡ false) steps place =
    IsPartitionPoint-from_clause (λ s. int_lt s z) _ _ c.partition_point-place.ensures.partitioned (below_first steps z c.requires) (λ a r q k. search rules) in
    let inside : place < length steps = omega (arith, c.partition_point-place.ensures.bound, c.if-place-steps.false) in
    let exact : to_z w32 (of_z w32 c.min.result) ≡ int_min end step = grind (arith, ints) in
    exact ∙ sym (up_at steps z end step (pos 0) place c.requires point inside refl)
