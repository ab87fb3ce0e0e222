use Rattle.std.proofs.Common.{◌≡◌, ◌-◌, ℕ, suc, true, false, ℤ, pos, int_le, get_or, to_z, of_z, w32, refl, sym, subst, ◌∙◌, arith, rules, length}
use Rattle.std.specs.Int.{int_max}
use Rattle.std.specs.List.{AllWithin}
use Rattle.std.specs.List.Sorted.{IsPartitionPoint}
use Rattle.std.proofs.lemmas.Int.{ints}
use Rattle.std.proofs.lemmas.List.Sorted.{IsPartitionPoint-from_clause}
use Rattle.interval.proofs.NextStep.{up_to_first, down_past, down_at}
use Rattle.interval.proofs.steps.step_down.Goals as goal

pub returns-then-place-eq0 : goal.returns-then-place-eq0
returns-then-place-eq0 c =
    let z = c.args.z in
    let steps = c.args.steps.now in
    let point : IsPartitionPoint (λ s. int_le s z ≡ true) (λ s. int_le s z ≡ false) steps c.partition_point-place.result =
    IsPartitionPoint-from_clause (λ s. int_le s z) _ _ c.partition_point-place.ensures.partitioned (up_to_first steps z c.requires) (λ a r q k. search rules) in
    let all : AllWithin (λ s. int_le s z ≡ false) steps 0 (length steps) = λ k d low high. point.1 k d (omega (arith, c.if-place-eq0.true)) high in
    let exact : to_z w32 (of_z w32 c.args.end) ≡ c.args.end = omega (arith, ints) in
    exact ∙ sym (down_past steps z c.args.end all)

pub returns : goal.returns
returns c =
    let z = c.args.z in
    let end = c.args.end in
    let steps = c.args.steps.now in
    let place = c.partition_point-place.result in
    let step : ℤ = get_or steps (place - 1) (pos 0) in
    let point : IsPartitionPoint (λ s. int_le s z ≡ true) (λ s. int_le s z ≡ false) steps place =
    IsPartitionPoint-from_clause (λ s. int_le s z) _ _ c.partition_point-place.ensures.partitioned (up_to_first steps z c.requires) (λ a r q k. search rules) in
    let P : ℕ → Type 0 = λ p. IsPartitionPoint (λ s. int_le s z ≡ true) (λ s. int_le s z ≡ false) steps p in
    let before : place ≡ suc (place - 1) = omega (arith, c.if-place-eq0.false) in
    let exact : to_z w32 (of_z w32 c.max.result) ≡ int_max end step = grind (arith, ints) in
    exact ∙ sym (down_at steps z end step (pos 0) (place - 1) c.requires (subst P before point) (omega (arith, c.partition_point-place.ensures.bound, c.if-place-eq0.false)) refl)
