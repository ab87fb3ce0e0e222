use Rattle.std.proofs.Common.{◌≡◌, ℕ, Bool, drop, map, nat_eq}
use Rattle.std.specs.Prelude.{max}
use Rattle.indexmap.specs.IndexMap.{get}
use Rattle.pas_check.specs.Placing.{Branches, Members, arm_of, in_order, last_place, marks_inside, noted, outline}
use Rattle.pas_check.proofs.label.+place.Given as goal

abbrev pub invariant-place_members-loop-statement : goal.invariant-place_members-loop-statement
invariant-place_members-loop-statement l = record {
  last : max l.to (last_place (outline (drop l.statement-index l.body))) ≡ last_place (outline l.body);
  noted : (first last : ℕ) (outermost : Bool) (n : ℕ)
      → noted n (marks_inside (Members first last outermost) (outline l.body)) (get nat_eq l.fn.labels n) ≡ noted n (marks_inside (Members first last outermost) (outline (drop l.statement-index l.body))) (get nat_eq l.labels n);
}

abbrev pub invariant-place_arms-loop-arm : goal.invariant-place_arms-loop-arm
invariant-place_arms-loop-arm l = record {
  last : max l.to (last_place (in_order (map arm_of (drop l.arm-index l.arms)))) ≡ last_place (in_order (map arm_of l.arms));
  noted : (n : ℕ) → noted n (marks_inside Branches (in_order (map arm_of l.arms))) (get nat_eq l.fn.labels n) ≡ noted n (marks_inside Branches (in_order (map arm_of (drop l.arm-index l.arms)))) (get nat_eq l.labels n);
}
