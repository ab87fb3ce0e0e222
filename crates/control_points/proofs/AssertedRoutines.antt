-- The assertions that belong to a point are of the point's routine.
use Rattle.std.proofs.Common.{◌≡◌, inl, inr, ℕ, suc, ◌+◌, ◌-◌, true, List, [], ◌∷◌, length, refl, sym, ap, subst, ◌∙◌, Option, Some, None, arith}
use Rattle.std.proofs.lemmas.Option.{none-some}
use Rattle.std.specs.List.{list_all, slice_get}
use Rattle.std.specs.Option.{option_map}
use Rattle.pas_program.specs.declared.routine.Assert.{Assert}
use Rattle.pas_program.specs.declared.routine.Routine.{Routine}
use Rattle.pas_program.specs.Each.{each_statement}
use Rattle.pas_program.specs.Labels.{assertion_rule}
use Rattle.control_points.specs.declared.flow.Flow.{Flow}
use Rattle.control_points.specs.declared.numbering.Mark.{Mark}
use Rattle.control_points.specs.declared.point.Point.{Point}
use Rattle.control_points.specs.Marks.{routine_marks, routines_marks}
use Rattle.control_points.proofs.Asserted.{asserts_at, routine_passes}
use Rattle.control_points.proofs.Blocks.{AllOutermost, get_mapped, routine_own}
use Rattle.control_points.proofs.Listed.{get_either, same_some}

module _ (asserts : List Assert) where
  abbrev AreOwn : ℕ → List ℕ → Type 0
  AreOwn r listed = list_all (assertion_rule asserts r).assertion listed ≡ true

  abbrev Stand : ℕ → Routine → Type 0
  Stand r d = each_statement (assertion_rule asserts r) d.body ≡ true

  -- all routines, of which the first has the number `first`
  asserted_own : (first : ℕ) (routines : List Routine) → AllOutermost routines → ((k : ℕ) (d : Routine) → slice_get routines k ≡ Some d → Stand (first + k) d)
      → (p : ℕ) (m : Mark) → slice_get (routines_marks first routines) p ≡ Some m → AreOwn m.point.routine m.asserts
  asserted_own first [] o h p m e = absurd (none-some m e)
  asserted_own first (d ∷ routines) o h p m e =
      elim (get_either (routine_marks first d) (routines_marks (suc first) routines) p m e) [
        | inl g ↦
            let here : first + 0 ≡ first = omega arith in
            let stand = subst (λ r. Stand r d) here (h 0 d refl) in
            subst (λ r. AreOwn r m.asserts) (sym (routine_own first d (o 0 d refl) p m g))
            (asserts_at (assertion_rule asserts first) (routine_marks first d) p m g (routine_passes (assertion_rule asserts first) first d stand))
        | inr g ↦
            let more : (k : ℕ) → first + suc k ≡ suc first + k = λ k. omega arith in
            asserted_own (suc first) routines (λ k x i. o (suc k) x i) (λ k x i. subst (λ r. Stand r x) (more k) (h (suc k) x i)) (p - length (routine_marks first d)) m g.1
      ]

-- what is made of an element is made of one that is there
made_of : {A B : Type 0} (f : A → B) (o : Option A) (y : B) → option_map f o ≡ Some y → (x : A) × (o ≡ Some x) × (f x ≡ y)
made_of f None y h = absurd (none-some y h)
made_of f (Some x) y h = (x, refl, same_some h)

pub asserted_in_flow : (f : Flow) (p : ℕ) (q : Point) (listed : List ℕ) → slice_get f.points p ≡ Some q → slice_get f.asserts p ≡ Some listed → list_all (assertion_rule f.program.asserts q.routine).assertion listed ≡ true
asserted_in_flow f p q listed point_is asserts_are =
    let marks = routines_marks 0 f.program.routines in
    let found = made_of (λ (m : Mark). m.point) (slice_get marks p) q
    (sym (ap (λ xs. slice_get xs p) f.exact.points_are ∙ get_mapped (λ (m : Mark). m.point) marks p) ∙ point_is) in
    let m = found.0 in
    let same : m.asserts ≡ listed = same_some
    (sym (ap (λ xs. slice_get xs p) f.exact.asserts_are ∙ get_mapped (λ (m : Mark). m.asserts) marks p ∙ ap (option_map (λ (m : Mark). m.asserts)) found.1) ∙ asserts_are) in
    let zero_first : (k : ℕ) → k ≡ 0 + k = λ k. omega arith in
    let own = asserted_own f.program.asserts 0 f.program.routines f.program.in_scope.outermost
    (λ k d i. subst (λ r. each_statement (assertion_rule f.program.asserts r) d.body ≡ true) (zero_first k) (f.program.asserts_stand.here k d i)) p m found.1 in
    subst (λ r. list_all (assertion_rule f.program.asserts r).assertion listed ≡ true) (ap (λ (x : Point). x.routine) found.2)
    (subst (λ xs. list_all (assertion_rule f.program.asserts m.point.routine).assertion xs ≡ true) same own)
