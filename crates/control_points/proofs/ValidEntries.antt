-- The entry of a routine is found where there is one.
use Rattle.std.proofs.Common.{◌≡◌, ℕ, zero, suc, ◌+◌, Bool, true, not, ◌&&◌, List, [], ◌∷◌, length, sym, ap, ◌∙◌, inl, inr, Some, None, option_map, unwrap_or, slice_get, nat_eq, nat_lt, eqb-true, eq-eqb, lt-ltb, one-add}
use Rattle.std.proofs.lemmas.Bool.{and_parts, and_from, cases_Bool, cond-true, cond-false, not_from_true, not_from_false}
use Rattle.std.proofs.lemmas.Option.{none-some, same_Some, slice_get_within}
use Rattle.std.specs.List.{position_or_len}
use Rattle.control_points.specs.declared.point.Point.{Point}
use Rattle.control_points.specs.declared.point.PointKind.{PointKind}
use Rattle.control_points.specs.declared.point.PointKind.TheVariants as kind
use Rattle.control_points.specs.Chart.{is_entry, entry_of}
use Rattle.control_points.specs.Fits.{kind_at, routine_at}
use Rattle.control_points.proofs.ValidBasics.{map_found}

-- one that passes a test stands where the first is looked for, if any passes it
pub first_passes : {A : Type 0} (test : A → Bool) (xs : List A) (k : ℕ) (x : A) → slice_get xs k ≡ Some x → test x ≡ true → (y : A) × (slice_get xs (position_or_len test xs) ≡ Some y) × (test y ≡ true)
first_passes test [] k x known passes = absurd (none-some x known)
first_passes test (z ∷ xs) zero x known passes =
    (x, ap (slice_get (z ∷ xs)) (cond-false (not (test z)) (1 + position_or_len test xs) 0 (not_from_true (test z) (ap test (same_Some z x known) ∙ passes))) ∙ known, passes)
first_passes test (z ∷ xs) (suc k) x known passes =
    let y = first_passes test xs k x known passes in
    elim (cases_Bool (test z)) [
      | inl e ↦ (z, ap (slice_get (z ∷ xs)) (cond-false (not (test z)) (1 + position_or_len test xs) 0 (not_from_true (test z) e)), e)
      | inr e ↦ (y.0, ap (slice_get (z ∷ xs)) (cond-true (not (test z)) (1 + position_or_len test xs) 0 (not_from_false (test z) e) ∙ one-add (position_or_len test xs)) ∙ y.1, y.2)
    ]

entry_kind : (k : PointKind) → k ≡ kind.Entry → is_entry k ≡ true
entry_kind k h = ap is_entry h

-- the entry that is found is one of the routine
pub entry_from : (points : List Point) (r p : ℕ) → kind_at points p ≡ Some kind.Entry → routine_at points p ≡ Some r → routine_at points (entry_of points r) ≡ Some r
entry_from points r p entry stands =
    let test : Point → Bool = λ q. is_entry q.kind && nat_eq q.routine r in
    let x = map_found (λ (q : Point). q.kind) (slice_get points p) kind.Entry entry in
    let y = map_found (λ (q : Point). q.routine) (slice_get points p) r stands in
    let same = same_Some x.0 y.0 (sym x.1 ∙ y.1) in
    let passes : test (x.0) ≡ true = and_from _ _ (entry_kind (x.0).kind x.2) (eq-eqb (x.0).routine r (ap (λ (q : Point). q.routine) same ∙ y.2)) in
    let z = first_passes test points p x.0 x.1 passes in
    let found = cond-true (nat_lt (position_or_len test points) (length points)) (Some (position_or_len test points)) None (lt-ltb (position_or_len test points) (length points) (slice_get_within points (position_or_len test points) z.0 z.1)) in
    ap (λ o. routine_at points (unwrap_or o 0)) found
    ∙ ap (option_map (λ (q : Point). q.routine)) z.1
    ∙ ap Some (eqb-true (z.0).routine r (and_parts (is_entry (z.0).kind) _ z.2).1)
