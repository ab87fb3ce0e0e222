-- The points of a class that is counted next, and its size.
use Rattle.std.proofs.Common.{◌≡◌, ℕ, ◌+◌, ◌*◌, ◌<◌, ◌^◌, List, length, nat_eq, Some, slice_get, ap, subst, ◌∙◌, arith}
use Rattle.std.proofs.lemmas.Bool.Decides.{nat_tests}
use Rattle.std.proofs.lemmas.Option.{slice_get_within}
use Rattle.control_points.specs.declared.flow.Flow.{Flow}
use Rattle.control_points.specs.declared.point.Point.{Point}
use Rattle.control_points.specs.Chart.{entry_of}
use Rattle.alias_class.specs.declared.outline.Outline.{Outline}
use Rattle.alias_class.specs.Cells.{IsClass, cell_count, routine_of}
use Rattle.alias_class.specs.Classes.{class_at}
use Rattle.alias_class.specs.Outlines.{outline_of}
use Rattle.alias_class.specs.Tables.{Table}
use Rattle.activations.specs.declared.routines.RoutinePoints.{RoutinePoints}
use Rattle.activations.specs.Calls.{points_of}
use Rattle.activations.specs.Parts.{ArePointsOf, lists_of}
use Rattle.activations.specs.Unfolding.{size_of_class, unfolding_of}
use Rattle.activations.proofs.DiscoveredPoints.{few_of_routine, few_points, point_at}
use Rattle.activations.proofs.NodeNumbers.{lists_long, points_at, routine_known}
use Rattle.activations.proofs.NumbersFrom.{none_missed}

pub some_points : (f : Flow) (r : ℕ) → r < length f.program.routines → 0 < length (points_of f.points r)
some_points f r known =
    let q = point_at f.points (entry_of f.points r) r (f.entries_fit.entry r known) in
    let found = none_missed (λ (p : Point). nat_eq p.routine r) 0 f.points (entry_of f.points r) q.0 q.1 (grind (arith, nat_tests, q.2)) in
    let within = slice_get_within (points_of f.points r) found.0 (0 + entry_of f.points r) found.1 in
    omega (arith, within)

module _ (f : Flow) (t : Table) (rp : RoutinePoints) (i r : ℕ) (points : ArePointsOf f rp) (outline : t.outline ≡ outline_of f)
    (value : r ≡ routine_of t.outline (class_at t.classes i)) (is_class : IsClass t.outline (class_at t.classes i)) where
  routine_is : r ≡ routine_of (outline_of f) (class_at t.classes i)
  routine_is = value ∙ ap (λ (o : Outline). routine_of o (class_at t.classes i)) outline

  pub routine_there : r < length f.program.routines
  routine_there =
      let below = routine_known f (class_at t.classes i) (subst (λ (o : Outline). IsClass o (class_at t.classes i)) outline is_class) in
      omega (arith, below, routine_is)

  pub routine_listed : r < length rp.lists.items
  routine_listed = omega (arith, routine_there, lists_long f rp points)

  module _ (ps : List ℕ) (listed : slice_get (lists_of rp.lists.items) r ≡ Some ps) where
    pub points_here : ps ≡ points_of f.points (routine_of t.outline (class_at t.classes i))
    points_here = points_at f rp points r ps routine_there listed ∙ ap (points_of f.points) value

    pub points_found : ps ≡ points_of f.points (routine_of (outline_of f) (class_at t.classes i))
    points_found = points_at f rp points r ps routine_there listed ∙ ap (points_of f.points) routine_is

    pub points_few : length ps < 2 ^ 32
    points_few = omega (arith, few_points f, few_of_routine f.points (routine_of (outline_of f) (class_at t.classes i)), ap (λ (l : List ℕ). length l) points_found)

    pub points_some : 0 < length (points_of f.points (routine_of (outline_of f) (class_at t.classes i)))
    points_some = subst (λ (s : ℕ). 0 < length (points_of f.points s)) routine_is (some_points f r routine_there)

    pub size_is : (n : ℕ) → n + length ps * (1 + cell_count t.outline (class_at t.classes i)) ≡ n + size_of_class (unfolding_of f t.classes) (class_at t.classes i)
    size_is n = ap (λ (l : List ℕ). n + length l * (1 + cell_count t.outline (class_at t.classes i))) points_found
        ∙ ap (λ (o : Outline). n + length (points_of f.points (routine_of (outline_of f) (class_at t.classes i))) * (1 + cell_count o (class_at t.classes i))) outline
