-- The numbers of the classes of an unfolding, and of those that its calls enter.
use Rattle.std.proofs.Common.{◌≡◌, ℕ, suc, ◌+◌, ◌<◌, true, List, [], ◌∷◌, length, nat_eq, Option, Some, slice_get, refl, sym, ap, subst, ◌∙◌, arith}
use Rattle.std.specs.List.{flat_map}
use Rattle.std.specs.Option.{option_map}
use Rattle.std.proofs.lemmas.Bool.Decides.{nat_tests}
use Rattle.std.proofs.lemmas.List.{take_all}
use Rattle.std.proofs.lemmas.Option.{slice_get-get_or, slice_get-map, unwrap_or-slice_get}
use Rattle.control_points.specs.declared.edge.Edge.{Edge}
use Rattle.control_points.specs.declared.flow.Flow.{Flow}
use Rattle.control_points.specs.declared.point.Point.{Point}
use Rattle.control_points.specs.Chart.{leaving}
use Rattle.alias_class.specs.Calls.{callee}
use Rattle.alias_class.specs.Cells.{routine_of}
use Rattle.alias_class.specs.Classes.{Class, class_at, same_class}
use Rattle.alias_class.specs.Distinct.{first_occurrences}
use Rattle.alias_class.specs.Outlines.{outline_of}
use Rattle.activations.specs.Arcs.{callee_number, number_of}
use Rattle.activations.specs.Calls.{callees, is_call, points_of, sites_at, sites_of}
use Rattle.activations.specs.Unfolding.{IsWhole, Unfolding, outermost, unfolding_of}
use Rattle.activations.specs.Walks.{LeavesClass}
use Rattle.activations.proofs.FirstPlaces.{first_place}
use Rattle.activations.proofs.NumbersFrom.{none_missed}
use Rattle.activations.proofs.Occurrences.{Stands, occurrences_once, occurs, same_class_reflexive, same_class_sound}
use Rattle.activations.proofs.Pieces.{at_piece, stands_at}
use Rattle.activations.proofs.StandingNodes.{point_by}

pub class_there : (classes : List Class) (i : ℕ) → i < length classes → slice_get classes i ≡ Some (class_at classes i)
class_there classes i known = slice_get-get_or classes i [] known ∙ ap (λ (c : Class). Some c) (sym (unwrap_or-slice_get classes i []))

pub class_is : (classes : List Class) (i : ℕ) (c : Class) → slice_get classes i ≡ Some c → class_at classes i ≡ c
class_is classes i c at = grind (arith, at)

-- what the classes of an unfolding are chosen from
abbrev pub entered_by : Unfolding → List Class
entered_by u = outermost ∷ flat_map (callees u.points u.edges u.outline) u.classes

pub whole_is : (u : Unfolding) → IsWhole u → u.classes ≡ first_occurrences same_class (entered_by u)
whole_is u whole = whole.listed ∙ ap (λ (cs : List Class). first_occurrences same_class (outermost ∷ flat_map (callees u.points u.edges u.outline) cs)) (take_all (length u.classes) u.classes (omega arith))

pub classes_once : (u : Unfolding) → IsWhole u → (i j : ℕ) (c : Class) → slice_get u.classes i ≡ Some c → slice_get u.classes j ≡ Some c → i ≡ j
classes_once u whole i j c at_i at_j =
    let is = whole_is u whole in
    occurrences_once same_class same_class_reflexive same_class_sound (entered_by u) i j c (subst (λ (cs : List Class). slice_get cs i ≡ Some c) is at_i) (subst (λ (cs : List Class). slice_get cs j ≡ Some c) is at_j)

pub class_number : (u : Unfolding) → IsWhole u → (n : ℕ) (c : Class) → slice_get u.classes n ≡ Some c → number_of u c ≡ n
class_number u whole n c at = first_place same_class c (same_class_reflexive c) (same_class_sound c) u.classes (λ i j at_i at_j. classes_once u whole i j c at_i at_j) n at

-- ---- calls

module _ (f : Flow) (classes : List Class) (whole : IsWhole (unfolding_of f classes)) (i k : ℕ) (e : Edge) (leaves : LeavesClass (unfolding_of f classes) i k e) (call : is_call f.edges k ≡ true) where
  abbrev here : ℕ
  here = routine_of (outline_of f) (class_at classes i)

  site_there : (m : ℕ) × (slice_get (sites_of f.points f.edges here) m ≡ Some k)
  site_there =
      let point = point_by f e.from here (slice_get f.points e.from) refl leaves.stands in
      let listed = none_missed (λ (q : Point). nat_eq q.routine here) 0 f.points e.from point.one point.is (grind (arith, nat_tests, point.stands)) in
      let leaving_it = none_missed (λ (d : Edge). nat_eq d.from e.from) 0 f.edges k e leaves.known (grind (arith, nat_tests)) in
      let same : 0 + e.from ≡ e.from = omega arith in
      let same_edge : 0 + k ≡ k = omega arith in
      let site = stands_at (is_call f.edges) (leaving f.edges e.from) leaving_it.0 k (leaving_it.1 ∙ ap (λ (n : ℕ). Some n) same_edge) call in
      (_, at_piece (sites_at f.edges) (points_of f.points here) listed.0 e.from _ k (listed.1 ∙ ap (λ (n : ℕ). Some n) same) site)

  pub callee_stands : Stands same_class same_class_reflexive same_class_sound classes (callee (outline_of f) f.edges (class_at classes i) k)
  callee_stands =
      let u = unfolding_of f classes in
      let c = class_at classes i in
      let site = site_there in
      let called : slice_get (callees f.points f.edges (outline_of f) c) site.0 ≡ Some (callee (outline_of f) f.edges c k) =
      slice_get-map (callee (outline_of f) f.edges c) (sites_of f.points f.edges here) site.0 ∙ ap (λ (o : Option ℕ). option_map (callee (outline_of f) f.edges c) o) site.1 in
      let piece = at_piece (callees f.points f.edges (outline_of f)) classes i c site.0 (callee (outline_of f) f.edges c k) (class_there classes i leaves.class) called in
      let at = occurs same_class same_class_reflexive same_class_sound (entered_by u) (suc _) (callee (outline_of f) f.edges c k) piece in
      (at.0, subst (λ (cs : List Class). slice_get cs at.0 ≡ Some (callee (outline_of f) f.edges c k)) (sym (whole_is u whole)) at.1)

  -- the number of the class that the call enters is that of one, and of this one
  pub callee_known : slice_get classes (callee_number (unfolding_of f classes) i k) ≡ Some (callee (outline_of f) f.edges (class_at classes i) k)
  callee_known =
      let at = callee_stands in
      subst (λ (n : ℕ). slice_get classes n ≡ Some (callee (outline_of f) f.edges (class_at classes i) k)) (sym (class_number (unfolding_of f classes) whole at.0 (callee (outline_of f) f.edges (class_at classes i) k) at.1)) at.1
