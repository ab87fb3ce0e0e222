-- Each class and each point of its routine has a node.
use Rattle.std.proofs.Common.{◌≡◌, ℕ, ◌+◌, ◌<◌, List, length, get_or, nat_eq, Option, Some, None, slice_get, refl, sym, ap, subst, ◌∙◌, arith}
use Rattle.std.specs.List.{Contains}
use Rattle.std.specs.Option.{option_map}
use Rattle.std.proofs.lemmas.Bool.Decides.{nat_tests}
use Rattle.std.proofs.lemmas.Option.{get_or_from_slice_get, slice_get-map}
use Rattle.control_points.specs.declared.edge.Edge.{Edge}
use Rattle.control_points.specs.declared.flow.Flow.{Flow}
use Rattle.control_points.specs.declared.point.Point.{Point}
use Rattle.control_points.specs.Fits.{routine_at}
use Rattle.alias_class.specs.Cells.{routine_of}
use Rattle.alias_class.specs.Classes.{Class, class_at}
use Rattle.alias_class.specs.Outlines.{outline_of}
use Rattle.activations.specs.declared.node.Node.{Node}
use Rattle.activations.specs.declared.nodes.Nodes.{Nodes}
use Rattle.activations.specs.Calls.{points_of}
use Rattle.activations.specs.Listed.{AreNodesOf}
use Rattle.activations.specs.Unfolding.{nodes_of_class, unfolding_of}
use Rattle.activations.proofs.Blocks.{at_block, blocks}
use Rattle.activations.proofs.FoundNodes.{at_is_member}
use Rattle.activations.proofs.NumbersFrom.{none_missed}

pub record IsPoint (f : Flow) (p r : ℕ) : Type 0 where
  pub one : Point
  pub is : slice_get f.points p ≡ Some one
  pub stands : one.routine ≡ r

pub point_by : (f : Flow) (p r : ℕ) (o : Option Point) → slice_get f.points p ≡ o → option_map (λ (q : Point). q.routine) o ≡ Some r → IsPoint f p r
point_by f p r None at h = absurd (grind arith)
point_by f p r (Some q) at h = record { one = q; is = at; stands = grind (arith, h) }

pub node_stands : (f : Flow) (classes : List Class) (ns : Nodes) → AreNodesOf (unfolding_of f classes) ns → (i p : ℕ) → i < length classes
    → routine_at f.points p ≡ Some (routine_of (outline_of f) (class_at classes i)) → Contains ns.list.items (record { class = i; point = p })
node_stands f classes ns nodes i p known stands =
    let u = unfolding_of f classes in
    let r = routine_of (outline_of f) (class_at classes i) in
    let point = point_by f p r (slice_get f.points p) refl stands in
    let place = none_missed (λ (q : Point). nat_eq q.routine r) 0 f.points p point.one point.is (grind (arith, nat_tests, point.stands)) in
    let zero_more : 0 + p ≡ p = omega arith in
    let listed : slice_get (points_of f.points r) place.0 ≡ Some p = place.1 ∙ ap (λ (n : ℕ). Some n) zero_more in
    let x : Node = record { class = i; point = p } in
    let here : slice_get (nodes_of_class u i) place.0 ≡ Some x = slice_get-map (λ q. record { class = i; point = q }) (points_of f.points r) place.0 ∙ ap (λ (o : Option ℕ). option_map (λ q. record { class = i; point = q }) o) listed in
    let at = at_block (nodes_of_class u) (length classes) i place.0 x known here in
    at_is_member ns.list.items x (length (blocks (nodes_of_class u) i) + place.0) (subst (λ (xs : List Node). slice_get xs (length (blocks (nodes_of_class u) i) + place.0) ≡ Some x) (sym nodes.listed) at)

-- the edge that was read is the one that is known
pub edge_is : (edges : List Edge) (k : ℕ) (e known : Edge) → slice_get edges k ≡ Some known → e ≡ get_or edges k e → e ≡ known
edge_is edges k e known at is = is ∙ get_or_from_slice_get edges k known e at
