-- Each site of an unfolding stands once among its calls, with the class that it enters.
use Rattle.std.proofs.Common.{◌≡◌, ℕ, true, List, take, length, nat_eq, Option, Some, None, slice_get, sym, ap, subst, ◌∙◌, arith}
use Rattle.std.specs.List.{flat_map}
use Rattle.std.specs.Option.{option_map}
use Rattle.std.proofs.lemmas.Bool.Decides.{nat_tests}
use Rattle.std.proofs.lemmas.Option.{slice_get-map}
use Rattle.control_points.specs.declared.edge.Edge.{Edge}
use Rattle.control_points.specs.Chart.{leaving}
use Rattle.activations.specs.declared.discovery.Call.{Call}
use Rattle.activations.specs.declared.node.Node.{Node}
use Rattle.activations.specs.declared.nodes.Nodes.{Nodes}
use Rattle.activations.specs.Arcs.{Site, call_number, call_of, calls, callee_number, is_site, sites, sites_of_node}
use Rattle.activations.specs.Calls.{is_call, sites_at}
use Rattle.activations.specs.Listed.{AreNodesOf}
use Rattle.activations.specs.Unfolding.{Unfolding, nodes_of}
use Rattle.activations.proofs.FirstPlaces.{StandsOnce, and_left, and_right, first_place, node_of, node_once}
use Rattle.activations.proofs.NumbersFrom.{all_pass, numbers_once}
use Rattle.activations.proofs.Pieces.{filter_once, in_piece, passing}

some_is : {A : Type 0} (x y : A) → Some x ≡ Some y → x ≡ y
some_is x y h = grind arith

abbrev site_of : ℕ → ℕ → Site
site_of caller edge = record { caller = caller; edge = edge }

-- where a site of a node stands
pub record IsSiteAt (u : Unfolding) (n : Node) (rank : ℕ) (s : Site) : Type 0 where
  pub edge : Edge
  pub caller : s.caller ≡ n.class
  pub listed : slice_get (sites_at u.edges n.point) rank ≡ Some s.edge
  pub known : slice_get u.edges s.edge ≡ Some edge
  pub from : edge.from ≡ n.point
  pub call : is_call u.edges s.edge ≡ true

site_by : (n : Node) (s : Site) (o : Option ℕ) → option_map (λ k. record { caller = n.class; edge = k }) o ≡ Some s → (s.caller ≡ n.class) × (o ≡ Some s.edge)
site_by n s None h = absurd (grind arith)
site_by n s (Some k) h =
    let is : record { caller = n.class; edge = k } ≡ s = some_is _ s h in
    (sym (ap (λ (t : Site). t.caller) is), ap (λ (t : Site). Some t.edge) is)

pub site_at : (u : Unfolding) (n : Node) (rank : ℕ) (s : Site) → slice_get (sites_of_node u n) rank ≡ Some s → IsSiteAt u n rank s
site_at u n rank s h =
    let parts = site_by n s (slice_get (sites_at u.edges n.point) rank) (sym (slice_get-map (λ k. record { caller = n.class; edge = k }) (sites_at u.edges n.point) rank) ∙ h) in
    let p = passing (is_call u.edges) (leaving u.edges n.point) rank s.edge parts.1 in
    let q = all_pass (λ (e : Edge). nat_eq e.from n.point) 0 u.edges p.place s.edge p.there in
    let same : q.place ≡ s.edge = omega (arith, q.number) in
    record {
      edge = q.one;
      caller = parts.0;
      listed = parts.1;
      known = subst (λ (k : ℕ). slice_get u.edges k ≡ Some q.one) same q.is;
      from = grind (arith, nat_tests, q.passes);
      call = p.passes;
    }

module _ (u : Unfolding) (ns : Nodes) (nodes : AreNodesOf u ns) where
  nodes_once : (x : Node) → StandsOnce (nodes_of u) x
  nodes_once x = subst (λ (xs : List Node). StandsOnce xs x) nodes.listed (node_once ns nodes.numbered x)

  same_one : (s : Site) (x y : Node) (i j : ℕ) → IsSiteAt u x i s → IsSiteAt u y j s → x ≡ y
  same_one s x y i j at_x at_y =
      let class : x.class ≡ y.class = sym at_x.caller ∙ at_y.caller in
      let edge : at_x.edge ≡ at_y.edge = some_is at_x.edge at_y.edge (sym at_x.known ∙ at_y.known) in
      let point : x.point ≡ y.point = sym at_x.from ∙ ap (λ (e : Edge). e.from) edge ∙ at_y.from in
      ap (λ (n : ℕ). node_of n x.point) class ∙ ap (λ (n : ℕ). node_of y.class n) point

  pub site_once : (s : Site) → StandsOnce (sites u) s
  site_once s i j at_i at_j =
      let p = in_piece (sites_of_node u) (nodes_of u) i s at_i in
      let q = in_piece (sites_of_node u) (nodes_of u) j s at_j in
      let at_p = site_at u p.one p.rank s p.is in
      let at_q = site_at u q.one q.rank s q.is in
      let one : p.one ≡ q.one = same_one s p.one q.one p.rank q.rank at_p at_q in
      let place : p.place ≡ q.place = nodes_once q.one p.place q.place (p.there ∙ ap (λ (x : Node). Some x) one) q.there in
      let listed : slice_get (sites_at u.edges q.one.point) p.rank ≡ Some s.edge = subst (λ (x : Node). slice_get (sites_at u.edges x.point) p.rank ≡ Some s.edge) one at_p.listed in
      let rank : p.rank ≡ q.rank = filter_once (is_call u.edges) (leaving u.edges q.one.point) (λ m n k at_m at_n. numbers_once (λ (e : Edge). nat_eq e.from q.one.point) 0 u.edges m n k at_m at_n) p.rank q.rank s.edge listed at_q.listed in
      let before : length (flat_map (sites_of_node u) (take p.place (nodes_of u))) ≡ length (flat_map (sites_of_node u) (take q.place (nodes_of u))) = ap (λ (n : ℕ). length (flat_map (sites_of_node u) (take n (nodes_of u)))) place in
      omega (arith, p.number, q.number, rank, before)

  site_reflexive : (s : Site) → is_site u s s ≡ true
  site_reflexive s = grind (arith, nat_tests)

  site_sound : (s t : Site) → is_site u s t ≡ true → s ≡ t
  site_sound s t h =
      let caller : s.caller ≡ t.caller = grind (arith, nat_tests, and_left (nat_eq s.caller t.caller) (nat_eq s.edge t.edge) h) in
      let edge : s.edge ≡ t.edge = grind (arith, nat_tests, and_right (nat_eq s.caller t.caller) (nat_eq s.edge t.edge) h) in
      ap (λ (n : ℕ). site_of n s.edge) caller ∙ ap (λ (n : ℕ). site_of t.caller n) edge

  pub call_number_is : (i k n : ℕ) → slice_get (sites u) n ≡ Some (record { caller = i; edge = k }) → call_number u i k ≡ n
  call_number_is i k n at =
      let s : Site = record { caller = i; edge = k } in
      first_place (is_site u) s (site_reflexive s) (site_sound s) (sites u) (site_once s) n at

  pub callee_is : (listed : List Call) → listed ≡ calls u → (i k n : ℕ) → slice_get (sites u) n ≡ Some (record { caller = i; edge = k }) → slice_get listed n ≡ Some (record { caller = i; site = k; callee = callee_number u i k })
  callee_is listed is i k n at =
      ap (λ (cs : List Call). slice_get cs n) is ∙ slice_get-map (call_of u) (sites u) n ∙ ap (λ (o : Option Site). option_map (call_of u) o) at
