-- A node has at most one call, so there are no more calls than nodes.
use Rattle.std.proofs.Common.{◌≡◌, ℕ, ◌≤◌, Bool, true, false, List, [], ◌∷◌, length, nat_eq, Some, slice_get, refl, sym, ap, subst, ◌∙◌, arith, length-append, cond}
use Rattle.std.specs.List.{filter, flat_map}
use Rattle.std.proofs.lemmas.Bool.Decides.{nat_tests}
use Rattle.std.proofs.lemmas.List.{length-map}
use Rattle.control_points.specs.declared.edge.Edge.{Edge}
use Rattle.control_points.specs.declared.flow.Flow.{Flow}
use Rattle.control_points.specs.Chart.{leaving}
use Rattle.control_points.specs.Fits.{callee_of}
use Rattle.alias_class.specs.Classes.{Class}
use Rattle.activations.specs.declared.node.Node.{Node}
use Rattle.activations.specs.Arcs.{sites, sites_of_node}
use Rattle.activations.specs.Calls.{is_call, sites_at}
use Rattle.activations.specs.Unfolding.{nodes_of, unfolding_of}
use Rattle.activations.proofs.CalledEdges.{is_called}
use Rattle.activations.proofs.NumbersFrom.{all_pass}
use Rattle.activations.proofs.Pieces.{passing}

-- what the law of calls says
abbrev pub CallsAreAlone : Flow → Type 0
CallsAreAlone f = (k r : ℕ) (e : Edge) → slice_get f.edges k ≡ Some e → callee_of e.act ≡ Some r → leaving f.edges e.from ≡ k ∷ []

short_by : (n : ℕ) (b : Bool) → length (cond b (n ∷ []) []) ≤ 1
short_by n true = omega arith
short_by n false = omega arith

filter_short : (test : ℕ → Bool) (n : ℕ) → length (filter test (n ∷ [])) ≤ 1
filter_short test n = short_by n (test n)

module _ (f : Flow) (alone : CallsAreAlone f) where
  one_by : (p : ℕ) (ks : List ℕ) → sites_at f.edges p ≡ ks → length ks ≤ 1
  one_by p [] is = omega arith
  one_by p (k ∷ rest) is =
      let site = passing (is_call f.edges) (leaving f.edges p) 0 k (ap (λ (ns : List ℕ). slice_get ns 0) is) in
      let q = all_pass (λ (e : Edge). nat_eq e.from p) 0 f.edges site.place k site.there in
      let same : q.place ≡ k = omega (arith, q.number) in
      let known : slice_get f.edges k ≡ Some q.one = subst (λ (n : ℕ). slice_get f.edges n ≡ Some q.one) same q.is in
      let called = is_called f k q.one known site.passes in
      let from : q.one.from ≡ p = grind (arith, nat_tests, q.passes) in
      let all : leaving f.edges p ≡ k ∷ [] = subst (λ (n : ℕ). leaving f.edges n ≡ k ∷ []) from (alone k called.routine q.one known called.calls) in
      let whole : k ∷ rest ≡ filter (is_call f.edges) (k ∷ []) = sym is ∙ ap (λ (ns : List ℕ). filter (is_call f.edges) ns) all in
      let long : length (k ∷ rest) ≡ length (filter (is_call f.edges) (k ∷ [])) = ap (λ (ns : List ℕ). length ns) whole in
      let short = filter_short (is_call f.edges) k in
      omega (arith, long, short)

  few_of : (classes : List Class) (ns : List Node) → length (flat_map (sites_of_node (unfolding_of f classes)) ns) ≤ length ns
  few_of classes [] = omega arith
  few_of classes (n ∷ ns) =
      let u = unfolding_of f classes in
      let one = one_by n.point (sites_at f.edges n.point) refl in
      let same : length (sites_of_node u n) ≡ length (sites_at f.edges n.point) = length-map (sites_at f.edges n.point) (λ k. record { caller = n.class; edge = k }) in
      let rest = few_of classes ns in
      let both = length-append (sites_of_node u n) (flat_map (sites_of_node u) ns) in
      omega (arith, one, same, rest, both)

  pub few_sites : (classes : List Class) → length (sites (unfolding_of f classes)) ≤ length (nodes_of (unfolding_of f classes))
  few_sites classes = few_of classes (nodes_of (unfolding_of f classes))
