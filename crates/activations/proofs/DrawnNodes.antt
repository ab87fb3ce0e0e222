-- The arcs of a node, edge by edge.
use Rattle.std.proofs.Common.{◌≡◌, ℕ, ◌+◌, ◌<◌, ◌≤◌, ◌++◌, true, List, [], ◌∷◌, Option, Some, take, length, get_or, nat_eq, slice_get, refl, sym, ap, subst, ◌∙◌, arith, append_assoc, length-append}
use Rattle.std.specs.List.{filter, flat_map}
use Rattle.std.specs.Option.{option_map}
use Rattle.std.proofs.lemmas.Bool.Decides.{nat_tests}
use Rattle.std.proofs.lemmas.Grind.{flat_map-append}
use Rattle.std.proofs.lemmas.List.{length-map, take_all, take_more}
use Rattle.std.proofs.lemmas.List.Elements.{filter-append}
use Rattle.std.proofs.lemmas.Option.{get_or_from_slice_get, slice_get-get_or, slice_get-map, slice_get_within}
use Rattle.control_points.specs.declared.edge.Edge.{Edge}
use Rattle.control_points.specs.declared.flow.Flow.{Flow}
use Rattle.control_points.specs.declared.point.Point.{Point}
use Rattle.control_points.specs.Chart.{leaving}
use Rattle.control_points.specs.Fits.{routine_at}
use Rattle.alias_class.specs.Cells.{routine_of}
use Rattle.alias_class.specs.Classes.{Class, class_at}
use Rattle.alias_class.specs.Outlines.{outline_of}
use Rattle.activations.specs.declared.arc.Arc.{Arc}
use Rattle.activations.specs.declared.drawing.Drawing.{Drawing}
use Rattle.activations.specs.declared.node.Node.{Node}
use Rattle.activations.specs.Arcs.{Site, arcs, arcs_of_edge, arcs_of_node, sites_of_node}
use Rattle.activations.specs.Calls.{is_call, sites_at}
use Rattle.activations.specs.Listed.{AreListed}
use Rattle.activations.specs.Unfolding.{Unfolding, nodes_of, nodes_of_class, unfolding_of}
use Rattle.activations.specs.Walks.{IsCallNumber, IsFromClass, IsNext, IsSame, IsSet, drawn_of}
use Rattle.activations.proofs.Blocks.{append_nil, in_block}
use Rattle.activations.proofs.NodeNumbers.{node_is, point_in}
use Rattle.activations.proofs.NumbersFrom.{all_pass}
use Rattle.activations.proofs.Pieces.{at_piece, stands_at}

-- ---- what stays

pub set_same : (old new : Drawing) → IsSet old → IsSame old new → IsSet new
set_same old new set same = record {
  outline = rw (same.flow, same.classes) set.outline;
  whole = rw (same.flow, same.classes) set.whole;
  nodes = rw (same.flow, same.classes, same.nodes) set.nodes;
  calls = rw (same.flow, same.classes, same.calls) set.calls;
  few = rw (same.flow, same.classes) set.few;
  valid = rw (same.classes) set.valid;
  incoming = rw (same.nodes) (same.incoming ∙ set.incoming);
  outgoing = rw (same.nodes) (same.outgoing ∙ set.outgoing);
}

pub same_twice : (a b c : Drawing) → IsSame a b → IsSame b c → IsSame a c
same_twice a b c first second = record {
  flow = second.flow ∙ first.flow;
  nodes = second.nodes ∙ first.nodes;
  classes = second.classes ∙ first.classes;
  calls = second.calls ∙ first.calls;
  incoming = second.incoming ∙ first.incoming;
  outgoing = second.outgoing ∙ first.outgoing;
}

pub drawn_same : (old new : Drawing) → IsSame old new → drawn_of new ≡ drawn_of old
drawn_same old new same = rw (same.flow, same.classes) refl

-- ---- the edges of a node

module _ (f : Flow) (classes : List Class) (node : Node) (number : ℕ) (known : slice_get (nodes_of (unfolding_of f classes)) number ≡ Some node) where
  abbrev u : Unfolding
  u = unfolding_of f classes

  abbrev edges_here : List ℕ
  edges_here = leaving f.edges node.point

  pub node_leaves : (j k : ℕ) → slice_get edges_here j ≡ Some k → IsFromClass u node.class k
  node_leaves j k at =
      let found = in_block (nodes_of_class u) (length classes) number node known in
      let is = node_is u found.block found.place node found.is in
      let passes = all_pass (λ (e : Edge). nat_eq e.from node.point) 0 f.edges j k at in
      let same : passes.place ≡ k = omega (arith, passes.number) in
      let from : passes.one.from ≡ node.point = grind (arith, nat_tests, passes.passes) in
      let stands : routine_at f.points node.point ≡ Some (routine_of (outline_of f) (class_at classes found.block)) = point_in f (routine_of (outline_of f) (class_at classes found.block)) found.place node.point is.1 in (
        passes.one,
        record {
          class = omega (arith, is.0, found.known);
          known = subst (λ (n : ℕ). slice_get f.edges n ≡ Some passes.one) same passes.is;
          stands = ap (λ (p : ℕ). routine_at f.points p) from ∙ stands ∙ ap (λ (i : ℕ). Some (routine_of (outline_of f) (class_at classes i))) (sym is.0);
        },
      )

  pub node_in_class : (node.class < length classes) × (routine_at f.points node.point ≡ Some (routine_of (outline_of f) (class_at classes node.class)))
  node_in_class =
      let found = in_block (nodes_of_class u) (length classes) number node known in
      let is = node_is u found.block found.place node found.is in
      let stands : routine_at f.points node.point ≡ Some (routine_of (outline_of f) (class_at classes found.block)) = point_in f (routine_of (outline_of f) (class_at classes found.block)) found.place node.point is.1 in
      (omega (arith, is.0, found.known), stands ∙ ap (λ (i : ℕ). Some (routine_of (outline_of f) (class_at classes i))) (sym is.0))

  pub node_point : node.point < length f.points
  node_point =
      let found = in_block (nodes_of_class u) (length classes) number node known in
      let is = node_is u found.block found.place node found.is in
      let passes = all_pass (λ (q : Point). nat_eq q.routine (routine_of (outline_of f) (class_at classes found.block))) 0 f.points found.place node.point is.1 in
      let within = slice_get_within f.points passes.place passes.one passes.is in
      omega (arith, within, passes.number)

  pub node_calls : (j k : ℕ) → slice_get edges_here j ≡ Some k → is_call f.edges k ≡ true
      → IsCallNumber u node.class k (length (flat_map (sites_of_node u) (take number (nodes_of u))) + length (filter (is_call f.edges) (take j edges_here)))
  node_calls j k at call =
      let site : Site = record { caller = node.class; edge = k } in
      let rank = length (filter (is_call f.edges) (take j edges_here)) in
      let here = stands_at (is_call f.edges) edges_here j k at call in
      let listed : slice_get (sites_of_node u node) rank ≡ Some site =
      slice_get-map (λ n. record { caller = node.class; edge = n }) (sites_at f.edges node.point) rank ∙ ap (λ (o : Option ℕ). option_map (λ n. record { caller = node.class; edge = n }) o) here in
      at_piece (sites_of_node u) (nodes_of u) number node rank site known listed

-- ---- the walk over them

pub record AfterEdges (old new : Drawing) (node : Node) (j : ℕ) : Type 0 where
  pub same : IsSame old new
  pub arcs : (nodes : ℕ) (before : List Arc) → AreListed nodes before old.arcs
      → AreListed nodes (before ++ flat_map (arcs_of_edge (drawn_of old) node.class) (take j (leaving old.flow.now.edges node.point))) new.arcs
  pub drawn : new.drawn ≡ old.drawn + length (filter (is_call old.flow.now.edges) (take j (leaving old.flow.now.edges node.point)))

pub before_edges : (d : Drawing) (node : Node) → AfterEdges d d node 0
before_edges d node = record {
  same = record { flow = refl; nodes = refl; classes = refl; calls = refl; incoming = refl; outgoing = refl };
  arcs = λ nodes before listed. subst (λ (zs : List Arc). AreListed nodes zs d.arcs) (sym (append_nil before)) listed;
  drawn = omega arith;
}

module _ (old mid new : Drawing) (node : Node) (j k : ℕ) (after : AfterEdges old mid node j) (same : IsSame mid new)
    (inside : j < length (leaving old.flow.now.edges node.point)) (at : k ≡ get_or (leaving old.flow.now.edges node.point) j k)
    (arcs : (nodes : ℕ) (before : List Arc) → AreListed nodes before mid.arcs → AreListed nodes (before ++ arcs_of_edge (drawn_of mid) node.class k) new.arcs)
    (drawn : new.drawn ≡ mid.drawn + length (filter (is_call mid.flow.now.edges) (k ∷ []))) where
  abbrev here : List ℕ
  here = leaving old.flow.now.edges node.point

  taken : take (j + 1) here ≡ take j here ++ k ∷ []
  taken = take_more here j k inside ∙ ap (λ (n : ℕ). take j here ++ n ∷ []) (sym at)

  arcs_more : flat_map (arcs_of_edge (drawn_of old) node.class) (take (j + 1) here) ≡ flat_map (arcs_of_edge (drawn_of old) node.class) (take j here) ++ arcs_of_edge (drawn_of old) node.class k
  arcs_more =
      ap (λ (ks : List ℕ). flat_map (arcs_of_edge (drawn_of old) node.class) ks) taken
      ∙ flat_map-append (arcs_of_edge (drawn_of old) node.class) (take j here) (k ∷ [])
      ∙ ap (λ (zs : List Arc). flat_map (arcs_of_edge (drawn_of old) node.class) (take j here) ++ zs) (append_nil (arcs_of_edge (drawn_of old) node.class k))

  calls_more : length (filter (is_call old.flow.now.edges) (take (j + 1) here)) ≡ length (filter (is_call old.flow.now.edges) (take j here)) + length (filter (is_call old.flow.now.edges) (k ∷ []))
  calls_more =
      ap (λ (ks : List ℕ). length (filter (is_call old.flow.now.edges) ks)) taken
      ∙ ap (λ (ks : List ℕ). length ks) (filter-append (is_call old.flow.now.edges) (take j here) (k ∷ []))
      ∙ length-append (filter (is_call old.flow.now.edges) (take j here)) (filter (is_call old.flow.now.edges) (k ∷ []))

  pub after_more : AfterEdges old new node (j + 1)
  after_more = record {
    same = same_twice old mid new after.same same;
    arcs = λ nodes before listed.
        let one = arcs nodes (before ++ flat_map (arcs_of_edge (drawn_of old) node.class) (take j here)) (after.arcs nodes before listed) in
        let moved : (before ++ flat_map (arcs_of_edge (drawn_of old) node.class) (take j here)) ++ arcs_of_edge (drawn_of mid) node.class k ≡ before ++ flat_map (arcs_of_edge (drawn_of old) node.class) (take (j + 1) here) =
        append_assoc before (flat_map (arcs_of_edge (drawn_of old) node.class) (take j here)) (arcs_of_edge (drawn_of mid) node.class k)
        ∙ ap (λ (w : Unfolding). before ++ (flat_map (arcs_of_edge (drawn_of old) node.class) (take j here) ++ arcs_of_edge w node.class k)) (drawn_same old mid after.same)
        ∙ ap (λ (zs : List Arc). before ++ zs) (sym arcs_more) in
        subst (λ (zs : List Arc). AreListed nodes zs new.arcs) moved one;
    drawn =
        let counted : length (filter (is_call mid.flow.now.edges) (k ∷ [])) ≡ length (filter (is_call old.flow.now.edges) (k ∷ [])) = rw (after.same.flow) refl in
        omega (arith, drawn, after.drawn, counted, calls_more);
  }

-- all of them
pub all_edges : (old new : Drawing) (node : Node) (j : ℕ) → AfterEdges old new node j → length (leaving old.flow.now.edges node.point) ≤ j → (nodes : ℕ) (before : List Arc) → AreListed nodes before old.arcs → AreListed nodes (before ++ arcs_of_node (drawn_of old) node) new.arcs
all_edges old new node j after all nodes before listed =
    subst (λ (ks : List ℕ). AreListed nodes (before ++ flat_map (arcs_of_edge (drawn_of old) node.class) ks) new.arcs) (take_all j (leaving old.flow.now.edges node.point) all) (after.arcs nodes before listed)

pub all_calls : (old new : Drawing) (node : Node) (j : ℕ) → AfterEdges old new node j → length (leaving old.flow.now.edges node.point) ≤ j → new.drawn ≡ old.drawn + length (sites_of_node (drawn_of old) node)
all_calls old new node j after all =
    let whole = ap (λ (ks : List ℕ). length (filter (is_call old.flow.now.edges) ks)) (take_all j (leaving old.flow.now.edges node.point) all) in
    let same : length (sites_of_node (drawn_of old) node) ≡ length (sites_at old.flow.now.edges node.point) = length-map (sites_at old.flow.now.edges node.point) (λ k. record { caller = node.class; edge = k }) in
    omega (arith, after.drawn, whole, same)

-- ---- the edge that is next, as the walk reads it

module _ (d mid : Drawing) (node : Node) (next : IsNext (drawn_of d) node d.drawn) (j : ℕ) (listed : List ℕ) (is : listed ≡ leaving d.flow.now.edges node.point) (inside : j < length listed) where
  abbrev k : ℕ
  k = get_or listed j 0

  read_at : slice_get (leaving d.flow.now.edges node.point) j ≡ Some k
  read_at = subst (λ (ks : List ℕ). slice_get ks j ≡ Some k) is (slice_get-get_or listed j 0 inside)

  pub read_inside : j < length (leaving d.flow.now.edges node.point)
  read_inside = subst (λ (ks : List ℕ). j < length ks) is inside

  pub read_is : k ≡ get_or (leaving d.flow.now.edges node.point) j k
  read_is = sym (get_or_from_slice_get (leaving d.flow.now.edges node.point) j k k read_at)

  module _ (after : AfterEdges d mid node j) where
    pub read_leaves : IsFromClass (drawn_of mid) node.class k
    read_leaves = subst (λ (w : Unfolding). IsFromClass w node.class k) (sym (drawn_same d mid after.same)) (node_leaves d.flow.now d.classes.now.classes node next.number next.is j k read_at)

    pub read_calls : is_call mid.flow.now.edges k ≡ true → IsCallNumber (drawn_of mid) node.class k mid.drawn
    read_calls call =
        let u = drawn_of d in
        let moved : is_call d.flow.now.edges k ≡ true = rw (← after.same.flow) call in
        let at = node_calls d.flow.now d.classes.now.classes node next.number next.is j k read_at moved in
        let number : length (flat_map (sites_of_node u) (take next.number (nodes_of u))) + length (filter (is_call d.flow.now.edges) (take j (leaving d.flow.now.edges node.point))) ≡ mid.drawn = omega (arith, after.drawn, next.calls_before) in
        subst (λ (w : Unfolding). IsCallNumber w node.class k mid.drawn) (sym (drawn_same d mid after.same)) (subst (λ (n : ℕ). IsCallNumber u node.class k n) number at)

-- ---- node by node

pub record AfterNodes (old new : Drawing) (n : ℕ) : Type 0 where
  pub same : IsSame old new
  pub arcs : (nodes : ℕ) → AreListed nodes [] old.arcs → AreListed nodes (flat_map (arcs_of_node (drawn_of old)) (take n (nodes_of (drawn_of old)))) new.arcs
  pub drawn : new.drawn ≡ length (flat_map (sites_of_node (drawn_of old)) (take n (nodes_of (drawn_of old))))

pub before_nodes : (d : Drawing) → d.drawn ≡ 0 → AfterNodes d d 0
before_nodes d none = record {
  same = record { flow = refl; nodes = refl; classes = refl; calls = refl; incoming = refl; outgoing = refl };
  arcs = λ nodes listed. listed;
  drawn = none;
}

pub node_is_next : (old mid : Drawing) (node : Node) (n : ℕ) → AfterNodes old mid n → slice_get (nodes_of (drawn_of old)) n ≡ Some node → IsNext (drawn_of mid) node mid.drawn
node_is_next old mid node n after at = subst (λ (w : Unfolding). IsNext w node mid.drawn) (sym (drawn_same old mid after.same)) (record { number = n; is = at; calls_before = after.drawn })

module _ (old mid new : Drawing) (node : Node) (n : ℕ) (after : AfterNodes old mid n) (at : slice_get (nodes_of (drawn_of old)) n ≡ Some node) (same : IsSame mid new) where
  taken_nodes : take (n + 1) (nodes_of (drawn_of old)) ≡ take n (nodes_of (drawn_of old)) ++ node ∷ []
  taken_nodes =
      take_more (nodes_of (drawn_of old)) n node (slice_get_within (nodes_of (drawn_of old)) n node at)
      ∙ ap (λ (x : Node). take n (nodes_of (drawn_of old)) ++ x ∷ []) (get_or_from_slice_get (nodes_of (drawn_of old)) n node node at)

  more_of : {B : Type 0} (f : Node → List B) → flat_map f (take (n + 1) (nodes_of (drawn_of old))) ≡ flat_map f (take n (nodes_of (drawn_of old))) ++ f node
  more_of f =
      ap (λ (xs : List Node). flat_map f xs) taken_nodes ∙ flat_map-append f (take n (nodes_of (drawn_of old))) (node ∷ [])
      ∙ ap (λ ys. flat_map f (take n (nodes_of (drawn_of old))) ++ ys) (append_nil (f node))

  pub nodes_more : ((nodes : ℕ) (before : List Arc) → AreListed nodes before mid.arcs → AreListed nodes (before ++ arcs_of_node (drawn_of mid) node) new.arcs)
      → new.drawn ≡ mid.drawn + length (sites_of_node (drawn_of mid) node) → AfterNodes old new (n + 1)
  nodes_more arcs drawn = record {
    same = same_twice old mid new after.same same;
    arcs = λ nodes listed.
        let one = arcs nodes (flat_map (arcs_of_node (drawn_of old)) (take n (nodes_of (drawn_of old)))) (after.arcs nodes listed) in
        let moved : flat_map (arcs_of_node (drawn_of old)) (take n (nodes_of (drawn_of old))) ++ arcs_of_node (drawn_of mid) node ≡ flat_map (arcs_of_node (drawn_of old)) (take (n + 1) (nodes_of (drawn_of old))) =
        ap (λ (w : Unfolding). flat_map (arcs_of_node (drawn_of old)) (take n (nodes_of (drawn_of old))) ++ arcs_of_node w node) (drawn_same old mid after.same) ∙ sym (more_of (arcs_of_node (drawn_of old))) in
        subst (λ (zs : List Arc). AreListed nodes zs new.arcs) moved one;
    drawn =
        let counted : length (sites_of_node (drawn_of mid) node) ≡ length (sites_of_node (drawn_of old) node) = ap (λ (w : Unfolding). length (sites_of_node w node)) (drawn_same old mid after.same) in
        let more = ap (λ (ss : List Site). length ss) (more_of (sites_of_node (drawn_of old))) in
        omega (arith, drawn, after.drawn, counted, more, length-append (flat_map (sites_of_node (drawn_of old)) (take n (nodes_of (drawn_of old)))) (sites_of_node (drawn_of old) node));
  }

pub all_nodes : (old new : Drawing) (n : ℕ) → AfterNodes old new n → length (nodes_of (drawn_of old)) ≤ n → (nodes : ℕ) → AreListed nodes [] old.arcs → AreListed nodes (arcs (drawn_of old)) new.arcs
all_nodes old new n after all nodes listed =
    subst (λ (xs : List Node). AreListed nodes (flat_map (arcs_of_node (drawn_of old)) xs) new.arcs) (take_all n (nodes_of (drawn_of old)) all) (after.arcs nodes listed)
