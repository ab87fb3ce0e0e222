-- Each arc of an unfolding fits its edge.
use Rattle.std.proofs.Common.{◌≡◌, ℕ, suc, ◌+◌, ◌<◌, true, false, List, length, nat_eq, Option, Some, None, slice_get, refl, sym, ap, subst, ◌∙◌, arith}
use Rattle.std.specs.Option.{option_map, unwrap_or}
use Rattle.std.proofs.lemmas.Bool.Decides.{nat_tests}
use Rattle.std.proofs.lemmas.Option.{slice_get-map, slice_get_within}
use Rattle.control_points.specs.declared.edge.Act.{Act}
use Rattle.control_points.specs.declared.edge.Act.TheVariants as act
use Rattle.control_points.specs.declared.edge.Edge.{Edge}
use Rattle.control_points.specs.declared.flow.Flow.{Flow}
use Rattle.control_points.specs.Chart.{leaving}
use Rattle.control_points.specs.Fits.{act_at, callee_of, routine_at}
use Rattle.control_points.specs.Leading.{goes_on_after, is_return}
use Rattle.alias_class.specs.declared.bind.Link.{Link}
use Rattle.alias_class.specs.declared.outline.Outline.{Outline}
use Rattle.alias_class.specs.Calls.{callee, links_at}
use Rattle.alias_class.specs.Cells.{around, routine_of}
use Rattle.alias_class.specs.Classes.{Class, class_at}
use Rattle.alias_class.specs.Outlines.{outline_of}
use Rattle.activations.specs.declared.arc.Arc.{Arc}
use Rattle.activations.specs.declared.node.Node.{Node}
use Rattle.activations.specs.Arcs.{Site, call_number, callee_number, is_site, links_of_site, local_arc, return_arc, sites, sites_of_node}
use Rattle.activations.specs.Calls.{is_call, sites_at}
use Rattle.activations.specs.Drawn.{Drawn, IsUnfolding}
use Rattle.activations.specs.Fitting.{ArcFits, ComesBack, IsEntered, LeadsAlong, class_number, class_of_node, exit_of, point_number}
use Rattle.activations.specs.Unfolding.{Unfolding, node_at, nodes_of, unfolding_of}
use Rattle.activations.specs.Walks.{LeavesClass}
use Rattle.activations.proofs.CalledEdges.{IsCalled, callee_routine, is_called}
use Rattle.activations.proofs.ClassNumbers.{callee_known, class_is}
use Rattle.activations.proofs.DrawnEdges.{not_call, plain_calls}
use Rattle.activations.proofs.FirstPlaces.{and_left, and_right, node_of}
use Rattle.activations.proofs.FittingNodes.{StandsIn, first_is, node_there}
use Rattle.activations.proofs.NumbersFrom.{none_missed}
use Rattle.activations.proofs.Pieces.{at_piece, stands_at}

some_is : {A : Type 0} (x y : A) → Some x ≡ Some y → x ≡ y
some_is x y h = grind arith

-- ---- actions

-- the action of an edge that is known
act_is : (edges : List Edge) (k : ℕ) (e : Edge) (a : Act) → slice_get edges k ≡ Some e → act_at edges k ≡ Some a → e.act ≡ a
act_is edges k e a known at = some_is e.act a (sym (ap (λ (o : Option Edge). option_map (λ (d : Edge). d.act) o) known) ∙ at)

edge_is : (edges : List Edge) (k : ℕ) (e d : Edge) → slice_get edges k ≡ Some e → slice_get edges k ≡ Some d → e ≡ d
edge_is edges k e d known at = some_is e d (sym known ∙ at)

not_return : (a : Act) → goes_on_after a ≡ true → is_return a ≡ false
not_return (act.Return k) h = absurd (grind (arith, h))
not_return a h = refl

stays_here : (a : Act) (r : ℕ) (P : Type 0) → goes_on_after a ≡ true → a ≡ act.Goto r → P
stays_here a r P h is = absurd (grind (arith, sym (ap goes_on_after is) ∙ h))

call_is_none : (edges : List Edge) (k : ℕ) (e : Edge) (P : Type 0) → slice_get edges k ≡ Some e → callee_of e.act ≡ None → is_call edges k ≡ true → P
call_is_none edges k e P known none call = absurd (grind (arith, sym (not_call edges k e known none) ∙ call))

-- ---- sites

abbrev pub site_of : ℕ → ℕ → Site
site_of i k = record { caller = i; edge = k }

site_sound : (u : Unfolding) (s t : Site) → is_site u s t ≡ true → s ≡ t
site_sound u s t h =
    let caller : s.caller ≡ t.caller = grind (arith, nat_tests, and_left (nat_eq s.caller t.caller) (nat_eq s.edge t.edge) h) in
    let edge : s.edge ≡ t.edge = grind (arith, nat_tests, and_right (nat_eq s.caller t.caller) (nat_eq s.edge t.edge) h) in
    ap (λ (n : ℕ). site_of n s.edge) caller ∙ ap (λ (n : ℕ). site_of t.caller n) edge

site_reflexive : (u : Unfolding) (s : Site) → is_site u s s ≡ true
site_reflexive u s = grind (arith, nat_tests)

module _ (f : Flow) (g : Drawn) (drawn : IsUnfolding f g) where
  abbrev pub classes : List Class
  classes = g.table.classes

  abbrev pub u : Unfolding
  u = unfolding_of f classes

  -- ---- a node of the graph

  pub record AtNode (i p n : ℕ) : Type 0 where
    pub within : n < length g.nodes
    pub class : class_number g n ≡ i
    pub point : point_number g n ≡ p

  pub at_node_by : (n : ℕ) (x : Node) → slice_get (nodes_of u) n ≡ Some x → AtNode x.class x.point n
  at_node_by n x at =
      let there = subst (λ (xs : List Node). slice_get xs n ≡ Some x) (sym drawn.unfolded.nodes) at in
      record {
        within = slice_get_within g.nodes n x there;
        class = ap (λ (o : Option Node). unwrap_or (option_map (λ (m : Node). m.class) o) 0) there;
        point = ap (λ (o : Option Node). unwrap_or (option_map (λ (m : Node). m.point) o) 0) there;
      }

  at_node : (i p : ℕ) → StandsIn f classes i p → AtNode i p (node_at u i p)
  at_node i p fits = at_node_by (node_at u i p) (node_of i p) (node_there f classes i p fits)

  -- ---- calls

  -- an edge that leaves a point of a class
  pub record Leaves (i k : ℕ) (e : Edge) : Type 0 where
    pub known : slice_get f.edges k ≡ Some e
    pub stands : StandsIn f classes i e.from

  leaves_class : (i k : ℕ) (e : Edge) → Leaves i k e → LeavesClass u i k e
  leaves_class i k e leaves = record { class = leaves.stands.class; known = leaves.known; stands = leaves.stands.stands }

  site_there : (i k : ℕ) (e : Edge) → Leaves i k e → is_call f.edges k ≡ true → slice_get (sites u) (call_number u i k) ≡ Some (site_of i k)
  site_there i k e leaves call =
      let listed = none_missed (λ (d : Edge). nat_eq d.from e.from) 0 f.edges k e leaves.known (grind (arith, nat_tests)) in
      let same : 0 + k ≡ k = omega arith in
      let site = stands_at (is_call f.edges) (leaving f.edges e.from) listed.0 k (listed.1 ∙ ap (λ (n : ℕ). Some n) same) call in
      let here : slice_get (sites_of_node u (node_of i e.from)) _ ≡ Some (site_of i k) =
      slice_get-map (λ j. site_of i j) (sites_at f.edges e.from) _ ∙ ap (λ (o : Option ℕ). option_map (λ j. site_of i j) o) site in
      let at = at_piece (sites_of_node u) (nodes_of u) (node_at u i e.from) (node_of i e.from) _ (site_of i k) (node_there f classes i e.from leaves.stands) here in
      let first = first_is (is_site u (site_of i k)) (sites u) _ (site_of i k) at (site_reflexive u (site_of i k)) in
      first.there ∙ ap (λ (s : Site). Some s) (sym (site_sound u (site_of i k) first.one first.passes))

  module _ (i k : ℕ) (e : Edge) (leaves : Leaves i k e) (call : is_call f.edges k ≡ true) where
    abbrev pub inside : ℕ
    inside = callee_number u i k

    callee_there : slice_get classes inside ≡ Some (callee (outline_of f) f.edges (class_at classes i) k)
    callee_there = callee_known f classes drawn.unfolded.whole i k e (leaves_class i k e leaves) call

    pub called : IsCalled f k e
    called = is_called f k e leaves.known call

    pub callee_stands : (p : ℕ) → routine_at f.points p ≡ Some called.routine → StandsIn f classes inside p
    callee_stands p at =
        let entered = callee (outline_of f) f.edges (class_at classes i) k in
        let routine : routine_of (outline_of f) (class_at classes inside) ≡ called.routine =
        ap (λ (x : Class). routine_of (outline_of f) x) (class_is classes inside entered callee_there)
        ∙ callee_routine (outline_of f) f.edges (class_at classes i) k called.routine e leaves.known called.calls in
        record { class = slice_get_within classes inside entered callee_there; stands = at ∙ ap (λ (r : ℕ). Some r) (sym routine) }

    is_entered : (from to p q : ℕ) → AtNode i p from → AtNode inside q to → IsEntered f g from to k (call_number u i k)
    is_entered from to p q at_from at_to =
        let entered = callee (outline_of f) f.edges (class_at classes i) k in
        let linked = links_at (outline_of f) f.edges (class_at classes i) k in
        let same : outline_of f ≡ g.table.outline = sym drawn.outline in
        let here : class_at classes i ≡ class_of_node g from = ap (class_at classes) (sym at_from.class) in
        let links : slice_get g.links (call_number u i k) ≡ Some linked =
        ap (λ (ls : List (List Link)). slice_get ls (call_number u i k)) drawn.unfolded.links
        ∙ slice_get-map (links_of_site u) (sites u) (call_number u i k) ∙ ap (λ (o : Option Site). option_map (links_of_site u) o) (site_there i k e leaves call) in
        record {
          is_call = call;
          class = ap (class_at classes) at_to.class ∙ class_is classes inside entered callee_there
              ∙ ap (λ (o : Outline). callee o f.edges (class_at classes i) k) same ∙ ap (λ (c : Class). callee g.table.outline f.edges c k) here;
          links = links ∙ ap (λ (o : Outline). Some (links_at o f.edges (class_at classes i) k)) same
              ∙ ap (λ (c : Class). Some (links_at g.table.outline f.edges c k)) here;
        }

  -- ---- arcs that are no return

  leads_along : (a : Arc) (i j k : ℕ) (e : Edge) → slice_get f.edges k ≡ Some e → a.edge ≡ k → a.other ≡ None → AtNode i e.from a.from → AtNode j e.to a.to → LeadsAlong f g a
  leads_along a i j k e known edge none at_from at_to = record {
    leaves = λ d at. ap (λ (x : Edge). x.from) (edge_is f.edges k d e (subst (λ (n : ℕ). slice_get f.edges n ≡ Some d) edge at) known) ∙ sym at_from.point;
    arrives = λ d at. ap (λ (x : Edge). x.to) (edge_is f.edges k d e (subst (λ (n : ℕ). slice_get f.edges n ≡ Some d) edge at) known) ∙ sym at_to.point;
    no_exit = none;
  }

  no_return : (k j : ℕ) (e : Edge) (P : Type 0) → slice_get f.edges k ≡ Some e → is_return e.act ≡ false → act_at f.edges k ≡ Some (act.Return j) → P
  no_return k j e P known other at = absurd (grind (arith, sym (ap is_return (act_is f.edges k e (act.Return j) known at)) ∙ other))

  pub record IsLocal (i j : ℕ) (e : Edge) : Type 0 where
    pub no_return : is_return e.act ≡ false
    pub no_call : callee_of e.act ≡ None
    pub goto : (r : ℕ) → e.act ≡ act.Goto r → around (outline_of f) (class_at classes i) r ≡ Some (class_at classes j)
    pub stays : goes_on_after e.act ≡ true → j ≡ i

  pub local_fits : (i j k : ℕ) (e : Edge) → Leaves i k e → StandsIn f classes j e.to → IsLocal i j e → ArcFits f g (local_arc u i j k e)
  local_fits i j k e leaves lands is =
      let a = local_arc u i j k e in
      let at_from = at_node i e.from leaves.stands in
      let at_to = at_node j e.to lands in
      record {
        edge = slice_get_within f.edges k e leaves.known;
        from = at_from.within;
        to = at_to.within;
        exit = λ node h. absurd (grind arith);
        along = λ action at other. leads_along a i j k e leaves.known refl refl at_from at_to;
        calls = λ call. call_is_none f.edges k e (IsEntered f g a.from a.to k 0) leaves.known is.no_call call;
        returns = λ n at. no_return k n e (ComesBack f g a n) leaves.known is.no_return at;
        goto = λ r at. ap (λ (o : Outline). around o (class_of_node g a.from) r) drawn.outline
            ∙ ap (λ (n : ℕ). around (outline_of f) (class_at classes n) r) at_from.class
            ∙ is.goto r (act_is f.edges k e (act.Goto r) leaves.known at) ∙ ap (λ (n : ℕ). Some (class_at classes n)) (sym at_to.class);
        stays = λ action at goes_on. at_to.class ∙ is.stays (ap goes_on_after (act_is f.edges k e action leaves.known at) ∙ goes_on) ∙ sym at_from.class;
      }

  -- ---- a call and its return

  abbrev pub call_arc : ℕ → ℕ → Edge → Arc
  call_arc i k e = record { from = node_at u i e.from; to = node_at u (callee_number u i k) e.to; edge = k; other = None; call = call_number u i k }

  calls_no_goto : (k r : ℕ) (e : Edge) (a : Act) (P : Type 0) → slice_get f.edges k ≡ Some e → callee_of e.act ≡ Some r → act_at f.edges k ≡ Some a → callee_of a ≡ None → P
  calls_no_goto k r e a P known calls at none = absurd (grind (arith, sym calls ∙ ap callee_of (act_is f.edges k e a known at) ∙ none))

  calls_no_return : (a : Act) (r : ℕ) → callee_of a ≡ Some r → is_return a ≡ false
  calls_no_return (act.Return j) r h = absurd (grind arith)
  calls_no_return a r h = refl

  pub call_fits : (i k : ℕ) (e : Edge) → Leaves i k e → is_call f.edges k ≡ true → ArcFits f g (call_arc i k e)
  call_fits i k e leaves call =
      let a = call_arc i k e in
      let c = called i k e leaves call in
      let at_from = at_node i e.from leaves.stands in
      let at_to = at_node (callee_number u i k) e.to (callee_stands i k e leaves call e.to c.enters) in
      record {
        edge = slice_get_within f.edges k e leaves.known;
        from = at_from.within;
        to = at_to.within;
        exit = λ node h. absurd (grind arith);
        along = λ action at other. leads_along a i (callee_number u i k) k e leaves.known refl refl at_from at_to;
        calls = λ _. is_entered i k e leaves call a.from a.to e.from e.to at_from at_to;
        returns = λ n at. no_return k n e (ComesBack f g a n) leaves.known (calls_no_return e.act c.routine c.calls) at;
        goto = λ r at. calls_no_goto k c.routine e (act.Goto r) _ leaves.known c.calls at refl;
        stays = λ action at goes_on. calls_no_goto k c.routine e action _ leaves.known c.calls at (plain_calls action goes_on);
      }

  pub record IsBehind (k : ℕ) (back : Edge) : Type 0 where
    pub known : slice_get f.edges (suc k) ≡ Some back
    pub is : back.act ≡ act.Return k

  return_by : (k j : ℕ) (back : Edge) → IsBehind k back → act_at f.edges (suc k) ≡ Some (act.Return j) → j ≡ k
  return_by k j back behind at =
      let is : act.Return j ≡ act.Return k = sym (act_is f.edges (suc k) back (act.Return j) behind.known at) ∙ behind.is in
      grind (arith, is)

  returns_else : (k : ℕ) (back : Edge) (a : Act) (P : Type 0) → IsBehind k back → act_at f.edges (suc k) ≡ Some a → is_return a ≡ false → P
  returns_else k back a P behind at other = absurd (grind (arith, (ap is_return (sym behind.is ∙ act_is f.edges (suc k) back a behind.known at)) ∙ other))

  module _ (i k : ℕ) (e back : Edge) (leaves : Leaves i k e) (call : is_call f.edges k ≡ true) (behind : IsBehind k back)
      (exits : StandsIn f classes (callee_number u i k) back.from) (ends : StandsIn f classes i back.to) where
    comes_back : ComesBack f g (return_arc u i k e back) k
    comes_back =
        let a = return_arc u i k e back in
        let at_from = at_node i e.from leaves.stands in
        let at_to = at_node i back.to ends in
        let at_exit = at_node (callee_number u i k) back.from exits in
        record {
          behind = refl;
          leaves = λ d at. ap (λ (x : Edge). x.from) (edge_is f.edges k d e at leaves.known) ∙ sym at_from.point;
          arrives = λ d at. ap (λ (x : Edge). x.to) (edge_is f.edges (suc k) d back at behind.known) ∙ sym at_to.point;
          exits = λ d at. ap (λ (x : Edge). x.from) (edge_is f.edges (suc k) d back at behind.known) ∙ sym at_exit.point;
          has_exit = refl;
          class = at_to.class ∙ sym at_from.class;
          entered = is_entered i k e leaves call a.from (exit_of a) e.from back.from at_from at_exit;
        }

    pub return_fits : ArcFits f g (return_arc u i k e back)
    return_fits =
        let a = return_arc u i k e back in
        let at_exit = at_node (callee_number u i k) back.from exits in
        record {
          edge = slice_get_within f.edges (suc k) back behind.known;
          from = (at_node i e.from leaves.stands).within;
          to = (at_node i back.to ends).within;
          exit = λ node h. subst (λ (n : ℕ). n < length g.nodes) (some_is (node_at u (callee_number u i k) back.from) node h) at_exit.within;
          along = λ action at other. returns_else k back action (LeadsAlong f g a) behind at other;
          calls = λ again. call_is_none f.edges (suc k) back (IsEntered f g a.from a.to (suc k) (call_number u i k)) behind.known (ap callee_of behind.is) again;
          returns = λ j at. subst (λ (n : ℕ). ComesBack f g a n) (sym (return_by k j back behind at)) comes_back;
          goto = λ r at. returns_else k back (act.Goto r) _ behind at refl;
          stays = λ action at goes_on. returns_else k back action _ behind at (not_return action goes_on);
        }
