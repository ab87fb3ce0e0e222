-- What is known where a call is drawn: its edge and the one behind it, the class that it enters, and the nodes of its arcs.
use Rattle.std.proofs.Common.{◌≡◌, ℕ, suc, ◌+◌, ◌<◌, ◌++◌, true, List, [], ◌∷◌, Option, None, length, get_or, Some, slice_get, sym, ap, subst, ◌∙◌, arith, append_assoc}
use Rattle.std.specs.List.{Contains}
use Rattle.std.proofs.lemmas.Option.{get_or_from_slice_get, slice_get_within}
use Rattle.control_points.specs.declared.edge.Act.{Act}
use Rattle.control_points.specs.declared.edge.Act.TheVariants as act
use Rattle.control_points.specs.declared.edge.Edge.{Edge}
use Rattle.control_points.specs.Fits.{callee_of}
use Rattle.alias_class.specs.Calls.{callee}
use Rattle.alias_class.specs.Cells.{routine_of}
use Rattle.alias_class.specs.Classes.{Class, class_at}
use Rattle.alias_class.specs.Outlines.{outline_of}
use Rattle.activations.specs.declared.arc.Arc.{Arc}
use Rattle.activations.specs.declared.discovery.Call.{Call}
use Rattle.activations.specs.declared.drawing.Drawing.{Drawing}
use Rattle.activations.specs.Arcs.{arcs_by, arcs_of_edge, arcs_of_known, callee_number, call_number, return_arc, return_arcs}
use Rattle.activations.specs.Calls.{is_call}
use Rattle.activations.specs.declared.arcs.Arcs.{Arcs}
use Rattle.activations.specs.declared.nodes.Nodes.{Nodes}
use Rattle.activations.specs.Listed.{AreListed, AreNodesOf}
use Rattle.activations.specs.Unfolding.{Unfolding, node_at}
use Rattle.activations.specs.Walks.{IsCallNumber, IsFromClass, IsSet, drawn_of}
use Rattle.activations.proofs.CalledEdges.{callee_routine, is_called}
use Rattle.activations.proofs.ClassNumbers.{callee_known, class_is}
use Rattle.activations.proofs.FirstPlaces.{node_number}
use Rattle.activations.proofs.SitesOnce.{call_number_is, callee_is}
use Rattle.activations.proofs.StandingNodes.{node_stands}

-- a node of the graph that is drawn
abbrev pub HasNode : Drawing → ℕ → ℕ → Type 0
HasNode d i p = Contains d.nodes.now.list.items (record { class = i; point = p })

pub record IsDrawable (d : Drawing) (i k : ℕ) : Type 0 where
  pub edge : Edge
  pub back : Edge
  pub known : slice_get d.flow.now.edges k ≡ Some edge
  pub behind : slice_get d.flow.now.edges (suc k) ≡ Some back
  pub enters : slice_get d.calls.now d.drawn ≡ Some (record { caller = i; site = k; callee = callee_number (drawn_of d) i k })
  pub number : call_number (drawn_of d) i k ≡ d.drawn
  pub from : HasNode d i edge.from
  pub entry : HasNode d (callee_number (drawn_of d) i k) edge.to
  pub exit : HasNode d (callee_number (drawn_of d) i k) back.from
  pub end : HasNode d i back.to
  -- its arcs, by the numbers of nodes
  pub arcs : arcs_of_edge (drawn_of d) i k ≡
      record { from = node_at (drawn_of d) i edge.from; to = node_at (drawn_of d) (callee_number (drawn_of d) i k) edge.to; edge = k; other = None; call = call_number (drawn_of d) i k }
      ∷ return_arc (drawn_of d) i k edge back ∷ []

arcs_by_call : (u : Unfolding) (i k r : ℕ) (e back : Edge) (a : Act) → callee_of a ≡ Some r → slice_get u.edges (suc k) ≡ Some back → arcs_by u i k e a ≡
    record { from = node_at u i e.from; to = node_at u (callee_number u i k) e.to; edge = k; other = None; call = call_number u i k } ∷ return_arc u i k e back ∷ []
arcs_by_call u i k r e back (act.Call s actuals slot at) calls behind =
    ap (λ (o : Option Edge). record { from = node_at u i e.from; to = node_at u (callee_number u i k) e.to; edge = k; other = None; call = call_number u i k } ∷ return_arcs u i k e o) behind
arcs_by_call u i k r e back a calls behind = absurd (grind arith)

pub drawable : (d : Drawing) (i k : ℕ) → IsSet d → IsFromClass (drawn_of d) i k → is_call d.flow.now.edges k ≡ true → IsCallNumber (drawn_of d) i k d.drawn → IsDrawable d i k
drawable d i k set from call next =
    let f = d.flow.now in
    let classes = d.classes.now.classes in
    let u = drawn_of d in
    let e = from.0 in
    let j = callee_number u i k in
    let c = class_at classes i in
    let called = is_called f k e from.1.known call in
    let callee_at = callee_known f classes set.whole i k e from.1 call in
    let routine : routine_of (outline_of f) (class_at classes j) ≡ called.routine =
    ap (λ (x : Class). routine_of (outline_of f) x) (class_is classes j (callee (outline_of f) f.edges c k) callee_at) ∙ callee_routine (outline_of f) f.edges c k called.routine e from.1.known called.calls in
    let within : j < length classes = slice_get_within classes j (callee (outline_of f) f.edges c k) callee_at in
    let stands = node_stands f classes d.nodes.now set.nodes in
    record {
      edge = e;
      back = called.back;
      known = from.1.known;
      behind = called.behind;
      enters = callee_is u d.nodes.now set.nodes d.calls.now set.calls i k d.drawn next;
      number = call_number_is u d.nodes.now set.nodes i k d.drawn next;
      from = stands i e.from from.1.class from.1.stands;
      entry = stands j e.to within (called.enters ∙ ap (λ (r : ℕ). Some r) (sym routine));
      exit = stands j called.back.from within (called.leaves ∙ ap (λ (r : ℕ). Some r) (sym routine));
      end = stands i called.back.to from.1.class (called.returns ∙ from.1.stands);
      arcs = ap (λ (o : Option Edge). arcs_of_known u i k o) from.1.known ∙ arcs_by_call u i k called.routine e called.back e.act called.calls called.behind;
    }

-- ---- what the code reads

pub read_edge : (edges listed : List Edge) (k : ℕ) (e known : Edge) → slice_get edges k ≡ Some known → listed ≡ edges → e ≡ get_or listed k e → e ≡ known
read_edge edges listed k e known at same is = is ∙ ap (λ (es : List Edge). get_or es k e) same ∙ get_or_from_slice_get edges k known e at

pub next_read : (listed : List Edge) (k : ℕ) (e : Edge) → e ≡ get_or listed (k + 1) e → e ≡ get_or listed (suc k) e
next_read listed k e is = let next : k + 1 ≡ suc k = omega arith in is ∙ ap (λ (n : ℕ). get_or listed n e) next

pub entered : (calls : List Call) (n i k j : ℕ) → slice_get calls n ≡ Some (record { caller = i; site = k; callee = j }) → (get_or calls n (record { caller = 0; site = 0; callee = 0 })).callee ≡ j
entered calls n i k j at = ap (λ (c : Call). c.callee) (get_or_from_slice_get calls n (record { caller = i; site = k; callee = j }) (record { caller = 0; site = 0; callee = 0 }) at)

-- the number that was found is that of the node
pub number_of_read : (u : Unfolding) (ns : Nodes) → AreNodesOf u ns → (i j p q n : ℕ) → i ≡ j → p ≡ q → slice_get ns.list.items n ≡ Some (record { class = i; point = p }) → n ≡ node_at u j q
number_of_read u ns nodes i j p q n class point at = sym (node_number u ns nodes i p n at) ∙ ap (λ (m : ℕ). node_at u m p) class ∙ ap (λ (m : ℕ). node_at u j m) point

pub two_listed : (nodes : ℕ) (arcs : List Arc) (listed : Arcs) (a b x y : Arc) (both : List Arc) → a ≡ x → b ≡ y → both ≡ x ∷ y ∷ [] → AreListed nodes ((arcs ++ a ∷ []) ++ b ∷ []) listed → AreListed nodes (arcs ++ both) listed
two_listed nodes arcs listed a b x y both first second is before =
    let shifted : (arcs ++ a ∷ []) ++ b ∷ [] ≡ arcs ++ both =
    append_assoc arcs (a ∷ []) (b ∷ []) ∙ ap (λ (z : Arc). arcs ++ z ∷ b ∷ []) first ∙ ap (λ (z : Arc). arcs ++ x ∷ z ∷ []) second ∙ ap (λ (zs : List Arc). arcs ++ zs) (sym is) in
    subst (λ (zs : List Arc). AreListed nodes zs listed) shifted before
