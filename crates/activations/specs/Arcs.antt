-- The arcs of an unfolding: each edge of the control-flow graph leads from a class to the class in which its action ends. A call comes with its
-- return, which takes the node of the call as its own and names the exit from which it comes.
use Rattle.std.specs.Prelude.{ℕ, suc, Bool, ◌&&◌, List, [], ◌∷◌, map, filter, nat_eq, Option, Some, None, slice_get, unwrap_or}
use Rattle.std.specs.List.{flat_map, position_or_len}
use Rattle.control_points.specs.declared.edge.Act.{Act}
use Rattle.control_points.specs.declared.edge.Act.TheVariants as act
use Rattle.control_points.specs.declared.edge.Edge.{Edge}
use Rattle.control_points.specs.Chart.{leaving}
use Rattle.alias_class.specs.declared.bind.Link.{Link}
use Rattle.alias_class.specs.Calls.{callee, links_at}
use Rattle.alias_class.specs.Cells.{around}
use Rattle.alias_class.specs.Classes.{Class, class_at, same_class}
use Rattle.activations.specs.declared.arc.Arc.{Arc}
use Rattle.activations.specs.declared.discovery.Call.{Call}
use Rattle.activations.specs.declared.node.Node.{Node}
use Rattle.activations.specs.Calls.{sites_at}
use Rattle.activations.specs.Unfolding.{Unfolding, node_at, nodes_of, outermost}

-- a call from the class of a number, by the edge of the call
pub record Site : Type 0 where
  pub caller : ℕ
  pub edge : ℕ

module _ (u : Unfolding) where
  -- ---- calls by number, in order of their nodes

  abbrev pub sites_of_node : Node → List Site
  sites_of_node n = map (λ k. record { caller = n.class; edge = k }) (sites_at u.edges n.point)

  abbrev pub sites : List Site
  sites = flat_map sites_of_node (nodes_of u)

  abbrev pub is_site : Site → Site → Bool
  is_site a b = nat_eq a.caller b.caller && nat_eq a.edge b.edge

  abbrev pub call_number : ℕ → ℕ → ℕ
  call_number i k = position_or_len (is_site (record { caller = i; edge = k })) sites

  -- the number of a class
  abbrev pub number_of : Class → ℕ
  number_of c = position_or_len (same_class c) u.classes

  abbrev pub callee_number : ℕ → ℕ → ℕ
  callee_number i k = number_of (callee u.outline u.edges (class_at u.classes i) k)

  -- each call with the class that it enters, by its number
  abbrev pub call_of : Site → Call
  call_of s = record { caller = s.caller; site = s.edge; callee = callee_number s.caller s.edge }

  abbrev pub calls : List Call
  calls = map call_of sites

  -- the links of each call, by its number
  abbrev pub links_of_site : Site → List Link
  links_of_site s = links_at u.outline u.edges (class_at u.classes s.caller) s.edge

  abbrev pub links : List (List Link)
  links = map links_of_site sites

  -- ---- arcs

  abbrev pub local_arc : ℕ → ℕ → ℕ → Edge → Arc
  local_arc i j k e = record { from = node_at u i e.from; to = node_at u j e.to; edge = k; other = None; call = 0 }

  -- the return of the call `e`, whose number is k, by the edge `back` behind it
  abbrev pub return_arc : ℕ → ℕ → Edge → Edge → Arc
  return_arc i k e back = record {
    from = node_at u i e.from;
    to = node_at u i back.to;
    edge = suc k;
    other = Some (node_at u (callee_number i k) back.from);
    call = call_number i k;
  }

  abbrev pub return_arcs : ℕ → ℕ → Edge → Option Edge → List Arc
  return_arcs i k e None = []
  return_arcs i k e (Some back) = return_arc i k e back ∷ []

  abbrev pub arcs_by : ℕ → ℕ → Edge → Act → List Arc
  arcs_by i k e (act.Return site) = []
  arcs_by i k e (act.Call routine actuals slot at) =
      record { from = node_at u i e.from; to = node_at u (callee_number i k) e.to; edge = k; other = None; call = call_number i k }
      ∷ return_arcs i k e (slice_get u.edges (suc k))
  arcs_by i k e (act.Goto routine) = local_arc i (number_of (unwrap_or (around u.outline (class_at u.classes i) routine) outermost)) k e ∷ []
  arcs_by i k e action = local_arc i i k e ∷ []

  abbrev pub arcs_of_known : ℕ → ℕ → Option Edge → List Arc
  arcs_of_known i k None = []
  arcs_of_known i k (Some e) = arcs_by i k e e.act

  -- those of an edge that leaves a point of the class of a number
  abbrev pub arcs_of_edge : ℕ → ℕ → List Arc
  arcs_of_edge i k = arcs_of_known i k (slice_get u.edges k)

  abbrev pub arcs_of_node : Node → List Arc
  arcs_of_node n = flat_map (arcs_of_edge n.class) (leaving u.edges n.point)

  -- in order of the nodes whose actions they are
  abbrev pub arcs : List Arc
  arcs = flat_map arcs_of_node (nodes_of u)

-- the node that an arc leaves, for a return the exit of the callee
abbrev pub left_by : Arc → ℕ
left_by a = unwrap_or a.other a.from

-- of several arcs those that lead to a node, and those that leave it
abbrev pub arcs_into : List Arc → ℕ → List Arc
arcs_into arcs n = filter (λ (a : Arc). nat_eq a.to n) arcs

abbrev pub arcs_from : List Arc → ℕ → List Arc
arcs_from arcs n = filter (λ a. nat_eq (left_by a) n) arcs
