-- What the arcs of an unfolding are, by the edges of the flow that they are made of: which nodes they lead between, and how the classes of these
-- depend on each other.
use Rattle.std.specs.Prelude.{◌≡◌, ℕ, suc, ◌<◌, true, false, List, Contains, length, None, Some, is_some, slice_get, unwrap_or}
use Rattle.std.specs.Option.{option_map}
use Rattle.control_points.specs.declared.edge.Act.{Act}
use Rattle.control_points.specs.declared.edge.Act.TheVariants as act
use Rattle.control_points.specs.declared.edge.Edge.{Edge}
use Rattle.control_points.specs.declared.flow.Flow.{Flow}
use Rattle.control_points.specs.Fits.{act_at, routine_at}
use Rattle.control_points.specs.Leading.{goes_on_after, is_return}
use Rattle.alias_class.specs.Calls.{callee, links_at}
use Rattle.alias_class.specs.Cells.{around, routine_of}
use Rattle.alias_class.specs.Classes.{Class, class_at}
use Rattle.activations.specs.declared.arc.Arc.{Arc}
use Rattle.activations.specs.declared.node.Node.{Node}
use Rattle.activations.specs.Arcs.{left_by}
use Rattle.activations.specs.Calls.{is_call}
use Rattle.activations.specs.Drawn.{Drawn}

-- ---- nodes

-- the number of a node's class
abbrev pub class_number : Drawn → ℕ → ℕ
class_number g node = unwrap_or (option_map (λ (n : Node). n.class) (slice_get g.nodes node)) 0

abbrev pub point_number : Drawn → ℕ → ℕ
point_number g node = unwrap_or (option_map (λ (n : Node). n.point) (slice_get g.nodes node)) 0

abbrev pub class_of_node : Drawn → ℕ → Class
class_of_node g node = class_at g.table.classes (class_number g node)

-- A node is of a class and a point of its routine.
pub record NodeFits (f : Flow) (g : Drawn) (node : ℕ) : Type 0 where
  pub class : class_number g node < length g.table.classes
  pub point : point_number g node < length f.points
  pub stands : routine_at f.points (point_number g node) ≡ Some (routine_of g.table.outline (class_of_node g node))

-- ---- arcs

-- the exit that a return leaves
abbrev pub exit_of : Arc → ℕ
exit_of a = unwrap_or a.other 0

-- The call of the edge k from the class of one node enters that of another, with the links of its number.
pub record IsEntered (f : Flow) (g : Drawn) (from inside k call : ℕ) : Type 0 where
  pub is_call : is_call f.edges k ≡ true
  pub class : class_of_node g inside ≡ callee g.table.outline f.edges (class_of_node g from) k
  pub links : slice_get g.links call ≡ Some (links_at g.table.outline f.edges (class_of_node g from) k)

-- an arc that is no return leads along its edge
pub record LeadsAlong (f : Flow) (g : Drawn) (a : Arc) : Type 0 where
  pub leaves : (e : Edge) → slice_get f.edges a.edge ≡ Some e → e.from ≡ point_number g a.from
  pub arrives : (e : Edge) → slice_get f.edges a.edge ≡ Some e → e.to ≡ point_number g a.to
  pub no_exit : a.other ≡ None

-- The return of the call k leads from the callee's exit to a point of the class that made the call.
pub record ComesBack (f : Flow) (g : Drawn) (a : Arc) (k : ℕ) : Type 0 where
  pub behind : a.edge ≡ suc k
  pub leaves : (e : Edge) → slice_get f.edges k ≡ Some e → e.from ≡ point_number g a.from
  pub arrives : (e : Edge) → slice_get f.edges a.edge ≡ Some e → e.to ≡ point_number g a.to
  pub exits : (e : Edge) → slice_get f.edges a.edge ≡ Some e → e.from ≡ point_number g (exit_of a)
  pub has_exit : is_some a.other ≡ true
  pub class : class_number g a.to ≡ class_number g a.from
  pub entered : IsEntered f g a.from (exit_of a) k a.call

-- An arc by the action of its edge.
pub record ArcFits (f : Flow) (g : Drawn) (a : Arc) : Type 0 where
  pub edge : a.edge < length f.edges
  pub from : a.from < length g.nodes
  pub to : a.to < length g.nodes
  pub exit : (node : ℕ) → a.other ≡ Some node → node < length g.nodes
  pub along : (action : Act) → act_at f.edges a.edge ≡ Some action → is_return action ≡ false → LeadsAlong f g a
  pub calls : is_call f.edges a.edge ≡ true → IsEntered f g a.from a.to a.edge a.call
  pub returns : (k : ℕ) → act_at f.edges a.edge ≡ Some (act.Return k) → ComesBack f g a k
  pub goto : (r : ℕ) → act_at f.edges a.edge ≡ Some (act.Goto r) → around g.table.outline (class_of_node g a.from) r ≡ Some (class_of_node g a.to)
  pub stays : (action : Act) → act_at f.edges a.edge ≡ Some action → goes_on_after action ≡ true → class_number g a.to ≡ class_number g a.from

-- Each node and each arc of a graph fits the flow, and the arcs are listed at their nodes.
pub record ArcsFit (f : Flow) (g : Drawn) : Type 0 where
  pub nodes : (node : ℕ) → node < length g.nodes → NodeFits f g node
  pub incoming : length g.incoming ≡ length g.nodes
  pub outgoing : length g.outgoing ≡ length g.nodes
  pub into : (node : ℕ) (listed : List Arc) (a : Arc) → slice_get g.incoming node ≡ Some listed → Contains listed a → a.to ≡ node
  pub out_of : (node : ℕ) (listed : List Arc) (a : Arc) → slice_get g.outgoing node ≡ Some listed → Contains listed a → left_by a ≡ node
  pub arriving : (node : ℕ) (listed : List Arc) (a : Arc) → slice_get g.incoming node ≡ Some listed → Contains listed a → ArcFits f g a
  pub leaving : (node : ℕ) (listed : List Arc) (a : Arc) → slice_get g.outgoing node ≡ Some listed → Contains listed a → ArcFits f g a
