-- What a walk over the nodes of an unfolding, which lists their arcs, starts from and keeps.
use Rattle.std.specs.Prelude.{◌≡◌, ℕ, ◌<◌, ◌^◌, length, take, Some, slice_get}
use Rattle.std.specs.List.{flat_map}
use Rattle.control_points.specs.declared.edge.Edge.{Edge}
use Rattle.control_points.specs.Fits.{routine_at}
use Rattle.alias_class.specs.Cells.{IsClass, routine_of}
use Rattle.alias_class.specs.Classes.{class_at}
use Rattle.alias_class.specs.Outlines.{outline_of}
use Rattle.activations.specs.declared.drawing.Drawing.{Drawing}
use Rattle.activations.specs.declared.node.Node.{Node}
use Rattle.activations.specs.Arcs.{calls, sites, sites_of_node}
use Rattle.activations.specs.Listed.{AreNodesOf}
use Rattle.activations.specs.Unfolding.{IsWhole, Unfolding, nodes_of, unfolding_of}

-- the unfolding that is drawn
abbrev pub drawn_of : Drawing → Unfolding
drawn_of d = unfolding_of d.flow.now d.classes.now.classes

pub record IsSet (d : Drawing) : Type 0 where
  pub outline : d.classes.now.outline ≡ outline_of d.flow.now
  pub whole : IsWhole (drawn_of d)
  pub nodes : AreNodesOf (drawn_of d) d.nodes.now
  pub calls : d.calls.now ≡ calls (drawn_of d)
  pub few : length (sites (drawn_of d)) < 2 ^ 32
  pub valid : (i : ℕ) → i < length d.classes.now.classes → IsClass d.classes.now.outline (class_at d.classes.now.classes i)
  pub incoming : length d.arcs.incoming.items ≡ length d.nodes.now.list.items
  pub outgoing : length d.arcs.outgoing.items ≡ length d.nodes.now.list.items

-- all but the arcs and the count of calls is as it was
pub record IsSame (old new : Drawing) : Type 0 where
  pub flow : new.flow ≡ old.flow
  pub nodes : new.nodes ≡ old.nodes
  pub classes : new.classes ≡ old.classes
  pub calls : new.calls ≡ old.calls
  pub incoming : length new.arcs.incoming.items ≡ length old.arcs.incoming.items
  pub outgoing : length new.arcs.outgoing.items ≡ length old.arcs.outgoing.items

-- the edge k leaves a point of the routine of the class i
pub record LeavesClass (u : Unfolding) (i k : ℕ) (e : Edge) : Type 0 where
  pub class : i < length u.classes
  pub known : slice_get u.edges k ≡ Some e
  pub stands : routine_at u.points e.from ≡ Some (routine_of u.outline (class_at u.classes i))

abbrev pub IsFromClass : Unfolding → ℕ → ℕ → Type 0
IsFromClass u i k = (e : Edge) × LeavesClass u i k e

-- the edge k leads to a point of the routine of the class i
pub record LeadsTo (u : Unfolding) (i k : ℕ) (e : Edge) : Type 0 where
  pub class : i < length u.classes
  pub known : slice_get u.edges k ≡ Some e
  pub lands : routine_at u.points e.to ≡ Some (routine_of u.outline (class_at u.classes i))

abbrev pub LeadsInto : Unfolding → ℕ → ℕ → Type 0
LeadsInto u i k = (e : Edge) × LeadsTo u i k e

-- the call of the edge k from the class i is the one that has the number n
abbrev pub IsCallNumber : Unfolding → ℕ → ℕ → ℕ → Type 0
IsCallNumber u i k n = slice_get (sites u) n ≡ Some (record { caller = i; edge = k })

-- The node is the next one: the calls of those before it are so many.
pub record IsNext (u : Unfolding) (node : Node) (drawn : ℕ) : Type 0 where
  pub number : ℕ
  pub is : slice_get (nodes_of u) number ≡ Some node
  pub calls_before : drawn ≡ length (flat_map (sites_of_node u) (take number (nodes_of u)))
