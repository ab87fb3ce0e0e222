-- The tables of an analysis, and how they are solved: an ascent inside limits, and then a descent (Bourdoncle, FMPA 1993), over the nodes in the weak
-- topological order of what their equations read.
use Rattle.std.specs.Prelude.{ℕ, ◌+◌, ◌*◌, ◌≤◌, ℤ, List, [], ◌∷◌, ◌++◌, map, length, false, true}
use Rattle.environment.specs.Environments.{Environment, env_ops}
use Rattle.fixpoint.specs.Ascent.{AreAtMost, IsAscent, ascent_bound}
use Rattle.fixpoint.specs.Descent.{IsDescent, heads_of}
use Rattle.fixpoint.specs.System.{System}
use Rattle.weak_order.specs.Edges.{Graph, HasEdge}
use Rattle.weak_order.specs.Order.{Elements, Orders, numbers}
use Rattle.control_points.specs.declared.flow.Flow.{Flow}
use Rattle.control_points.specs.Thresholds.{thresholds_of}
use Rattle.activations.specs.Drawn.{Drawn}
use Rattle.transfer_fwd.specs.Forward.{Table}
use Rattle.transfer_fwd.specs.Reads.{AreForwardReads}
use Rattle.transfer_fwd.specs.Systems.{forward_system}
use Rattle.alternation.specs.Limits.{type_limits}

-- an edge from each node that an equation reads to its own, for the nodes from the n-th on
abbrev pub edges_from : ℕ → List (List ℕ) → List (ℕ × ℕ)
edges_from n [] = []
edges_from n (read ∷ lists) = map (λ r. (r, n)) read ++ edges_from (n + 1) lists

abbrev pub dependences : List (List ℕ) → Graph
dependences reads = record { nodes = length reads; pairs = edges_from 0 reads }

-- ---- any system

-- the table is the descent from the ascent
pub record IsSolved (s : System Environment) (limits : Table) (steps : List ℤ) (elements : Elements) (table : Table) : Type 0 where
  pub ascended : Table
  pub ascent : IsAscent env_ops s limits steps elements ascended
  pub descent : IsDescent env_ops s limits elements ascended table

-- so many evaluations are enough, where h is the greatest height of a limit
abbrev pub evaluations_of : System Environment → Elements → ℕ → ℕ
evaluations_of s elements h = ascent_bound h 0 elements + s.nodes * (2 + length (heads_of elements) * h)

-- ---- what holds whenever a run stands at a node, whether it goes well or not

-- how the forward equations are gone over
pub record Course (g : Drawn) : Type 0 where
  pub reads : List (List ℕ)
  pub are_reads : AreForwardReads g reads
  pub elements : Elements
  pub ordered : Orders (HasEdge (dependences reads)) false (numbers (length reads)) elements

-- the forward system without assertions, from the program's entry
abbrev pub plain_system : (f : Flow) (g : Drawn) → Course g → System Environment
plain_system f g course = forward_system f g course.reads false true

pub record IsPlain (f : Flow) (g : Drawn) (table : Table) : Type 0 where
  pub course : Course g
  pub solved : IsSolved (plain_system f g course) (type_limits g) (thresholds_of f.program) course.elements table

-- no more evaluations were made than are enough
pub record AreEnough (f : Flow) (g : Drawn) (evaluations : ℕ) : Type 0 where
  pub course : Course g
  pub enough : (h : ℕ) → AreAtMost env_ops (plain_system f g course) (type_limits g) (thresholds_of f.program) h
      → evaluations ≤ evaluations_of (plain_system f g course) course.elements h
