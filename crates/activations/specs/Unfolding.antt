-- The unfolding of a program: the classes of its activations, each as often as a call enters it in another way; and a node for each class and
-- each point of its routine.
use Rattle.std.specs.Prelude.{◌≡◌, ℕ, suc, ◌+◌, ◌*◌, ◌<◌, ◌≤◌, List, [], ◌∷◌, map, take, length, Contains, Bool, ◌&&◌, nat_eq}
use Rattle.std.specs.List.{flat_map, position_or_len, range_with_len, sum}
use Rattle.control_points.specs.declared.edge.Edge.{Edge}
use Rattle.control_points.specs.declared.point.Point.{Point}
use Rattle.control_points.specs.declared.flow.Flow.{Flow}
use Rattle.alias_class.specs.declared.outline.Outline.{Outline}
use Rattle.alias_class.specs.Cells.{cell_count, routine_of}
use Rattle.alias_class.specs.Classes.{Class, class_at, same_class}
use Rattle.alias_class.specs.Distinct.{first_occurrences}
use Rattle.alias_class.specs.Outlines.{outline_of}
use Rattle.activations.specs.declared.node.Node.{Node}
use Rattle.activations.specs.Calls.{callees, points_of}

-- what an unfolding is told over: the program's outline, its points and edges, and the classes, each at its number
pub record Unfolding : Type 0 where
  pub outline : Outline
  pub points : List Point
  pub edges : List Edge
  pub classes : List Class

abbrev pub unfolding_of : Flow → List Class → Unfolding
unfolding_of f classes = record { outline = outline_of f; points = f.points; edges = f.edges; classes = classes }

-- ---- which classes there are

-- that of the program's block
abbrev pub outermost : Class
outermost = []

-- The classes known where those of the first n have made their calls: the program's block and the callees of these, each where it is first met. All
-- but the first were called by one of a smaller number.
pub record AreKnown (u : Unfolding) (n : ℕ) : Type 0 where
  pub listed : u.classes ≡ first_occurrences same_class (outermost ∷ flat_map (callees u.points u.edges u.outline) (take n u.classes))
  pub called : (i : ℕ) → suc i < length u.classes → (j : ℕ) × (j ≤ i) × (j < n) × Contains (callees u.points u.edges u.outline (class_at u.classes j)) (class_at u.classes (suc i))

-- all classes: each has made its calls
abbrev pub IsWhole : Unfolding → Type 0
IsWhole u = AreKnown u (length u.classes)

-- ---- sizes

-- the cells of a class, and one more, at each point of its routine
abbrev pub size_of_class : Unfolding → Class → ℕ
size_of_class u c = length (points_of u.points (routine_of u.outline c)) * (1 + cell_count u.outline c)

abbrev pub size_of : Unfolding → List Class → ℕ
size_of u classes = sum (map (size_of_class u) classes)

-- the most that the sizes of all classes may come to
abbrev pub most_cells : ℕ
most_cells = 4000000

-- The sizes of the first classes, added in order of number, come to this at the first class where they pass the most.
pub record IsTooMany (u : Unfolding) (cells : ℕ) : Type 0 where
  pub before : ℕ
  pub known : AreKnown u before
  pub there : before < length u.classes
  pub within : size_of u (take before u.classes) ≤ most_cells
  pub sum : cells ≡ size_of u (take (suc before) u.classes)
  pub above : most_cells < cells

-- ---- nodes

abbrev pub nodes_of_class : Unfolding → ℕ → List Node
nodes_of_class u i = map (λ p. record { class = i; point = p }) (points_of u.points (routine_of u.outline (class_at u.classes i)))

-- by class, and then by point
abbrev pub nodes_of : Unfolding → List Node
nodes_of u = flat_map (nodes_of_class u) (range_with_len 0 (length u.classes))

abbrev pub same_node : Node → Node → Bool
same_node m n = nat_eq m.class n.class && nat_eq m.point n.point

-- the number of the node of a class and a point
abbrev pub node_at : Unfolding → ℕ → ℕ → ℕ
node_at u i p = position_or_len (same_node (record { class = i; point = p })) (nodes_of u)
