-- The forward system over an unfolding: its order, its tables and their room, and what its solution is.
use Rattle.std.proofs.Common.{◌≡◌, ℕ, ℤ, ◌+◌, ◌-◌, ◌*◌, ◌<◌, ◌≤◌, Bool, false, true, Global, List, Vec, Option, length, map, get_or, unwrap_or, refl, sym, ap, subst, ◌∙◌, arith}
use Rattle.std.specs.List.{range_with_len}
use Rattle.std.specs.Option.{option_map}
use Rattle.std.proofs.lemmas.List.{get_or-map, length-map}
use Rattle.std.proofs.lemmas.Option.{slice_get-get_or}
use Rattle.environment.specs.Environments.{Environment, cell_count, env_ops}
use Rattle.environment.specs.Environments.Environment.{Unreachable}
use Rattle.environment.specs.Kept.{Roomy}
use Rattle.fixpoint.specs.Ascent.{AreAtMost, IsAscent, ascent_bound}
use Rattle.fixpoint.specs.Descent.{IsDescent, heads_of}
use Rattle.fixpoint.specs.System.{AreTables, IsLayoutOf, IsTable, Reads, System}
use Rattle.weak_order.specs.Edges.{HasEdge}
use Rattle.weak_order.specs.Order.{Elements, IsOrderOf, IsWeakOrder, Layout, Orders, numbers}
use Rattle.control_points.specs.declared.flow.Flow.{Flow}
use Rattle.control_points.specs.Thresholds.{thresholds_of}
use Rattle.abstract_expr.specs.Standing.{cells_in}
use Rattle.activations.specs.declared.node.Node.{Node}
use Rattle.activations.specs.Drawn.{Drawn}
use Rattle.activations.specs.Fitting.{ArcsFit, class_number}
use Rattle.transfer_fwd.specs.Forward.{Table}
use Rattle.transfer_fwd.specs.Reads.{AreForwardReads}
use Rattle.transfer_fwd.specs.Systems.{FitsGraph, HasRoomFor, forward_system}
use Rattle.alternation.specs.Limits.{cell_limit, class_limit, type_limits, unreached}
use Rattle.alternation.specs.Solved.{AreEnough, Course, IsPlain, dependences}
use Rattle.alternation.proofs.Filling.{length_numbers}
use Rattle.alternation.proofs.Listing.{order_of_reads}

-- ---- tables of nodes

module _ (g : Drawn) (at : ℕ → Environment) (cells : (class : ℕ) → cell_count (at class) ≡ cells_in g.table class) where
  -- the elements of a table made for the classes of nodes have the cells of these
  pub by_class : FitsGraph g (map (λ (n : Node). at n.class) g.nodes)
  by_class = record {
    size = length-map g.nodes (λ (n : Node). at n.class);
    cells = λ node inside.
        let none : Node = record { class = 0; point = 0 } in
        let value = λ (n : Node). at n.class in
        let number : class_number g node ≡ (get_or g.nodes node none).class
        = ap (λ (o : Option Node). unwrap_or (option_map (λ (n : Node). n.class) o) 0) (slice_get-get_or g.nodes node none inside) in
        ap cell_count (get_or-map value g.nodes node none (env_ops.bottom 0) inside) ∙ cells (get_or g.nodes node none).class
        ∙ ap (cells_in g.table) (sym number);
  }

pub limits_fit : (g : Drawn) → FitsGraph g (type_limits g)
limits_fit g = by_class g (class_limit g.table)
    (λ class. length-map (range_with_len 0 (cells_in g.table class)) (cell_limit g.table class) ∙ length_numbers 0 (cells_in g.table class))

in_all : (before between after rise fall : ℕ) → between ≤ before + rise → after ≤ between + fall → after - before ≤ rise + fall
in_all before between after rise fall first second = omega (arith, first, second)

-- ---- a system that is the forward system

module _ (f : Flow) (g : Drawn) (reads : List (List ℕ)) (system : System Environment) (is : system ≡ forward_system f g reads false true) where
  pub is_table : (table : Table) → FitsGraph g table → IsTable env_ops system table
  is_table table fits = subst (λ (s : System Environment). IsTable env_ops s table) (sym is) (record { size = fits.size; shapes = fits.cells })

  pub is_table_of : (table : Table) → IsTable env_ops system table → FitsGraph g table
  is_table_of table fits =
      let here = subst (λ (s : System Environment). IsTable env_ops s table) is fits in record { size = here.size; cells = here.shapes }

  pub are_tables : (limits table : Table) → limits ≡ type_limits g → FitsGraph g table → AreTables env_ops system limits table
  are_tables limits table limited fits = record {
    limits_fit = subst (IsTable env_ops system) (sym limited) (is_table (type_limits g) (limits_fit g));
    table_fits = is_table table fits;
  }

  pub in_order : (order : Layout) → AreForwardReads g reads → IsWeakOrder (HasEdge (dependences reads)) (length reads) order
      → IsWeakOrder (Reads system) system.nodes order
  in_order order are_reads weak =
      subst (λ (s : System Environment). IsWeakOrder (Reads s) s.nodes order) (sym is)
      (order_of_reads (forward_system f g reads false true) reads order (sym are_reads.as_many) (λ k r at. at) weak)

  pub has_room : (room : ℕ) → ArcsFit f g → HasRoomFor g room → (k : ℕ) → k < system.nodes → system.shape k ≤ room
  has_room room fits enough =
      subst (λ (s : System Environment). (k : ℕ) → k < s.nodes → s.shape k ≤ room) (sym is)
      (λ k inside. enough (class_number g k) (fits.nodes k inside).class)

  -- ---- its solution

  module _ (are_reads : AreForwardReads g reads) (order : Layout) (first : Bool) (least : first ≡ false) (ordered : IsOrderOf (dependences reads) first order) where
    abbrev pub course : Course g
    course = record {
      reads = reads;
      are_reads = are_reads;
      elements = ordered.elements;
      ordered = subst (λ (b : Bool). Orders (HasEdge (dependences reads)) b (numbers (length reads)) ordered.elements) least ordered.ordered;
    }

    pub is_layout : IsLayoutOf ordered.elements order
    is_layout = record { nodes = ordered.nodes; ends = ordered.ends }

    pub is_plain : (limits : Table) (steps : List ℤ) (ascended table : Table) → limits ≡ type_limits g → steps ≡ thresholds_of f.program
        → ((elements : Elements) → IsLayoutOf elements order → IsAscent env_ops system limits steps elements ascended)
        → ((elements : Elements) → IsLayoutOf elements order → IsDescent env_ops system limits elements ascended table) → IsPlain f g table
    is_plain limits steps ascended table limited stops up down =
        let plain = forward_system f g reads false true in
        let elements = ordered.elements in
        let ascent : IsAscent env_ops plain (type_limits g) (thresholds_of f.program) elements ascended
        = subst (λ (zs : List ℤ). IsAscent env_ops plain (type_limits g) zs elements ascended) stops
        (subst (λ (ls : Table). IsAscent env_ops plain ls steps elements ascended) limited
        (subst (λ (s : System Environment). IsAscent env_ops s limits steps elements ascended) is (up elements is_layout))) in
        let descent : IsDescent env_ops plain (type_limits g) elements ascended table
        = subst (λ (ls : Table). IsDescent env_ops plain ls elements ascended table) limited
        (subst (λ (s : System Environment). IsDescent env_ops s limits elements ascended table) is (down elements is_layout)) in
        record { course = course; solved = record { ascended = ascended; ascent = ascent; descent = descent } }

    pub are_enough : (limits : Table) (steps : List ℤ) (before between after : ℕ) → limits ≡ type_limits g → steps ≡ thresholds_of f.program
        → ((elements : Elements) (h : ℕ) → IsLayoutOf elements order → AreAtMost env_ops system limits steps h → between ≤ before + ascent_bound h 0 elements)
        → ((elements : Elements) (zs : List ℤ) (h : ℕ) → IsLayoutOf elements order → AreAtMost env_ops system limits zs h
        → after ≤ between + system.nodes * (2 + length (heads_of elements) * h)) → AreEnough f g (after - before)
    are_enough limits steps before between after limited stops up down = record {
      course = course;
      enough = λ h most.
          let elements = ordered.elements in
          let here : AreAtMost env_ops system limits steps h
          = subst (λ (s : System Environment). AreAtMost env_ops s limits steps h) (sym is)
          (subst (λ (ls : Table). AreAtMost env_ops (forward_system f g reads false true) ls steps h) (sym limited)
          (subst (λ (zs : List ℤ). AreAtMost env_ops (forward_system f g reads false true) (type_limits g) zs h) (sym stops) most)) in
          let rise = up elements h is_layout here in
          let fall = subst (λ (s : System Environment). after ≤ between + s.nodes * (2 + length (heads_of elements) * h)) is (down elements steps h is_layout here) in
          in_all before between after (ascent_bound h 0 elements) (length g.nodes * (2 + length (heads_of elements) * h)) rise fall;
    }

-- ---- what is the same from call to call

pub same_length : (nodes : ℕ) (v : Vec Roomy Global) (now after : List Roomy) → now ≡ v.items → length now ≡ v.len
    → length (map (λ (e : Roomy). e.env) v.items) ≡ nodes → length (map (λ (e : Roomy). e.env) after) ≡ nodes → length after ≡ v.len
same_length nodes v now after is long size size_after =
    let env = λ (e : Roomy). e.env in
    sym (length-map after env) ∙ size_after ∙ sym size ∙ length-map v.items env ∙ ap length (sym is) ∙ long

pub descent_by : (s t : System Environment) (limits same from start end : Table) (elements : Elements) → s ≡ t → limits ≡ same → from ≡ start
    → IsDescent env_ops s limits elements from end → IsDescent env_ops t same elements start end
descent_by s t limits same from start end elements system limited starts down =
    subst (λ (x : Table). IsDescent env_ops t same elements x end) starts
    (subst (λ (ls : Table). IsDescent env_ops t ls elements from end) limited
    (subst (λ (r : System Environment). IsDescent env_ops r limits elements from end) system down))

pub fewer_by : (s t : System Environment) (limits same : Table) (steps : List ℤ) (h : ℕ) (elements : Elements) (between after : ℕ) → s ≡ t → limits ≡ same
    → (AreAtMost env_ops s limits steps h → after ≤ between + s.nodes * (2 + length (heads_of elements) * h))
    → AreAtMost env_ops t same steps h → after ≤ between + t.nodes * (2 + length (heads_of elements) * h)
fewer_by s t limits same steps h elements between after system limited fewer most =
    subst (λ (r : System Environment). after ≤ between + r.nodes * (2 + length (heads_of elements) * h)) system
    (fewer (subst (λ (r : System Environment). AreAtMost env_ops r limits steps h) (sym system)
    (subst (λ (ls : Table). AreAtMost env_ops t ls steps h) (sym limited) most)))

-- ---- the table before a run

pub unreached_fits : (g : Drawn) → FitsGraph g (unreached g)
unreached_fits g = by_class g (λ class. Unreachable (cells_in g.table class)) (λ class. refl)
