-- The nodes of a flow by class and then by point, and the numbers that they have.
use Rattle.std.proofs.Common.{◌≡◌, ℕ, zero, suc, ◌+◌, ◌*◌, ◌-◌, ◌<◌, ◌≤◌, List, [], ◌∷◌, ◌++◌, map, take, length, get_or, Option, None, Global, Vec, nat_eq, Some, slice_get, sym, ap, subst, ◌∙◌, arith}
use Rattle.std.specs.List.{range_with_len, sum_by}
use Rattle.std.specs.Option.{option_map}
use Rattle.std.proofs.lemmas.Bool.Decides.{nat_tests}
use Rattle.std.proofs.lemmas.List.{length-map, take_all, take_more}
use Rattle.std.proofs.lemmas.List.Sums.{sum-map, sum_by_push}
use Rattle.std.proofs.Math.Nat.{le-mul_of_pos_right}
use Rattle.std.proofs.lemmas.List.FromFn.{get_or-map-range_with_len, length-map-range_with_len, map-range_with_len_more}
use Rattle.std.proofs.lemmas.Option.{get_or_from_slice_get, slice_get-map, slice_get-get_or, slice_get_read, slice_get_within, unwrap_or-slice_get}
use Rattle.control_points.specs.declared.flow.Flow.{Flow}
use Rattle.control_points.specs.declared.point.Point.{Point}
use Rattle.control_points.specs.Fits.{routine_at}
use Rattle.alias_class.specs.Cells.{IsClass, cell_count, routine_of}
use Rattle.alias_class.specs.Classes.{Class, class_at}
use Rattle.alias_class.specs.Outlines.{outline_of, routine_outline}
use Rattle.activations.specs.declared.node.Node.{Node}
use Rattle.activations.specs.declared.nodes.Nodes.{Nodes}
use Rattle.activations.specs.declared.routines.RoutinePoints.{RoutinePoints}
use Rattle.activations.specs.Calls.{points_of}
use Rattle.activations.specs.Listed.{AreNodesOf, HasNumber}
use Rattle.activations.specs.Parts.{ArePointsOf, lists_of}
use Rattle.activations.specs.Unfolding.{Unfolding, most_cells, nodes_of, nodes_of_class, size_of, size_of_class, unfolding_of}
use Rattle.activations.proofs.Blocks.{blocks, blocks_longer, blocks_more, in_block, longer_by_one}
use Rattle.activations.proofs.NumbersFrom.{all_pass, numbers_once}

-- ---- routines

pub routine_known : (f : Flow) (c : Class) → IsClass (outline_of f) c → routine_of (outline_of f) c < length f.program.routines
routine_known f [] is_class = let some = f.program.in_scope.last in omega (arith, some)
routine_known f (e ∷ parent) is_class = subst (λ (n : ℕ). e.routine < n) (length-map f.program.routines (routine_outline f.program.vars)) is_class.0.known

pub lists_long : (f : Flow) (rp : RoutinePoints) → ArePointsOf f rp → length rp.lists.items ≡ length f.program.routines
lists_long f rp points = sym (length-map rp.lists.items (λ v. v.items)) ∙ ap (λ (xs : List (List ℕ)). length xs) points.lists ∙ length-map-range_with_len (points_of f.points) 0 (length f.program.routines)

pub points_at : (f : Flow) (rp : RoutinePoints) → ArePointsOf f rp → (r : ℕ) (ps : List ℕ) → r < length f.program.routines → slice_get (lists_of rp.lists.items) r ≡ Some ps → ps ≡ points_of f.points r
points_at f rp points r ps known h =
    let at = get_or_from_slice_get (map (points_of f.points) (range_with_len 0 (length f.program.routines))) r ps [] (subst (λ (xs : List (List ℕ)). slice_get xs r ≡ Some ps) points.lists h) in
    sym at ∙ get_or-map-range_with_len (points_of f.points) 0 (length f.program.routines) r r [] known (omega arith)

-- ---- the nodes of the first classes

module _ (u : Unfolding) where
  -- the first node of a class
  abbrev pub first_of : ℕ → ℕ
  first_of i = length (blocks (nodes_of_class u) i)

  pub record AreSoFar (class : ℕ) (list : List Node) (firsts : List ℕ) : Type 0 where
    pub nodes : list ≡ blocks (nodes_of_class u) class
    pub firsts_are : firsts ≡ map first_of (range_with_len 0 class)

  pub more_nodes : (class : ℕ) (list after : List Node) (firsts : List ℕ) → AreSoFar class list firsts → after ≡ list ++ nodes_of_class u class → AreSoFar (class + 1) after (firsts ++ length list ∷ [])
  more_nodes class list after firsts so_far is = record {
    nodes = is ∙ ap (λ (xs : List Node). xs ++ nodes_of_class u class) so_far.nodes ∙ sym (blocks_more (nodes_of_class u) class);
    firsts_are = ap (λ (xs : List ℕ). xs ++ length list ∷ []) so_far.firsts_are
        ∙ ap (λ (n : ℕ). map first_of (range_with_len 0 class) ++ n ∷ []) (ap (λ (xs : List Node). length xs) so_far.nodes)
        ∙ sym (map-range_with_len_more first_of 0 class class (omega arith));
  }

  -- ---- there are no more than the sizes of classes come to

  abbrev pub prefix_size : ℕ → ℕ
  prefix_size c = sum_by (size_of_class u) (take c u.classes)

  one_class : (i : ℕ) → length (nodes_of_class u i) ≤ size_of_class u (class_at u.classes i)
  one_class i =
      let points = points_of u.points (routine_of u.outline (class_at u.classes i)) in
      let cells = 1 + cell_count u.outline (class_at u.classes i) in
      let same : length (nodes_of_class u i) ≡ length points = length-map points (λ p. record { class = i; point = p }) in
      let some : 0 < cells = omega arith in
      let at_most : length points ≤ length points * cells = le-mul_of_pos_right (length points) some in
      omega (arith, same, at_most)

  pub few_before : (c : ℕ) → c ≤ length u.classes → length (blocks (nodes_of_class u) c) ≤ prefix_size c
  few_before zero known = omega arith
  few_before (suc c) known =
      let inside : c < length u.classes = omega (arith, known) in
      let is : c + 1 ≡ suc c = omega arith in
      let before = few_before c (omega (arith, known)) in
      let here = one_class c in
      let long = longer_by_one (nodes_of_class u) c in
      let more : prefix_size (c + 1) ≡ prefix_size c + size_of_class u (class_at u.classes c) =
      ap (λ (cs : List Class). sum_by (size_of_class u) cs) (take_more u.classes c [] inside)
      ∙ sum_by_push (size_of_class u) (take c u.classes) (get_or u.classes c [])
      ∙ ap (λ (d : Class). prefix_size c + size_of_class u d) (sym (unwrap_or-slice_get u.classes c [])) in
      subst (λ (n : ℕ). length (blocks (nodes_of_class u) n) ≤ prefix_size n) is (omega (arith, before, here, long, more))

  pub few_nodes : length (nodes_of u) ≤ size_of u u.classes
  few_nodes =
      let all : prefix_size (length u.classes) ≡ size_of u u.classes =
      ap (λ (cs : List Class). sum_by (size_of_class u) cs) (take_all (length u.classes) u.classes (omega arith)) ∙ sym (sum-map (size_of_class u) u.classes) in
      let few = few_before (length u.classes) (omega arith) in
      omega (arith, few, all)

  pub few_so_far : (c : ℕ) → c ≤ length u.classes → length (blocks (nodes_of_class u) c) ≤ size_of u u.classes
  few_so_far c known =
      let is : c + (length u.classes - c) ≡ length u.classes = omega (arith, known) in
      let longer = subst (λ (n : ℕ). first_of c ≤ first_of n) is (blocks_longer (nodes_of_class u) c (length u.classes - c)) in
      omega (arith, longer, few_nodes)

-- ---- each node is found by the first of its class and the rank of its point

pub point_in : (f : Flow) (r k p : ℕ) → slice_get (points_of f.points r) k ≡ Some p → routine_at f.points p ≡ Some r
point_in f r k p h =
    let found = all_pass (λ (q : Point). nat_eq q.routine r) 0 f.points k p h in
    let is : found.place ≡ p = omega (arith, found.number) in
    let here : slice_get f.points p ≡ Some found.one = subst (λ (n : ℕ). slice_get f.points n ≡ Some found.one) is found.is in
    ap (λ (o : Option Point). option_map (λ (q : Point). q.routine) o) here ∙ ap (λ (n : ℕ). Some n) (grind (arith, nat_tests, found.passes))

-- the rank of a point of a routine
rank_is : (f : Flow) (rp : RoutinePoints) → ArePointsOf f rp → (r k p : ℕ) → slice_get (points_of f.points r) k ≡ Some p → slice_get rp.ranks.items p ≡ Some k
rank_is f rp points r k p h =
    let found = all_pass (λ (q : Point). nat_eq q.routine r) 0 f.points k p h in
    let is : found.place ≡ p = omega (arith, found.number) in
    let within : p < length f.points = subst (λ (n : ℕ). n < length f.points) is (slice_get_within f.points found.place found.one found.is) in
    let ranked = slice_get-get_or rp.ranks.items p 0 (omega (arith, within, points.ranks)) in
    let there = points.ranked p r (get_or rp.ranks.items p 0) (point_in f r k p h) ranked in
    let same : get_or rp.ranks.items p 0 ≡ k = numbers_once (λ (q : Point). nat_eq q.routine r) 0 f.points (get_or rp.ranks.items p 0) k p there h in
    ranked ∙ ap (λ (n : ℕ). Some n) same

node_by : (b : ℕ) (n : Node) (o : Option ℕ) → option_map (λ p. record { class = b; point = p }) o ≡ Some n → (n.class ≡ b) × (o ≡ Some n.point)
node_by b n None h = absurd (grind arith)
node_by b n (Some p) h = let is : record { class = b; point = p } ≡ n = grind (arith, h) in (sym (ap (λ (m : Node). m.class) is), ap (λ (m : Node). Some m.point) is)

-- the node at a place of the list of a class
pub node_is : (u : Unfolding) (b k : ℕ) (n : Node) → slice_get (nodes_of_class u b) k ≡ Some n
    → (n.class ≡ b) × (slice_get (points_of u.points (routine_of u.outline (class_at u.classes b))) k ≡ Some n.point)
node_is u b k n h =
    let points = points_of u.points (routine_of u.outline (class_at u.classes b)) in
    node_by b n (slice_get points k) (sym (slice_get-map (λ p. record { class = b; point = p }) points k) ∙ h)

module _ (f : Flow) (classes : List Class) (rp : RoutinePoints) (points : ArePointsOf f rp) (ns : Nodes) (ranks : ns.ranks ≡ rp.ranks)
    (so_far : AreSoFar (unfolding_of f classes) (length classes) ns.list.items ns.firsts.items) where
  number_of_node : (n i p : ℕ) → slice_get ns.list.items n ≡ Some (record { class = i; point = p }) → HasNumber ns i p n
  number_of_node n i p h =
      let u = unfolding_of f classes in
      let node : Node = record { class = i; point = p } in
      let found = in_block (nodes_of_class u) (length classes) n node (subst (λ (xs : List Node). slice_get xs n ≡ Some node) so_far.nodes h) in
      let is = node_is u found.block found.place node found.is in
      let rank = rank_is f rp points (routine_of u.outline (class_at classes found.block)) found.place p is.1 in
      let first : slice_get (map (first_of u) (range_with_len 0 (length classes))) found.block ≡ Some (first_of u found.block) =
      slice_get_read (map (first_of u) (range_with_len 0 (length classes))) (length classes) found.block (first_of u found.block)
      (sym (length-map-range_with_len (first_of u) 0 (length classes))) found.known
      (sym (get_or-map-range_with_len (first_of u) 0 (length classes) found.block found.block (first_of u found.block) found.known (omega arith))) in
      record {
        first = first_of u found.block;
        rank = found.place;
        begins = subst (λ (m : ℕ). slice_get ns.firsts.items m ≡ Some (first_of u found.block)) (sym is.0) (subst (λ (xs : List ℕ). slice_get xs found.block ≡ Some (first_of u found.block)) (sym so_far.firsts_are) first);
        ranked = subst (λ (v : Vec ℕ Global). slice_get v.items p ≡ Some found.place) (sym ranks) rank;
        number = found.number;
      }

  pub nodes_are : size_of (unfolding_of f classes) classes ≤ most_cells → AreNodesOf (unfolding_of f classes) ns
  nodes_are within = record {
    listed = so_far.nodes;
    numbered = record {
      few = let few = few_nodes (unfolding_of f classes) in omega (arith, few, within, ap (λ (xs : List Node). length xs) so_far.nodes);
      numbered = number_of_node;
    };
  }
