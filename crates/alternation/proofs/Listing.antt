-- The edges of what equations read.
use Rattle.std.proofs.Common.{◌≡◌, ℕ, zero, suc, ◌+◌, ◌<◌, ◌≤◌, Bool, Global, List, [], ◌∷◌, Vec, ◌++◌, length, get_or, map, take, refl, sym, ap, subst, ◌∙◌, arith, append_assoc}
use Rattle.std.specs.Prelude.{slice_index}
use Rattle.std.specs.List.{All, Contains}
use Rattle.std.proofs.lemmas.List.{get_or-map, length-map, take_all}
use Rattle.std.proofs.lemmas.List.Elements.{All-contains, Contains-append_left, Contains-append_right}
use Rattle.environment.specs.Environments.{Environment}
use Rattle.fixpoint.specs.Reversal.{IsReversal, list_at}
use Rattle.fixpoint.specs.System.{Reads, System}
use Rattle.weak_order.specs.Edges.{Graph, HasEdge}
use Rattle.weak_order.specs.Order.{IsOrderOf, IsWeakOrder, Layout}
use Rattle.alternation.specs.Kept.{IsListed}
use Rattle.alternation.specs.Solved.{dependences, edges_from}

append_none : (pairs : List (ℕ × ℕ)) → pairs ++ [] ≡ pairs
append_none [] = refl
append_none (p ∷ pairs) = ap (λ (ps : List (ℕ × ℕ)). p ∷ ps) (append_none pairs)

-- the edges of one more equation
pub edges_more : (n : ℕ) (lists : List (List ℕ)) (i : ℕ) → i < length lists
    → edges_from n (take i lists) ++ map (λ (r : ℕ). (r, n + i)) (list_at lists i) ≡ edges_from n (take (suc i) lists)
edges_more n [] i inside = let never : ⊥ = omega (arith, inside) in absurd never
edges_more n (list ∷ lists) zero inside =
    let same : n + 0 ≡ n = omega arith in
    ap (λ (m : ℕ). map (λ (r : ℕ). (r, m)) list) same ∙ sym (append_none (map (λ (r : ℕ). (r, n)) list))
edges_more n (list ∷ lists) (suc i) inside =
    let same : n + suc i ≡ n + 1 + i = omega arith in
    let lower : i < length lists = omega (arith, inside) in
    let first = map (λ (r : ℕ). (r, n)) list in
    append_assoc first (edges_from (n + 1) (take i lists)) (map (λ (r : ℕ). (r, n + suc i)) (list_at lists i))
    ∙ ap (λ (m : ℕ). first ++ (edges_from (n + 1) (take i lists) ++ map (λ (r : ℕ). (r, m)) (list_at lists i))) same
    ∙ ap (λ (pairs : List (ℕ × ℕ)). first ++ pairs) (edges_more (n + 1) lists i lower)

-- those of all
pub edges_all : (lists : List (List ℕ)) (i : ℕ) (graph : Graph) → length lists ≤ i → graph.nodes ≡ length lists → graph.pairs ≡ edges_from 0 (take i lists)
    → graph ≡ dependences lists
edges_all lists i graph all nodes pairs =
    let whole : graph.pairs ≡ edges_from 0 lists = pairs ∙ ap (edges_from 0) (take_all i lists all) in
    ap (λ (n : ℕ). record { nodes = n; pairs = graph.pairs }) nodes ∙ ap (λ (ps : List (ℕ × ℕ)). record { nodes = length lists; pairs = ps }) whole

-- ---- lists that are read

list_read : (vecs : List (Vec ℕ Global)) (n : ℕ) (v : Vec ℕ Global) (xs : List ℕ) → n < length vecs → v ≡ get_or vecs n v → xs ≡ v.items
    → xs ≡ list_at (map (λ (w : Vec ℕ Global). w.items) vecs) n
list_read vecs n v xs inside is same =
    let items = λ (w : Vec ℕ Global). w.items in
    same ∙ ap items is ∙ sym (get_or-map items vecs n v [] inside)

pub reads_below : (vecs all : List (Vec ℕ Global)) (k : ℕ) (v : Vec ℕ Global) (xs : List ℕ) (r : ℕ) → vecs ≡ all → k < length vecs
    → v ≡ get_or vecs k v → xs ≡ v.items → All (λ (w : Vec ℕ Global). All (λ n. n < length all) w.items) all → Contains xs r → r < length all
reads_below vecs all k v xs r same inside is read below at =
    let within : All (λ (w : Vec ℕ Global). All (λ n. n < length all) w.items) vecs
    = subst (λ (ws : List (Vec ℕ Global)). All (λ (w : Vec ℕ Global). All (λ n. n < length all) w.items) ws) (sym same) below in
    let here : All (λ n. n < length all) v.items = subst (λ (w : Vec ℕ Global). All (λ n. n < length all) w.items) (sym is) (within k v inside) in
    All-contains (λ n. n < length all) v.items r here (subst (λ (ns : List ℕ). Contains ns r) read at)

pub more_edges : (vecs : List (Vec ℕ Global)) (i : ℕ) (v : Vec ℕ Global) (xs : List ℕ) (pairs after : List (ℕ × ℕ)) → i < length vecs
    → v ≡ get_or vecs i v → xs ≡ v.items → after ≡ pairs ++ map (λ (r : ℕ). (r, i)) xs
    → pairs ≡ edges_from 0 (take i (map (λ (w : Vec ℕ Global). w.items) vecs)) → after ≡ edges_from 0 (take (i + 1) (map (λ (w : Vec ℕ Global). w.items) vecs))
more_edges vecs i v xs pairs after inside is read added before =
    let items = λ (w : Vec ℕ Global). w.items in
    let lists = map items vecs in
    let listed : i < length lists = subst (λ (n : ℕ). i < n) (sym (length-map vecs items)) inside in
    let from_zero : i ≡ 0 + i = omega arith in
    let next : suc i ≡ i + 1 = omega arith in
    added ∙ ap (λ (ps : List (ℕ × ℕ)). ps ++ map (λ (r : ℕ). (r, i)) xs) before
    ∙ ap (λ (ns : List ℕ). edges_from 0 (take i lists) ++ map (λ (r : ℕ). (r, i)) ns) (list_read vecs i v xs inside is read)
    ∙ ap (λ (k : ℕ). edges_from 0 (take i lists) ++ map (λ (r : ℕ). (r, k)) (list_at lists i)) from_zero ∙ edges_more 0 lists i listed
    ∙ ap (λ (k : ℕ). edges_from 0 (take k lists)) next

pub all_edges : (vecs : List (Vec ℕ Global)) (i : ℕ) (graph : Graph) → length vecs ≤ i → graph.nodes ≡ length vecs
    → graph.pairs ≡ edges_from 0 (take i (map (λ (w : Vec ℕ Global). w.items) vecs)) → graph ≡ dependences (map (λ (w : Vec ℕ Global). w.items) vecs)
all_edges vecs i graph all nodes pairs =
    let items = λ (w : Vec ℕ Global). w.items in
    let long = length-map vecs items in
    edges_all (map items vecs) i graph (omega (arith, all, long)) (nodes ∙ sym long) pairs

pub is_listed : (lists : List (List ℕ)) (greatest_first : Bool) (graph : Graph) (order : Layout) (reversed : List (List ℕ)) → graph ≡ dependences lists
    → IsReversal (length lists) (list_at lists) reversed → IsOrderOf graph greatest_first order → IsWeakOrder (HasEdge graph) graph.nodes order
    → IsListed (record { greatest_first = greatest_first; reads = lists; read_by = reversed; order = order })
is_listed lists greatest_first graph order reversed is reversal ordered weak = record {
  read_by = reversal;
  order = subst (λ (g : Graph). IsOrderOf g greatest_first order) is ordered;
  weak = subst (λ (g : Graph). IsWeakOrder (HasEdge g) g.nodes order) is weak;
}

-- ---- what is read is an edge

contains_mapped : (f : ℕ → ℕ × ℕ) (xs : List ℕ) (x : ℕ) → Contains xs x → Contains (map f xs) (f x)
contains_mapped f xs x (k, inside, is) =
    (k, subst (λ (n : ℕ). k < n) (sym (length-map xs f)) inside, get_or-map f xs k x (f x) inside ∙ ap f is)

pub read_is_edge : (n : ℕ) (lists : List (List ℕ)) (k r : ℕ) → k < length lists → Contains (list_at lists k) r → Contains (edges_from n lists) (r, n + k)
read_is_edge n [] k r inside at = let never : ⊥ = omega (arith, inside) in absurd never
read_is_edge n (list ∷ lists) zero r inside at =
    let same : n ≡ n + 0 = omega arith in
    let first = map (λ (m : ℕ). (m, n)) list in
    subst (λ (m : ℕ). Contains (first ++ edges_from (n + 1) lists) (r, m)) same
    (Contains-append_left first (edges_from (n + 1) lists) (r, n) (contains_mapped (λ m. (m, n)) list r at))
read_is_edge n (list ∷ lists) (suc k) r inside at =
    let same : n + 1 + k ≡ n + suc k = omega arith in
    let lower : k < length lists = omega (arith, inside) in
    let first = map (λ (m : ℕ). (m, n)) list in
    subst (λ (m : ℕ). Contains (first ++ edges_from (n + 1) lists) (r, m)) same
    (Contains-append_right first (edges_from (n + 1) lists) (r, n + 1 + k) (read_is_edge (n + 1) lists k r lower at))

edge_of : (lists : List (List ℕ)) (k r : ℕ) → k < length lists → Contains (list_at lists k) r → Contains (edges_from 0 lists) (r, k)
edge_of lists k r inside at =
    let same : 0 + k ≡ k = omega arith in
    subst (λ (m : ℕ). Contains (edges_from 0 lists) (r, m)) same (read_is_edge 0 lists k r inside at)

-- an order of the graph is one of the system whose equations read these lists
pub order_of_reads : (system : System Environment) (lists : List (List ℕ)) (order : Layout) → system.nodes ≡ length lists
    → ((k r : ℕ) → Contains (system.reads k) r → Contains (list_at lists k) r)
    → IsWeakOrder (HasEdge (dependences lists)) (length lists) order → IsWeakOrder (Reads system) system.nodes order
order_of_reads system lists order all reads weak =
    let is = subst (λ (n : ℕ). IsWeakOrder (HasEdge (dependences lists)) n order) (sym all) weak in
    record {
      places = is.places;
      ends = is.ends;
      in_range = is.in_range;
      once = is.once;
      placed = is.placed;
      from_here = is.from_here;
      within = is.within;
      nested = is.nested;
      leads = λ p q p_below q_below at. is.leads p q p_below q_below
          (edge_of lists (slice_index order.nodes p) (slice_index order.nodes q) (subst (λ (n : ℕ). slice_index order.nodes p < n) all (is.in_range p p_below))
          (reads (slice_index order.nodes p) (slice_index order.nodes q) at));
    }
