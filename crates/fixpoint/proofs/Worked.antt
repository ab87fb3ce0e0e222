-- Steps of the loops over what an equation reads, over lists of reads, and over the edges that follow from them.
use Rattle.std.proofs.Common.{◌≡◌, ℕ, ◌+◌, ◌<◌, Global, List, [], Vec, ◌++◌, length, map, take, get_or, sym, ap, ◌∙◌, subst, arith, below_more}
use Rattle.std.specs.Prelude.{slice_index}
use Rattle.std.specs.List.{All, Contains, fold}
use Rattle.std.proofs.lemmas.List.{get_or_default, get_or-map, length-map}
use Rattle.std.proofs.lemmas.List.Elements.{All-contains, Contains-append_left, Contains-append_right, Contains-get_or}
use Rattle.std.proofs.lemmas.List.Sums.{fold_more}
use Rattle.interval.specs.declared.val.Val.{Val}
use Rattle.interval.specs.Values.{nothing, val_join, val_ops}
use Rattle.weak_order.specs.Edges.{Graph, HasEdge}
use Rattle.weak_order.specs.Order.{Layout, IsWeakOrder}
use Rattle.fixpoint.specs.Reversal.{list_at}
use Rattle.fixpoint.specs.System.{Reads, element}
use Rattle.fixpoint.specs.Worked.{AreListsBelow, Rule, rule_at, unused, flow, joined, system_of}

-- a rule that was read is the one at its node
pub rule_read : (rules : List Rule) (i : ℕ) (rule : Rule) → i < length rules → rule ≡ get_or rules i rule → rule ≡ rule_at rules i
rule_read rules i rule inside is = is ∙ get_or_default rules i rule unused inside

-- one more list has members below a number
pub lists_more : (nodes : ℕ) (lists : List (List ℕ)) (i : ℕ) (list : List ℕ) → list ≡ list_at lists i → All (λ r. r < nodes) list
    → ((k r : ℕ) → k < i → Contains (list_at lists k) r → r < nodes) → (k r : ℕ) → k < i + 1 → Contains (list_at lists k) r → r < nodes
lists_more nodes lists i list is below before k r within at =
    let InRange : ℕ → Type 0 = λ n. (s : ℕ) → Contains (list_at lists n) s → s < nodes in
    let here : All (λ s. s < nodes) (list_at lists i) = subst (λ (xs : List ℕ). All (λ s. s < nodes) xs) is below in
    below_more InRange i (λ n h s. before n s h) (λ s. All-contains (λ x. x < nodes) (list_at lists i) s here) k within r at

-- lists that have members below how many they are
pub lists_below : (vecs : List (Vec ℕ Global)) (nodes : ℕ) → length vecs ≡ nodes → AreListsBelow nodes (map (λ (v : Vec ℕ Global). v.items) vecs)
    → All (λ (v : Vec ℕ Global). All (λ r. r < length vecs) v.items) vecs
lists_below vecs nodes all below k d inside i e within =
    let items = λ (v : Vec ℕ Global). v.items in
    let xs = (get_or vecs k d).items in
    let here : list_at (map items vecs) k ≡ xs = get_or-map items vecs k d [] inside in
    let member : Contains xs (get_or xs i e) = (i, within, get_or_default xs i _ e within) in
    let listed : k < length (map items vecs) = subst (λ (n : ℕ). k < n) (sym (length-map vecs items)) inside in
    let lower = below k (get_or xs i e) listed (subst (λ (ys : List ℕ). Contains ys (get_or xs i e)) (sym here) member) in
    omega (arith, lower, all)

-- one more node that is read was joined
pub joined_more : (rule : Rule) (reads : List ℕ) (table : List Val) (i : ℕ) (all from next : Val) → i < length reads
    → ((r : ℕ) → Contains reads r → r < length table)
    → from ≡ get_or table (get_or reads i 0) from → next ≡ val_join all (flow from rule.part rule.step)
    → all ≡ fold (joined rule table) rule.start (take i reads) → next ≡ fold (joined rule table) rule.start (take (i + 1) reads)
joined_more rule reads table i all from next inside below read is before =
    let in_table = below (get_or reads i 0) (Contains-get_or reads i 0 inside) in
    let at : from ≡ element val_ops table (get_or reads i 0) = read ∙ get_or_default table (get_or reads i 0) from nothing in_table in
    is ∙ ap (λ (v : Val). val_join all (flow v rule.part rule.step)) at
    ∙ ap (λ (v : Val). joined rule table v (get_or reads i 0)) before
    ∙ sym (fold_more (joined rule table) rule.start reads i 0 inside)

contains_mapped : {X Y : Type 0} (f : X → Y) (xs : List X) (x : X) → Contains xs x → Contains (map f xs) (f x)
contains_mapped f xs x at = (at.0, subst (λ (n : ℕ). at.0 < n) (sym (length-map xs f)) at.1, get_or-map f xs at.0 x (f x) at.1 ∙ ap f at.2)

-- the edges of one more node were added
pub edges_more : (lists : List (List ℕ)) (i : ℕ) (pairs after : List (ℕ × ℕ)) (reads : List ℕ) → reads ≡ list_at lists i
    → after ≡ pairs ++ map (λ r. (r, i)) reads
    → ((k r : ℕ) → k < i → Contains (list_at lists k) r → Contains pairs (r, k))
    → (k r : ℕ) → k < i + 1 → Contains (list_at lists k) r → Contains after (r, k)
edges_more lists i pairs after reads same added before k r within at =
    let AreAdded : ℕ → Type 0 = λ n. (s : ℕ) → Contains (list_at lists n) s → Contains (pairs ++ map (λ m. (m, i)) reads) (s, n) in
    let is_read : (s : ℕ) → Contains (list_at lists i) s → Contains reads s
    = λ s. subst (λ (nodes : List ℕ). Contains nodes s) (sym same) in
    subst (λ (ps : List (ℕ × ℕ)). Contains ps (r, k)) (sym added)
    (below_more AreAdded i (λ n h s there. Contains-append_left pairs (map (λ m. (m, i)) reads) (s, n) (before n s h there))
    (λ s here. Contains-append_right pairs (map (λ m. (m, i)) reads) (s, i) (contains_mapped (λ m. (m, i)) reads s (is_read s here))) k within r at)

-- an order of the graph that has an edge for each read is one of what the equations read
pub order_of_reads : (rules : List Rule) (lists : List (List ℕ)) (graph : Graph) (layout : Layout) → graph.nodes ≡ length rules
    → ((k r : ℕ) → k < length rules → Contains (list_at lists k) r → HasEdge graph r k)
    → IsWeakOrder (HasEdge graph) graph.nodes layout → IsWeakOrder (Reads (system_of rules lists)) (length rules) layout
order_of_reads rules lists graph layout all edges weak =
    let is = subst (λ (n : ℕ). IsWeakOrder (HasEdge graph) n layout) all weak in
    record {
      places = is.places;
      ends = is.ends;
      in_range = is.in_range;
      once = is.once;
      placed = is.placed;
      from_here = is.from_here;
      within = is.within;
      nested = is.nested;
      leads = λ p q p_below q_below reads. is.leads p q p_below q_below (edges _ _ (is.in_range p p_below) reads);
    }

-- where each node stands at its own place, and each is the head of a component with all later ones, that is an order for any edges
pub nest : (Leads : ℕ → ℕ → Type 0) (count : ℕ) (nodes ends : List ℕ) → length nodes ≡ count → length ends ≡ count
    → ((k : ℕ) → k < count → slice_index nodes k ≡ k) → ((k : ℕ) → k < count → slice_index ends k ≡ count)
    → IsWeakOrder Leads count (record { nodes = nodes; ends = ends })
nest Leads count nodes ends all as_many own last = record {
  places = all;
  ends = as_many;
  in_range = λ p below. let at = own p below in omega (arith, at, below);
  once = λ p q p_below q_below same. let at = own p p_below in let there = own q q_below in omega (arith, at, there, same);
  placed = λ u below. (u, below, own u below);
  from_here = λ p below. let end = last p below in omega (arith, end, below);
  within = λ p below. let end = last p below in omega (arith, end);
  nested = λ p q up before below.
      let end = last p below in
      let q_below : q < count = omega (arith, before, end) in
      let inner = last q q_below in
      omega (arith, end, inner);
  leads = λ p q p_below q_below _. let end = last p p_below in rw end (omega (arith, q_below));
}
