-- Where a list has each element once, an element's first place is the one that it stands at.
use Rattle.std.proofs.Common.{◌≡◌, ℕ, ◌<◌, Bool, true, false, ◌&&◌, List, get_or, nat_eq, Some, slice_get, refl, sym, ap, subst, ◌∙◌, arith}
use Rattle.std.specs.List.{position_or_len}
use Rattle.std.proofs.lemmas.Bool.Decides.{nat_tests}
use Rattle.std.proofs.lemmas.List.Sums.{position_or_len_is}
use Rattle.std.proofs.lemmas.Option.{get_or_from_slice_get, slice_get-get_or, slice_get_within}
use Rattle.activations.specs.declared.node.Node.{Node}
use Rattle.activations.specs.declared.nodes.Nodes.{Nodes}
use Rattle.activations.specs.Listed.{AreNodesOf, AreNumbered}
use Rattle.activations.specs.Unfolding.{Unfolding, node_at, nodes_of, same_node}

-- an element stands at one place alone
abbrev pub StandsOnce : {A : Type 0} → List A → A → Type 0
StandsOnce xs x = (i j : ℕ) → slice_get xs i ≡ Some x → slice_get xs j ≡ Some x → i ≡ j

module _ {A : Type 0} (same : A → A → Bool) (x : A) (reflexive : same x x ≡ true) (sound : (y : A) → same x y ≡ true → x ≡ y) (xs : List A) (once : StandsOnce xs x) where
  earlier_fails : (n : ℕ) → slice_get xs n ≡ Some x → (k : ℕ) → k < n → (b : Bool) → same x (get_or xs k x) ≡ b → b ≡ false
  earlier_fails n at k before false h = refl
  earlier_fails n at k before true h =
      let within = slice_get_within xs n x at in
      let there = slice_get-get_or xs k x (omega (arith, within, before)) ∙ ap (λ (y : A). Some y) (sym (sound (get_or xs k x) h)) in
      let same_place = once k n there at in
      absurd (omega (arith, before, same_place))

  pub first_place : (n : ℕ) → slice_get xs n ≡ Some x → position_or_len (same x) xs ≡ n
  first_place n at =
      let within = slice_get_within xs n x at in
      position_or_len_is (same x) xs n x (omega (arith, within))
      (λ k before. earlier_fails n at k before (same x (get_or xs k x)) refl)
      (λ _. ap (same x) (get_or_from_slice_get xs n x x at) ∙ reflexive)

-- ---- nodes

pub and_left : (a b : Bool) → a && b ≡ true → a ≡ true
and_left true b h = refl
and_left false b h = h

pub and_right : (a b : Bool) → a && b ≡ true → b ≡ true
and_right true b h = h
and_right false b h = absurd (grind arith)

pub node_once : (ns : Nodes) → AreNumbered ns → (x : Node) → StandsOnce ns.list.items x
node_once ns numbered x i j at_i at_j =
    let first = numbered.numbered i x.class x.point at_i in
    let other = numbered.numbered j x.class x.point at_j in
    let begins : first.first ≡ other.first = grind (arith, sym first.begins ∙ other.begins) in
    let ranked : first.rank ≡ other.rank = grind (arith, sym first.ranked ∙ other.ranked) in
    omega (arith, first.number, other.number, begins, ranked)

abbrev pub node_of : ℕ → ℕ → Node
node_of i p = record { class = i; point = p }

same_node_sound : (x y : Node) → same_node x y ≡ true → x ≡ y
same_node_sound x y h =
    let class : x.class ≡ y.class = grind (arith, nat_tests, and_left (nat_eq x.class y.class) (nat_eq x.point y.point) h) in
    let point : x.point ≡ y.point = grind (arith, nat_tests, and_right (nat_eq x.class y.class) (nat_eq x.point y.point) h) in
    ap (λ (i : ℕ). node_of i x.point) class ∙ ap (λ (p : ℕ). node_of y.class p) point

same_node_reflexive : (x : Node) → same_node x x ≡ true
same_node_reflexive x = grind (arith, nat_tests)

pub node_number : (u : Unfolding) (ns : Nodes) → AreNodesOf u ns → (i p n : ℕ) → slice_get ns.list.items n ≡ Some (record { class = i; point = p }) → node_at u i p ≡ n
node_number u ns nodes i p n at =
    let x : Node = record { class = i; point = p } in
    let once : StandsOnce (nodes_of u) x = subst (λ (xs : List Node). StandsOnce xs x) nodes.listed (node_once ns nodes.numbered x) in
    first_place same_node x (same_node_reflexive x) (same_node_sound x) (nodes_of u) once n (subst (λ (xs : List Node). slice_get xs n ≡ Some x) nodes.listed at)
