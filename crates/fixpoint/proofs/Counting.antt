-- How many nodes have a mark, and how many read a node.
use Rattle.std.proofs.Common.{◌≡◌, ℕ, zero, suc, ◌+◌, ◌<◌, ◌≤◌, Bool, true, false, List, [], ◌∷◌, length, set, take, refl, sym, ap, subst, ◌∙◌, inl, inr, arith, get_or-set_same, get_or-set_other}
use Rattle.std.specs.Prelude.{◌≢◌, ◌⊎◌, if◌then◌else◌, nat_eq, count_by}
use Rattle.std.specs.Cmp.{nat_eq_equiv}
use Rattle.std.specs.List.{Contains, list_any}
use Rattle.std.proofs.lemmas.Bool.{cases_eq}
use Rattle.std.proofs.lemmas.List.{length-set, set-get_or, take_all}
use Rattle.std.proofs.lemmas.Map.Views.{list_any-from_Contains}
use Rattle.std.proofs.lemmas.List.Sums.{sum_by-append, sum_by_more}
use Rattle.weak_order.specs.Order.{numbers}
use Rattle.fixpoint.specs.Marks.{has_mark, marked}
use Rattle.fixpoint.specs.System.{System, readers}

-- how many numbers below n pass a test
abbrev pub tally : (ℕ → Bool) → ℕ → ℕ
tally p zero = 0
tally p (suc n) = tally p n + (if p n then 1 else 0)

pub tally_either : (p q r : ℕ → Bool) (n : ℕ) → ((i : ℕ) → i < n → p i ≡ true → (q i ≡ true) ⊎ (r i ≡ true)) → tally p n ≤ tally q n + tally r n
tally_either p q r zero passes = omega arith
tally_either p q r (suc n) passes =
    let before = tally_either p q r n (λ i below. passes i (omega (arith, below))) in
    one (p n) (q n) (r n) (tally p n) (tally q n) (tally r n) before (passes n (omega arith))
  where
    one : (a b c : Bool) (x y z : ℕ) → x ≤ y + z → (a ≡ true → (b ≡ true) ⊎ (c ≡ true))
        → x + (if a then 1 else 0) ≤ y + (if b then 1 else 0) + (z + (if c then 1 else 0))
    one true true true x y z h passes = omega (arith, h)
    one true true false x y z h passes = omega (arith, h)
    one true false true x y z h passes = omega (arith, h)
    one true false false x y z h passes = elim (passes refl) [ inl no_b ↦ cc | inr no_c ↦ cc ]
    one false true true x y z h passes = omega (arith, h)
    one false true false x y z h passes = omega (arith, h)
    one false false true x y z h passes = omega (arith, h)
    one false false false x y z h passes = omega (arith, h)

pub tally_same : (p q : ℕ → Bool) (n : ℕ) → ((i : ℕ) → i < n → p i ≡ q i) → tally p n ≡ tally q n
tally_same p q zero same = refl
tally_same p q (suc n) same =
    let before = tally_same p q n (λ i below. same i (omega (arith, below))) in
    rw (same n (omega arith), before) refl

-- one number passes no more, and no other begins to
pub tally_less : (p q : ℕ → Bool) (n k : ℕ) → k < n → p k ≡ false → q k ≡ true → ((i : ℕ) → i ≢ k → p i ≡ q i) → tally p n + 1 ≡ tally q n
tally_less p q zero k below now before same = absurd (omega (arith, below))
tally_less p q (suc n) k below now before same = elim (cases_eq k n) [
  | inl last ↦
      let rest = tally_same p q n (λ i lower. same i (omega (arith, lower, last))) in
      let p_last : p n ≡ false = subst (λ (i : ℕ). p i ≡ false) last now in
      let q_last : q n ≡ true = subst (λ (i : ℕ). q i ≡ true) last before in
      rw (p_last, q_last) (omega (arith, rest))
  | inr earlier ↦
      let rest = tally_less p q n k (omega (arith, below, earlier)) now before same in
      let last : p n ≡ q n = same n (λ e. earlier (sym e)) in
      rw last (omega (arith, rest))
]

-- the marks, and the readers, counted so
marked_first : (marks : List Bool) (n : ℕ) → n ≤ length marks → marked (take n marks) ≡ tally (has_mark marks) n
marked_first marks zero below = refl
marked_first marks (suc n) below =
    let next : suc n ≡ n + 1 = omega arith in
    let before = marked_first marks n (omega (arith, below)) in
    ap (λ (m : ℕ). marked (take m marks)) next
    ∙ sum_by_more (λ (b : Bool). if b then 1 else 0) marks n true (omega (arith, below)) ∙ rw before refl

pub marked-tally : (marks : List Bool) → marked marks ≡ tally (has_mark marks) (length marks)
marked-tally marks =
    let all = take_all (length marks) marks (omega arith) in
    ap marked (sym all) ∙ marked_first marks (length marks) (omega arith)

counted : (p : ℕ → Bool) (n : ℕ) → count_by p (numbers n) ≡ tally p n
counted p zero = refl
counted p (suc n) = sum_by-append (λ (i : ℕ). if p i then 1 else 0) (numbers n) (n ∷ []) ∙ rw (counted p n) (omega arith)

abbrev pub reads_node : {V : Type 0} → System V → ℕ → ℕ → Bool
reads_node s k v = list_any (nat_eq k) (s.reads v)

pub readers-tally : {V : Type 0} (s : System V) (k : ℕ) → readers s k ≡ tally (reads_node s k) s.nodes
readers-tally s k = counted (reads_node s k) s.nodes

pub reads_node_true : {V : Type 0} (s : System V) (k v : ℕ) → Contains (s.reads v) k → reads_node s k v ≡ true
reads_node_true s k v at = list_any-from_Contains nat_eq_equiv k (s.reads v) at

-- nodes get marks
pub marked_added : {V : Type 0} (s : System V) (k : ℕ) (marks after : List Bool) → length marks ≡ s.nodes → length after ≡ length marks
    → ((m : ℕ) → m < s.nodes → has_mark after m ≡ true → (has_mark marks m ≡ true) ⊎ Contains (s.reads m) k)
    → marked after ≤ marked marks + readers s k
marked_added s k marks after all long only =
    let most = tally_either (has_mark after) (has_mark marks) (reads_node s k) s.nodes (λ m below holds. elim (only m below holds) [
      | inl before ↦ inl before
      | inr reads ↦ inr (reads_node_true s k m reads)
    ]) in
    rw (marked-tally after, marked-tally marks, readers-tally s k, long, all) most

-- a mark is taken
pub marked_taken : (marks : List Bool) (k : ℕ) → k < length marks → has_mark marks k ≡ true → marked (set marks k false) + 1 ≡ marked marks
marked_taken marks k inside had =
    let after = set marks k false in
    let long = length-set marks k false in
    let less = tally_less (has_mark after) (has_mark marks) (length marks) k inside (get_or-set_same marks k false true inside) had
    (λ i differs. get_or-set_other marks k i false true differs) in
    rw (marked-tally after, marked-tally marks, long) less

-- and one that was not there
pub marked_untaken : (marks : List Bool) (k : ℕ) → k < length marks → has_mark marks k ≡ false → marked (set marks k false) ≡ marked marks
marked_untaken marks k inside had =
    let here : set marks k false ≡ marks = ap (λ (b : Bool). set marks k b) (sym had) ∙ set-get_or marks k true in
    ap marked here
