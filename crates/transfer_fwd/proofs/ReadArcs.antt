-- Which nodes are read, gathered arc by arc, sorted and without repeats.
use Rattle.std.proofs.Common.{◌≡◌, ℕ, ◌+◌, ◌<◌, Bool, true, false, List, [], ◌∷◌, ◌++◌, map, length, nat_eq, Global, Vec, refl, sym, ap, subst, ◌∙◌, inl, inr, arith}
use Rattle.std.specs.Prelude.{◌||◌}
use Rattle.std.specs.List.{Contains}
use Rattle.std.specs.List.Sorted.{IsStrictlyIncreasing}
use Rattle.std.proofs.lemmas.Bool.{cases_lt}
use Rattle.std.proofs.lemmas.Bool.Decides.{nat_tests}
use Rattle.std.proofs.lemmas.List.{get_or_append_left, get_or_push, length-append, map-append}
use Rattle.std.proofs.lemmas.List.Folds.{list_any_at}
use Rattle.fixpoint.specs.Members.{contains_first, contains_later}
use Rattle.fixpoint.specs.Reversal.{list_at}
use Rattle.activations.specs.Drawn.{Drawn}
use Rattle.transfer_fwd.specs.Reads.{AreForwardReads, all_read, is_in}

-- ---- members

in_by : (x y : ℕ) (ys : List ℕ) → (is_in ys x ≡ true → Contains ys x) → (b : Bool) → nat_eq x y ≡ b → (b || is_in ys x) ≡ true → Contains (y ∷ ys) x
in_by x y ys rest true is h = let same : y ≡ x = grind (arith, nat_tests, is) in subst (λ (n : ℕ). Contains (n ∷ ys) x) (sym same) (contains_first x ys)
in_by x y ys rest false is h = contains_later y x ys (rest h)

pub contained : (xs : List ℕ) (x : ℕ) → is_in xs x ≡ true → Contains xs x
contained [] x h = absurd (grind arith)
contained (y ∷ ys) x h = in_by x y ys (contained ys x) (nat_eq x y) refl h

pub listed : (xs : List ℕ) (x : ℕ) → Contains xs x → is_in xs x ≡ true
listed xs x at = list_any_at (nat_eq x) xs at.0 x at.1 (let same = at.2 in grind (arith, nat_tests, same))

same_by : (b c : Bool) → (b ≡ true → c ≡ true) → (c ≡ true → b ≡ true) → b ≡ c
same_by true true there back = refl
same_by true false there back = sym (there refl)
same_by false true there back = back refl
same_by false false there back = refl

-- lists with the same members
pub same_members : (xs ys : List ℕ) (x : ℕ) → (Contains xs x → Contains ys x) → (Contains ys x → Contains xs x) → is_in xs x ≡ is_in ys x
same_members xs ys x there back = same_by (is_in xs x) (is_in ys x) (λ h. listed ys x (there (contained xs x h))) (λ h. listed xs x (back (contained ys x h)))

-- ---- the lists of the first nodes

abbrev pub lists_of : List (Vec ℕ Global) → List (List ℕ)
lists_of lists = map (λ v. v.items) lists

pub record AreSoFar (g : Drawn) (nodes : ℕ) (lists : List (List ℕ)) : Type 0 where
  pub as_many : length lists ≡ nodes
  pub rising : (node : ℕ) → node < nodes → IsStrictlyIncreasing (list_at lists node)
  pub members : (node read : ℕ) → node < nodes → is_in (list_at lists node) read ≡ is_in (all_read g node) read

pub none_yet : (g : Drawn) (lists : List (Vec ℕ Global)) → lists ≡ [] → AreSoFar g 0 (lists_of lists)
none_yet g lists none = record {
  as_many = ap (λ (vs : List (Vec ℕ Global)). length (lists_of vs)) none;
  rising = λ node inside. absurd (omega (arith, inside));
  members = λ node read inside. absurd (omega (arith, inside));
}

-- what is known of the list of one node
pub record IsRead (g : Drawn) (node : ℕ) (list : List ℕ) : Type 0 where
  pub rising : IsStrictlyIncreasing list
  pub members : (read : ℕ) → is_in list read ≡ is_in (all_read g node) read

each_list : (g : Drawn) (lists : List (List ℕ)) (list : List ℕ) (n : ℕ) → length lists ≡ n → ((node : ℕ) → node < n → IsRead g node (list_at lists node)) → IsRead g n list
    → (node : ℕ) → node < n + 1 → IsRead g node (list_at (lists ++ list ∷ []) node)
each_list g lists list n long before last node inside = elim (cases_lt node n) [
  | inl earlier ↦ subst (IsRead g node) (sym (get_or_append_left lists (list ∷ []) [] node (omega (arith, earlier, long)))) (before node earlier)
  | inr here ↦ let same : n ≡ node = omega (arith, inside, here) in
      subst (IsRead g node) (sym (get_or_push lists list [] node (long ∙ same))) (subst (λ (k : ℕ). IsRead g k list) same last)
]

pub one_more : (g : Drawn) (n : ℕ) (lists after : List (Vec ℕ Global)) (one : Vec ℕ Global) → AreSoFar g n (lists_of lists) → IsRead g n one.items → after ≡ lists ++ one ∷ [] → AreSoFar g (n + 1) (lists_of after)
one_more g n lists after one so_far last is =
    let before : (node : ℕ) → node < n → IsRead g node (list_at (lists_of lists) node) = λ node inside. record { rising = so_far.rising node inside; members = λ read. so_far.members node read inside } in
    let all : (node : ℕ) → node < n + 1 → IsRead g node (list_at (lists_of lists ++ one.items ∷ []) node) = each_list g (lists_of lists) one.items n so_far.as_many before last in
    let more : lists_of after ≡ lists_of lists ++ one.items ∷ [] = ap lists_of is ∙ map-append (λ (v : Vec ℕ Global). v.items) lists (one ∷ []) in
    subst (AreSoFar g (n + 1)) (sym more) (record {
      as_many = length-append (lists_of lists) (one.items ∷ []) ∙ omega (arith, so_far.as_many);
      rising = λ node inside. (all node inside).rising;
      members = λ node read inside. (all node inside).members read;
    })

pub all_listed : (g : Drawn) (n : ℕ) (lists : List (Vec ℕ Global)) → AreSoFar g n (lists_of lists) → n ≡ length g.nodes → AreForwardReads g (lists_of lists)
all_listed g n lists so_far all = record {
  as_many = so_far.as_many ∙ all;
  rising = λ node inside. so_far.rising node (omega (arith, inside, all));
  members = λ node read inside. so_far.members node read (omega (arith, inside, all));
}
