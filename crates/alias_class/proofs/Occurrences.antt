-- The different members of a list.
use Rattle.std.proofs.Common.{◌≡◌, ℕ, ◌+◌, ◌<◌, ◌≤◌, Bool, true, false, List, [], ◌∷◌, ◌++◌, ◌||◌, get_or, length, refl, sym, ap, ◌∙◌, arith}
use Rattle.std.specs.List.{fold, list_any}
use Rattle.std.specs.Prelude.{nat_eq, if◌then◌else◌}
use Rattle.std.proofs.lemmas.Bool.Decides.{nat_tests}
use Rattle.std.proofs.lemmas.Grind.{common_steps}
use Rattle.std.proofs.lemmas.List.Folds.{list_any-append}
use Rattle.std.proofs.lemmas.List.Sums.{fold-append}
use Rattle.alias_class.specs.Distinct.{first_occurrences, with_member}

module _ {A : Type 0} (same : A → A → Bool) where
  -- one more
  pub first_occurrences-push : (xs : List A) (x : A) → first_occurrences same (xs ++ x ∷ []) ≡ with_member same (first_occurrences same xs) x
  first_occurrences-push xs x = fold-append (with_member same) [] xs (x ∷ [])

  length-with_member : (xs : List A) (x : A) → length (with_member same xs x) ≤ length xs + 1
  length-with_member xs x = by (list_any (same x) xs)
    where
      by : (b : Bool) → length (if b then xs else xs ++ x ∷ []) ≤ length xs + 1
      by true = omega arith
      by false = grind (arith, common_steps)

  length-members : (found xs : List A) → length (fold (with_member same) found xs) ≤ length found + length xs
  length-members found [] = omega arith
  length-members found (x ∷ xs) = let rest = length-members (with_member same found x) xs in let here = length-with_member found x in omega arith

  pub length-first_occurrences : (xs : List A) → length (first_occurrences same xs) ≤ length xs
  length-first_occurrences xs = let few = length-members [] xs in omega arith

-- ---- members

held : (found : List ℕ) (n x : ℕ) → list_any (nat_eq n) (with_member nat_eq found x) ≡ true → (list_any (nat_eq n) found || nat_eq n x) ≡ true
held found n x e = by (list_any (nat_eq x) found) e
  where
    by : (b : Bool) → list_any (nat_eq n) (if b then found else found ++ x ∷ []) ≡ true → (list_any (nat_eq n) found || nat_eq n x) ≡ true
    by true h = left (list_any (nat_eq n) found) h
      where
        left : (a : Bool) → a ≡ true → (a || nat_eq n x) ≡ true
        left true h = refl
        left false h = absurd (grind arith)
    by false h = ends (list_any (nat_eq n) found) (nat_eq n x) (sym (list_any-append (nat_eq n) found (x ∷ [])) ∙ h)
      where
        ends : (a b : Bool) → (a || (b || false)) ≡ true → (a || b) ≡ true
        ends true b h = refl
        ends false true h = refl
        ends false false h = h

among : (found ns : List ℕ) (n : ℕ) → list_any (nat_eq n) (fold (with_member nat_eq) found ns) ≡ true → (list_any (nat_eq n) found || list_any (nat_eq n) ns) ≡ true
among found [] n e = ends (list_any (nat_eq n) found) e
  where
    ends : (a : Bool) → a ≡ true → (a || false) ≡ true
    ends true h = refl
    ends false h = absurd (grind arith)
among found (x ∷ ns) n e = joins (list_any (nat_eq n) (with_member nat_eq found x)) (list_any (nat_eq n) ns) (held found n x) (among (with_member nat_eq found x) ns n e)
  where
    joins : (a b : Bool) → (a ≡ true → (list_any (nat_eq n) found || nat_eq n x) ≡ true) → (a || b) ≡ true → (list_any (nat_eq n) found || (nat_eq n x || b)) ≡ true
    joins true b h e = first (list_any (nat_eq n) found) (nat_eq n x) b (h refl)
      where
        first : (p q r : Bool) → (p || q) ≡ true → (p || (q || r)) ≡ true
        first true q r h = refl
        first false true r h = refl
        first false false r h = absurd (grind arith)
    joins false b h e = last (list_any (nat_eq n) found) (nat_eq n x) b e
      where
        last : (p q r : Bool) → r ≡ true → (p || (q || r)) ≡ true
        last true q r h = refl
        last false true r h = refl
        last false false r h = h

-- what is among the different members is in the list
pub contained : (ns : List ℕ) (n : ℕ) → list_any (nat_eq n) (first_occurrences nat_eq ns) ≡ true → list_any (nat_eq n) ns ≡ true
contained ns n e = among [] ns n e

kept_member : (found : List ℕ) (n x : ℕ) → list_any (nat_eq n) found ≡ true → list_any (nat_eq n) (with_member nat_eq found x) ≡ true
kept_member found n x e = by (list_any (nat_eq x) found)
  where
    by : (b : Bool) → list_any (nat_eq n) (if b then found else found ++ x ∷ []) ≡ true
    by true = e
    by false = list_any-append (nat_eq n) found (x ∷ []) ∙ left (list_any (nat_eq n) found) e
      where
        left : (a : Bool) → a ≡ true → (a || (nat_eq n x || false)) ≡ true
        left true h = refl
        left false h = absurd (grind arith)

new_member : (found : List ℕ) (n x : ℕ) → nat_eq n x ≡ true → list_any (nat_eq n) (with_member nat_eq found x) ≡ true
new_member found n x e = by (list_any (nat_eq x) found) refl
  where
    by : (b : Bool) → list_any (nat_eq x) found ≡ b → list_any (nat_eq n) (if b then found else found ++ x ∷ []) ≡ true
    by true there = let same : n ≡ x = grind (arith, nat_tests) in ap (λ (k : ℕ). list_any (nat_eq k) found) same ∙ there
    by false there = list_any-append (nat_eq n) found (x ∷ []) ∙ last (list_any (nat_eq n) found) (nat_eq n x) e
      where
        last : (a b : Bool) → b ≡ true → (a || (b || false)) ≡ true
        last true b h = refl
        last false true h = refl
        last false false h = absurd (grind arith)

stays_member : (found ns : List ℕ) (n : ℕ) → list_any (nat_eq n) found ≡ true → list_any (nat_eq n) (fold (with_member nat_eq) found ns) ≡ true
stays_member found [] n e = e
stays_member found (x ∷ ns) n e = stays_member (with_member nat_eq found x) ns n (kept_member found n x e)

enters_member : (found ns : List ℕ) (n : ℕ) → list_any (nat_eq n) ns ≡ true → list_any (nat_eq n) (fold (with_member nat_eq) found ns) ≡ true
enters_member found [] n e = absurd (grind arith)
enters_member found (x ∷ ns) n e = by (nat_eq n x) refl e (enters_member (with_member nat_eq found x) ns n)
  where
    by : (b : Bool) → nat_eq n x ≡ b → (b || list_any (nat_eq n) ns) ≡ true
        → (list_any (nat_eq n) ns ≡ true → list_any (nat_eq n) (fold (with_member nat_eq) (with_member nat_eq found x) ns) ≡ true)
        → list_any (nat_eq n) (fold (with_member nat_eq) (with_member nat_eq found x) ns) ≡ true
    by true same e rest = stays_member (with_member nat_eq found x) ns n (new_member found n x same)
    by false other e rest = rest e

-- what is in a list is among its different members
pub found_member : (ns : List ℕ) (n : ℕ) → list_any (nat_eq n) ns ≡ true → list_any (nat_eq n) (first_occurrences nat_eq ns) ≡ true
found_member ns n e = enters_member [] ns n e

-- ---- without repeats

module _ {A : Type 0} (same : A → A → Bool) where
  -- a member differs from those before it
  abbrev pub IsApart : List A → Type 0
  IsApart xs = (i j : ℕ) (d : A) → i < j → j < length xs → same (get_or xs j d) (get_or xs i d) ≡ false
