-- What a call passes, name by name.
use Rattle.std.proofs.Common.{◌≡◌, ℕ, zero, suc, ◌+◌, ◌<◌, ◌≤◌, Bool, true, false, ◌||◌, not, cond, List, [], ◌∷◌, ◌++◌, length, get_or, map, nat_eq, nat_lt, refl, sym, ap, ◌∙◌, subst, arith}
use Rattle.std.specs.List.{filter, list_any, position_or_len, range_with_len}
use Rattle.std.specs.Prelude.{nat_le, if◌then◌else◌}
use Rattle.std.proofs.lemmas.Bool.Decides.{nat_tests}
use Rattle.std.proofs.lemmas.List.{append-nil, length-map, map-append}
use Rattle.std.proofs.lemmas.List.Elements.{filter-append}
use Rattle.pas_program.specs.Scopes.{contains}
use Rattle.alias_class.specs.declared.bind.Bind.{Bind}
use Rattle.alias_class.specs.Calls.{Sharing, shared_bind, shared_cell}
use Rattle.alias_class.specs.Cells.{cell_of, foreign_cells}
use Rattle.alias_class.specs.Distinct.{first_occurrences, with_member}
use Rattle.alias_class.specs.Passings.{bindings_by, foreign_after}
use Rattle.alias_class.proofs.Lists.{and_both, contains-filter, map_at, member_at}
use Rattle.alias_class.proofs.Occurrences.{first_occurrences-push, found_member}
use Rattle.alias_class.proofs.Ranks.{place_below}

-- ---- foreign cells, one more

pub foreign-push : (first : ℕ) (bs : List Bind) (b : Bind) → foreign_cells first (bs ++ b ∷ []) ≡ foreign_after first (foreign_cells first bs) b
foreign-push first bs b =
    ap (λ (cs : List ℕ). first_occurrences nat_eq (filter (λ c. nat_le first c) cs)) (map-append cell_of bs (b ∷ []))
    ∙ ap (first_occurrences nat_eq) (filter-append (λ c. nat_le first c) (map cell_of bs) (cell_of b ∷ []))
    ∙ by (nat_le first (cell_of b)) (nat_lt (cell_of b) first) (grind (arith, nat_tests))
  where
    by : (x y : Bool) → x ≡ not y → first_occurrences nat_eq (filter (λ c. nat_le first c) (map cell_of bs) ++ cond x (cell_of b ∷ []) []) ≡ (if y then foreign_cells first bs else with_member nat_eq (foreign_cells first bs) (cell_of b))
    by true false e = first_occurrences-push nat_eq (filter (λ c. nat_le first c) (map cell_of bs)) (cell_of b)
    by false true e = ap (first_occurrences nat_eq) (append-nil (filter (λ c. nat_le first c) (map cell_of bs)))
    by true true e = absurd (grind arith)
    by false false e = absurd (grind arith)

-- ---- places in lists that grow at their end

pub place_kept : {A : Type 0} (test : A → Bool) (xs ys : List A) → list_any test xs ≡ true → position_or_len test (xs ++ ys) ≡ position_or_len test xs
place_kept test [] ys e = absurd (grind arith)
place_kept {A} test (x ∷ xs) ys e = by (test x) e (place_kept test xs ys)
  where
    by : (b : Bool) → (b || list_any test xs) ≡ true → (list_any test xs ≡ true → position_or_len test (xs ++ ys) ≡ position_or_len test xs)
        → cond (not b) (1 + position_or_len test (xs ++ ys)) 0 ≡ cond (not b) (1 + position_or_len test xs) 0
    by true e rest = refl
    by false e rest = ap (λ (n : ℕ). 1 + n) (rest e)

pub place_new : {A : Type 0} (test : A → Bool) (xs : List A) (y : A) → list_any test xs ≡ false → test y ≡ true → position_or_len test (xs ++ y ∷ []) ≡ length xs
place_new test [] y none e = by (test y) e
  where
    by : (b : Bool) → b ≡ true → cond (not b) (1 + 0) 0 ≡ 0
    by true e = refl
    by false e = absurd (grind arith)
place_new {A} test (x ∷ xs) y none e = by (test x) none (λ rest. place_new test xs y rest e)
  where
    by : (b : Bool) → (b || list_any test xs) ≡ false → (list_any test xs ≡ false → position_or_len test (xs ++ y ∷ []) ≡ length xs) → cond (not b) (1 + position_or_len test (xs ++ y ∷ [])) 0 ≡ suc (length xs)
    by true none rest = absurd (grind arith)
    by false none rest = let same = rest none in omega arith

pub map_same : {A B : Type 0} (f g : A → B) (xs : List A) → ((k : ℕ) (d : A) → k < length xs → f (get_or xs k d) ≡ g (get_or xs k d)) → map f xs ≡ map g xs
map_same f g [] h = refl
map_same f g (x ∷ xs) h = ap (λ y. y ∷ map f xs) (h 0 x (omega arith)) ∙ ap (λ ys. g x ∷ ys) (map_same f g xs (λ k d p. h (suc k) d (omega arith)))

-- ---- what is found of the names

module _ (inherited first : ℕ) where
  abbrev pub sharing_by : List Bind → Sharing
  sharing_by names = record { inherited = inherited; first_foreign = first; foreign = foreign_cells inherited names }

  -- a name is of an inherited cell or of one that was found
  named_found : (names : List Bind) (k : ℕ) (d : Bind) → k < length names → nat_lt (get_or names k d).cell inherited ≡ false → list_any (λ c. nat_eq (get_or names k d).cell c) (foreign_cells inherited names) ≡ true
  named_found names k d h behind =
      let n = (get_or names k d).cell in
      let long = length-map names cell_of in
      let at : get_or (map cell_of names) k 0 ≡ n = map_at cell_of names k d 0 h in
      let here : contains n (map cell_of names) ≡ true = subst (λ (m : ℕ). contains m (map cell_of names) ≡ true) at (member_at (map cell_of names) k (omega arith)) in
      found_member (filter (λ c. nat_le inherited c) (map cell_of names)) n
      (contains-filter (λ c. nat_le inherited c) n (map cell_of names) ∙ and_both (nat_le inherited n) (contains n (map cell_of names)) (grind (arith, nat_tests)) here)

  module _ (names : List Bind) (b : Bind) where
    -- what was found stays in its place
    stays_shared : (c : ℕ) → (nat_lt c inherited ≡ false → list_any (λ x. nat_eq c x) (foreign_cells inherited names) ≡ true) → shared_cell (sharing_by names) c ≡ shared_cell (sharing_by (names ++ b ∷ [])) c
    stays_shared c found = by (nat_lt c inherited) refl
      where
        place : list_any (λ x. nat_eq c x) (foreign_cells inherited names) ≡ true → position_or_len (λ x. nat_eq c x) (foreign_cells inherited names) ≡ position_or_len (λ x. nat_eq c x) (foreign_cells inherited (names ++ b ∷ []))
        place there = grows (nat_lt (cell_of b) inherited) (list_any (nat_eq (cell_of b)) (foreign_cells inherited names)) ∙ ap (position_or_len (λ x. nat_eq c x)) (sym (foreign-push inherited names b))
          where
            grows : (x y : Bool) → position_or_len (λ x. nat_eq c x) (foreign_cells inherited names) ≡ position_or_len (λ x. nat_eq c x) (if x then foreign_cells inherited names else (if y then foreign_cells inherited names else foreign_cells inherited names ++ cell_of b ∷ []))
            grows true y = refl
            grows false true = refl
            grows false false = sym (place_kept (λ x. nat_eq c x) (foreign_cells inherited names) (cell_of b ∷ []) there)

        by : (x : Bool) → nat_lt c inherited ≡ x → (if x then c else first + position_or_len (λ x. nat_eq c x) (foreign_cells inherited names)) ≡ (if x then c else first + position_or_len (λ x. nat_eq c x) (foreign_cells inherited (names ++ b ∷ [])))
        by true e = refl
        by false e = ap (λ (n : ℕ). first + n) (place (found e))

    pub bindings-push : bindings_by inherited first (names ++ b ∷ []) ≡ bindings_by inherited first names ++ shared_bind (sharing_by (names ++ b ∷ [])) b ∷ []
    bindings-push =
        map-append (shared_bind (sharing_by (names ++ b ∷ []))) names (b ∷ [])
        ∙ ap (λ (xs : List Bind). xs ++ shared_bind (sharing_by (names ++ b ∷ [])) b ∷ [])
        (sym (map_same (shared_bind (sharing_by names)) (shared_bind (sharing_by (names ++ b ∷ []))) names
        (λ k d h. ap (λ (n : ℕ). record (get_or names k d) { cell = n }) (stays_shared (get_or names k d).cell (named_found names k d h)))))

    -- ---- what becomes of one more name

    pub data Fate : Type 0 where
      inherits : cell_of b < inherited → shared_cell (sharing_by (names ++ b ∷ [])) (cell_of b) ≡ cell_of b → foreign_cells inherited (names ++ b ∷ []) ≡ foreign_cells inherited names → Fate
      known : inherited ≤ cell_of b → (rank : ℕ) → rank < length (foreign_cells inherited names) → shared_cell (sharing_by (names ++ b ∷ [])) (cell_of b) ≡ first + rank → foreign_cells inherited (names ++ b ∷ []) ≡ foreign_cells inherited names
          → list_any (nat_eq (cell_of b)) (foreign_cells inherited names) ≡ true → Fate
      fresh : inherited ≤ cell_of b → shared_cell (sharing_by (names ++ b ∷ [])) (cell_of b) ≡ first + length (foreign_cells inherited names) → foreign_cells inherited (names ++ b ∷ []) ≡ foreign_cells inherited names ++ cell_of b ∷ []
          → list_any (nat_eq (cell_of b)) (foreign_cells inherited names) ≡ false → Fate

    pub fate : Fate
    fate = by (nat_lt (cell_of b) inherited) (list_any (nat_eq (cell_of b)) (foreign_cells inherited names)) refl refl (foreign-push inherited names b)
      where
        by : (x y : Bool) → nat_lt (cell_of b) inherited ≡ x → list_any (nat_eq (cell_of b)) (foreign_cells inherited names) ≡ y
            → foreign_cells inherited (names ++ b ∷ []) ≡ (if x then foreign_cells inherited names else (if y then foreign_cells inherited names else foreign_cells inherited names ++ cell_of b ∷ [])) → Fate
        by true y e f same = inherits (grind (arith, nat_tests)) (ap (λ (z : Bool). if z then cell_of b else first + position_or_len (λ x. nat_eq (cell_of b) x) (foreign_cells inherited (names ++ b ∷ []))) e) same
        by false true e f same =
            known (grind (arith, nat_tests)) (position_or_len (λ x. nat_eq (cell_of b) x) (foreign_cells inherited names)) (place_below (λ x. nat_eq (cell_of b) x) (foreign_cells inherited names) f)
            (ap (λ (z : Bool). if z then cell_of b else first + position_or_len (λ x. nat_eq (cell_of b) x) (foreign_cells inherited (names ++ b ∷ []))) e ∙ ap (λ (xs : List ℕ). first + position_or_len (λ x. nat_eq (cell_of b) x) xs) same) same f
        by false false e f same =
            fresh (grind (arith, nat_tests))
            (ap (λ (z : Bool). if z then cell_of b else first + position_or_len (λ x. nat_eq (cell_of b) x) (foreign_cells inherited (names ++ b ∷ []))) e
            ∙ ap (λ (xs : List ℕ). first + position_or_len (λ x. nat_eq (cell_of b) x) xs) same
            ∙ ap (λ (n : ℕ). first + n) (place_new (λ x. nat_eq (cell_of b) x) (foreign_cells inherited names) (cell_of b) f (grind (arith, nat_tests))))
            same f

-- ---- ranges

pub range_in : (a n rank : ℕ) → rank < n → list_any (nat_eq (a + rank)) (range_with_len a n) ≡ true
range_in a zero rank h = absurd (omega arith)
range_in a (suc n) zero h = by (nat_eq (a + 0) a) (grind (arith, nat_tests))
  where
    by : (b : Bool) → b ≡ true → (b || list_any (nat_eq (a + 0)) (range_with_len (a + 1) n)) ≡ true
    by true e = refl
    by false e = absurd (grind arith)
range_in a (suc n) (suc rank) h =
    let same : a + 1 + rank ≡ a + suc rank = omega arith in
    let rest : list_any (nat_eq (a + suc rank)) (range_with_len (a + 1) n) ≡ true = subst (λ (k : ℕ). list_any (nat_eq k) (range_with_len (a + 1) n) ≡ true) same (range_in (a + 1) n rank (omega arith)) in
    by (nat_eq (a + suc rank) a) rest
  where
    by : (b : Bool) → list_any (nat_eq (a + suc rank)) (range_with_len (a + 1) n) ≡ true → (b || list_any (nat_eq (a + suc rank)) (range_with_len (a + 1) n)) ≡ true
    by true e = refl
    by false e = e

pub range_out : (a n k : ℕ) → a + n ≤ k → list_any (nat_eq k) (range_with_len a n) ≡ false
range_out a zero k h = refl
range_out a (suc n) k h = by (nat_eq k a) (grind (arith, nat_tests)) (range_out (a + 1) n k (omega arith))
  where
    by : (b : Bool) → b ≡ false → list_any (nat_eq k) (range_with_len (a + 1) n) ≡ false → (b || list_any (nat_eq k) (range_with_len (a + 1) n)) ≡ false
    by true e rest = absurd (grind arith)
    by false e rest = rest

pub range_push : (a n : ℕ) → range_with_len a n ++ (a + n) ∷ [] ≡ range_with_len a (suc n)
range_push a zero = let same : a + 0 ≡ a = omega arith in ap (λ (k : ℕ). k ∷ []) same
range_push a (suc n) =
    let same : a + suc n ≡ a + 1 + n = omega arith in
    ap (λ (k : ℕ). a ∷ (range_with_len (a + 1) n ++ k ∷ [])) same ∙ ap (λ (ks : List ℕ). a ∷ ks) (range_push (a + 1) n)
