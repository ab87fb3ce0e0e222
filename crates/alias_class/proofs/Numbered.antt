-- The foreign cells of a callee are numbered in the order in which its variable parameters first name them.
use Rattle.std.proofs.Common.{◌≡◌, ℕ, suc, ◌+◌, ◌<◌, ◌≤◌, Bool, true, false, List, [], ◌∷◌, ◌++◌, length, get_or, map, nat_eq, nat_lt, refl, sym, ap, ◌∙◌, subst, arith}
use Rattle.std.specs.List.{All, filter, list_any, range_with_len}
use Rattle.std.specs.Prelude.{nat_le, slice_index, if◌then◌else◌}
use Rattle.std.proofs.lemmas.Bool.Decides.{nat_tests}
use Rattle.std.proofs.lemmas.Grind.{common_steps}
use Rattle.std.proofs.lemmas.List.{append-nil, append_assoc, length-map, map-append}
use Rattle.std.proofs.lemmas.List.Elements.{All-nil, All-push, All-weaker}
use Rattle.std.proofs.lemmas.List.Folds.{list_any_none}
use Rattle.alias_class.specs.declared.bind.Bind.{Bind}
use Rattle.alias_class.specs.Calls.{shared_bind, shared_cell}
use Rattle.alias_class.specs.Cells.{cell_of, first_naming, foreign_cells}
use Rattle.alias_class.specs.Distinct.{with_member}
use Rattle.alias_class.specs.Passings.{bindings_by, foreign_after, namers_after, namers_by}
use Rattle.alias_class.proofs.Lists.{and_right, any_mapped, contains-filter, member_at}
use Rattle.alias_class.proofs.Occurrences.{contained}
use Rattle.alias_class.proofs.Passed.{Fate, bindings-push, fate, foreign-push, map_same, place_kept, place_new, range_in, range_out, range_push, sharing_by}
use Rattle.alias_class.proofs.Passed.Fate.{inherits, known, fresh}

-- what holds of the empty list, and of a list with one more where it holds of that without it, holds of each
pub by_ends : {A : Type 0} (P : List A → Type 0) → P [] → ((xs : List A) (x : A) → P xs → P (xs ++ x ∷ [])) → (xs : List A) → P xs
by_ends {A} P none more xs = onwards [] xs none
  where
    onwards : (done xs : List A) → P done → P (done ++ xs)
    onwards done [] p = subst P (sym (append-nil done)) p
    onwards done (x ∷ xs) p = subst P (append_assoc done (x ∷ []) xs) (onwards (done ++ x ∷ []) xs (more done x p))

-- ---- the variable parameters that first name a foreign cell, with one more name

namers_kept : (inherited : ℕ) (foreign namers : List ℕ) (b : Bind) (formal : ℕ) → cell_of b < inherited → namers_after inherited foreign namers b formal ≡ namers
namers_kept inherited foreign namers b formal h = by (nat_lt (cell_of b) inherited) (grind (arith, nat_tests))
  where
    by : (x : Bool) → x ≡ true → (if x then namers else (if list_any (nat_eq (cell_of b)) foreign then namers else namers ++ formal ∷ [])) ≡ namers
    by true e = refl
    by false e = absurd (grind arith)

namers_known : (inherited : ℕ) (foreign namers : List ℕ) (b : Bind) (formal : ℕ) → list_any (nat_eq (cell_of b)) foreign ≡ true → namers_after inherited foreign namers b formal ≡ namers
namers_known inherited foreign namers b formal e = by (nat_lt (cell_of b) inherited) (list_any (nat_eq (cell_of b)) foreign) e
  where
    by : (x y : Bool) → y ≡ true → (if x then namers else (if y then namers else namers ++ formal ∷ [])) ≡ namers
    by true y e = refl
    by false true e = refl
    by false false e = absurd (grind arith)

namers_new : (inherited : ℕ) (foreign namers : List ℕ) (b : Bind) (formal : ℕ) → inherited ≤ cell_of b → list_any (nat_eq (cell_of b)) foreign ≡ false → namers_after inherited foreign namers b formal ≡ namers ++ formal ∷ []
namers_new inherited foreign namers b formal h e = by (nat_lt (cell_of b) inherited) (list_any (nat_eq (cell_of b)) foreign) (grind (arith, nat_tests)) e
  where
    by : (x y : Bool) → x ≡ false → y ≡ false → (if x then namers else (if y then namers else namers ++ formal ∷ [])) ≡ namers ++ formal ∷ []
    by false false p q = refl
    by true y p q = absurd (grind arith)
    by false true p q = absurd (grind arith)

-- ---- the foreign cells with one more name, by its cell

after_below : (first : ℕ) (xs : List ℕ) (b : Bind) → cell_of b < first → foreign_after first xs b ≡ xs
after_below first xs b h = by (nat_lt (cell_of b) first) (grind (arith, nat_tests))
  where
    by : (x : Bool) → x ≡ true → (if x then xs else with_member nat_eq xs (cell_of b)) ≡ xs
    by true e = refl
    by false e = absurd (grind arith)

after_known : (first : ℕ) (xs : List ℕ) (b : Bind) → list_any (nat_eq (cell_of b)) xs ≡ true → foreign_after first xs b ≡ xs
after_known first xs b e = by (nat_lt (cell_of b) first) (list_any (nat_eq (cell_of b)) xs) e
  where
    by : (x y : Bool) → y ≡ true → (if x then xs else (if y then xs else xs ++ cell_of b ∷ [])) ≡ xs
    by true y e = refl
    by false true e = refl
    by false false e = absurd (grind arith)

after_new : (first : ℕ) (xs : List ℕ) (b : Bind) → first ≤ cell_of b → list_any (nat_eq (cell_of b)) xs ≡ false → foreign_after first xs b ≡ xs ++ cell_of b ∷ []
after_new first xs b h e = by (nat_lt (cell_of b) first) (list_any (nat_eq (cell_of b)) xs) (grind (arith, nat_tests)) e
  where
    by : (x y : Bool) → x ≡ false → y ≡ false → (if x then xs else (if y then xs else xs ++ cell_of b ∷ [])) ≡ xs ++ cell_of b ∷ []
    by false false p q = refl
    by true y p q = absurd (grind arith)
    by false true p q = absurd (grind arith)

module _ (inherited first : ℕ) (behind : inherited ≤ first) where
  pub record IsNumbered (names : List Bind) : Type 0 where
    pub numbered : foreign_cells first (bindings_by inherited first names) ≡ range_with_len first (length (foreign_cells inherited names))
    pub below : All (λ (b : Bind). b.cell < first + length (foreign_cells inherited names)) (bindings_by inherited first names)

  module _ (names : List Bind) (b : Bind) (so_far : IsNumbered names) where
    foreign_made : foreign_cells first (bindings_by inherited first (names ++ b ∷ [])) ≡ foreign_after first (range_with_len first (length (foreign_cells inherited names))) (shared_bind (sharing_by inherited first (names ++ b ∷ [])) b)
    foreign_made =
        let made = shared_bind (sharing_by inherited first (names ++ b ∷ [])) b in
        ap (foreign_cells first) (bindings-push inherited first names b)
        ∙ foreign-push first (bindings_by inherited first names) made
        ∙ ap (λ (xs : List ℕ). foreign_after first xs made) so_far.numbered

    -- from what becomes of the name
    from_parts : (n : ℕ) → length (foreign_cells inherited (names ++ b ∷ [])) ≡ n → length (foreign_cells inherited names) ≤ n → shared_cell (sharing_by inherited first (names ++ b ∷ [])) (cell_of b) < first + n
        → foreign_after first (range_with_len first (length (foreign_cells inherited names))) (shared_bind (sharing_by inherited first (names ++ b ∷ [])) b) ≡ range_with_len first n → IsNumbered (names ++ b ∷ [])
    from_parts n long grows within same = record {
      numbered = foreign_made ∙ same ∙ ap (range_with_len first) (sym long);
      below =
          let made = shared_bind (sharing_by inherited first (names ++ b ∷ [])) b in
          let limit : ℕ → Bind → Type 0 = λ m x. x.cell < first + m in
          subst (All (limit (length (foreign_cells inherited (names ++ b ∷ []))))) (sym (bindings-push inherited first names b))
          (All-push (limit (length (foreign_cells inherited (names ++ b ∷ [])))) (bindings_by inherited first names) made
          (All-weaker (limit (length (foreign_cells inherited names))) (limit (length (foreign_cells inherited (names ++ b ∷ [])))) (λ x h. omega arith) (bindings_by inherited first names) so_far.below)
          (omega arith));
    }

    pub more : IsNumbered (names ++ b ∷ [])
    more = by (fate inherited first names b)
      where
        by : Fate inherited first names b → IsNumbered (names ++ b ∷ [])
        by (inherits less cell foreign) =
            let n = length (foreign_cells inherited names) in
            from_parts n (ap length foreign) (omega arith) (omega arith)
            (after_below first (range_with_len first n) (shared_bind (sharing_by inherited first (names ++ b ∷ [])) b) (omega arith))
        by (known behind' rank within cell foreign there) =
            let n = length (foreign_cells inherited names) in
            from_parts n (ap length foreign) (omega arith) (omega arith)
            (after_known first (range_with_len first n) (shared_bind (sharing_by inherited first (names ++ b ∷ [])) b) (subst (λ (k : ℕ). list_any (nat_eq k) (range_with_len first n) ≡ true) (sym cell) (range_in first n rank within)))
        by (fresh behind' cell foreign none) =
            let n = length (foreign_cells inherited names) in
            let long : length (foreign_cells inherited (names ++ b ∷ [])) ≡ suc n = ap length foreign ∙ grind (arith, common_steps) in
            from_parts (suc n) long (omega arith) (omega arith)
            (after_new first (range_with_len first n) (shared_bind (sharing_by inherited first (names ++ b ∷ [])) b) (omega arith) (range_out first n (shared_cell (sharing_by inherited first (names ++ b ∷ [])) (cell_of b)) (omega arith))
            ∙ ap (λ (k : ℕ). range_with_len first n ++ k ∷ []) cell ∙ range_push first n)

  pub numbered_all : (names : List Bind) → IsNumbered names
  numbered_all = by_ends IsNumbered (record { numbered = refl; below = All-nil (λ (b : Bind). b.cell < first + 0) }) more

  -- ---- which variable parameter first names a foreign cell

  module _ (formals : List ℕ) (names : List Bind) (b : Bind) where
    -- a foreign cell that was there is named first where it was
    naming_kept : (k : ℕ) (d : ℕ) → k < length (range_with_len first (length (foreign_cells inherited names)))
        → first_naming formals (bindings_by inherited first names) (get_or (range_with_len first (length (foreign_cells inherited names))) k d) ≡ first_naming formals (bindings_by inherited first (names ++ b ∷ [])) (get_or (range_with_len first (length (foreign_cells inherited names))) k d)
    naming_kept k d h =
        let bs = bindings_by inherited first names in
        let made = shared_bind (sharing_by inherited first (names ++ b ∷ [])) b in
        let cells = range_with_len first (length (foreign_cells inherited names)) in
        let cell = get_or cells k 0 in
        let foreign : list_any (nat_eq cell) (foreign_cells first bs) ≡ true = subst (λ (xs : List ℕ). list_any (nat_eq cell) xs ≡ true) (sym (numbered_all names).numbered) (member_at cells k h) in
        let kept = filter (λ c. nat_le first c) (map cell_of bs) in
        let named : list_any (λ x. nat_eq cell (cell_of x)) bs ≡ true =
        sym (any_mapped cell_of (nat_eq cell) bs) ∙ and_right (nat_le first cell) (list_any (nat_eq cell) (map cell_of bs)) (sym (contains-filter (λ c. nat_le first c) cell (map cell_of bs)) ∙ contained kept cell foreign) in
        let same : get_or cells k d ≡ cell = grind (arith, common_steps) in
        subst (λ (n : ℕ). first_naming formals bs n ≡ first_naming formals (bindings_by inherited first (names ++ b ∷ [])) n) (sym same)
        (ap (slice_index formals) (sym (place_kept (λ x. nat_eq cell (cell_of x)) bs (made ∷ []) named)) ∙ ap (λ (xs : List Bind). first_naming formals xs cell) (sym (bindings-push inherited first names b)))

    naming_same : map (first_naming formals (bindings_by inherited first (names ++ b ∷ []))) (range_with_len first (length (foreign_cells inherited names))) ≡ namers_by first formals (bindings_by inherited first names)
    naming_same =
        sym (map_same (first_naming formals (bindings_by inherited first names)) (first_naming formals (bindings_by inherited first (names ++ b ∷ []))) (range_with_len first (length (foreign_cells inherited names))) naming_kept)
        ∙ ap (map (first_naming formals (bindings_by inherited first names))) (sym (numbered_all names).numbered)

    -- one that is new is named first by the new name
    naming_new : shared_cell (sharing_by inherited first (names ++ b ∷ [])) (cell_of b) ≡ first + length (foreign_cells inherited names)
        → first_naming formals (bindings_by inherited first (names ++ b ∷ [])) (first + length (foreign_cells inherited names)) ≡ slice_index formals (length names)
    naming_new cell =
        let bs = bindings_by inherited first names in
        let made = shared_bind (sharing_by inherited first (names ++ b ∷ [])) b in
        let n = first + length (foreign_cells inherited names) in
        let none : list_any (λ x. nat_eq n (cell_of x)) bs ≡ false = list_any_none (λ x. nat_eq n (cell_of x)) bs (All-weaker (λ (x : Bind). x.cell < n) (λ (x : Bind). nat_eq n (cell_of x) ≡ false) (λ x h. grind (arith, nat_tests)) bs (numbered_all names).below) in
        let here : nat_eq n (cell_of made) ≡ true = grind (arith, nat_tests) in
        ap (λ (xs : List Bind). first_naming formals xs n) (bindings-push inherited first names b)
        ∙ ap (slice_index formals) (place_new (λ x. nat_eq n (cell_of x)) bs made none here ∙ length-map names (shared_bind (sharing_by inherited first names)))

    pub namers-push : namers_by first formals (bindings_by inherited first (names ++ b ∷ [])) ≡ namers_after inherited (foreign_cells inherited names) (namers_by first formals (bindings_by inherited first names)) b (slice_index formals (length names))
    namers-push = ap (map (first_naming formals (bindings_by inherited first (names ++ b ∷ [])))) (numbered_all (names ++ b ∷ [])).numbered ∙ by (fate inherited first names b)
      where
        by : Fate inherited first names b → map (first_naming formals (bindings_by inherited first (names ++ b ∷ []))) (range_with_len first (length (foreign_cells inherited (names ++ b ∷ []))))
            ≡ namers_after inherited (foreign_cells inherited names) (namers_by first formals (bindings_by inherited first names)) b (slice_index formals (length names))
        by (inherits less cell foreign) = ap (λ (xs : List ℕ). map (first_naming formals (bindings_by inherited first (names ++ b ∷ []))) (range_with_len first (length xs))) foreign ∙ naming_same ∙ sym (namers_kept inherited (foreign_cells inherited names) (namers_by first formals (bindings_by inherited first names)) b (slice_index formals (length names)) less)
        by (known behind' rank within cell foreign there) = ap (λ (xs : List ℕ). map (first_naming formals (bindings_by inherited first (names ++ b ∷ []))) (range_with_len first (length xs))) foreign ∙ naming_same ∙ sym (namers_known inherited (foreign_cells inherited names) (namers_by first formals (bindings_by inherited first names)) b (slice_index formals (length names)) there)
        by (fresh behind' cell foreign none) =
            let n = length (foreign_cells inherited names) in
            let bs = bindings_by inherited first (names ++ b ∷ []) in
            let long : length (foreign_cells inherited (names ++ b ∷ [])) ≡ suc n = ap length foreign ∙ grind (arith, common_steps) in
            ap (λ (m : ℕ). map (first_naming formals bs) (range_with_len first m)) long
            ∙ ap (map (first_naming formals bs)) (sym (range_push first n))
            ∙ map-append (first_naming formals bs) (range_with_len first n) ((first + n) ∷ [])
            ∙ ap (λ (xs : List ℕ). xs ++ first_naming formals bs (first + n) ∷ []) naming_same
            ∙ ap (λ (m : ℕ). namers_by first formals (bindings_by inherited first names) ++ m ∷ []) (naming_new cell)
            ∙ sym (namers_new inherited (foreign_cells inherited names) (namers_by first formals (bindings_by inherited first names)) b (slice_index formals (length names)) behind' none)
