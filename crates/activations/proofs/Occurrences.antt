-- The different members of a list: each stands once, and none is left out. Classes are the same where they are equal.
use Rattle.std.proofs.Common.{◌≡◌, ℕ, zero, suc, ◌+◌, Bool, true, false, ◌&&◌, List, [], ◌∷◌, ◌++◌, fold, length, nat_eq, Some, slice_get, refl, sym, ap, subst, ◌∙◌, inl, inr, arith}
use Rattle.std.specs.Prelude.{◌⊎◌, ◌||◌, if◌then◌else◌}
use Rattle.std.specs.Bool.{beq}
use Rattle.std.specs.List.{list_any}
use Rattle.std.proofs.lemmas.Bool.Decides.{nat_tests}
use Rattle.alias_class.specs.declared.bind.Bind.{Bind}
use Rattle.alias_class.specs.Classes.{Class, Entry, same_bind, same_binds, same_class, same_entry}
use Rattle.alias_class.specs.Distinct.{first_occurrences, with_member}
use Rattle.activations.proofs.FirstPlaces.{and_left, and_right}
use Rattle.activations.proofs.Blocks.{IsBehind, append_at_left, append_at_right, in_either}

-- ---- the same classes

beq_sound : (a b : Bool) → beq a b ≡ true → a ≡ b
beq_sound true true h = refl
beq_sound true false h = absurd (grind arith)
beq_sound false true h = absurd (grind arith)
beq_sound false false h = refl

beq_reflexive : (a : Bool) → beq a a ≡ true
beq_reflexive true = refl
beq_reflexive false = refl

abbrev bind_of : Bool → ℕ → Bind
bind_of whole cell = record { whole = whole; cell = cell }

bind_sound : (a b : Bind) → same_bind a b ≡ true → a ≡ b
bind_sound a b h =
    let whole = beq_sound a.whole b.whole (and_left (beq a.whole b.whole) (nat_eq a.cell b.cell) h) in
    let cell : a.cell ≡ b.cell = grind (arith, nat_tests, and_right (beq a.whole b.whole) (nat_eq a.cell b.cell) h) in
    ap (λ (w : Bool). bind_of w a.cell) whole ∙ ap (λ (n : ℕ). bind_of b.whole n) cell

both : (a b : Bool) → a ≡ true → b ≡ true → a && b ≡ true
both true b h g = g
both false b h g = h

nat_reflexive : (n : ℕ) → nat_eq n n ≡ true
nat_reflexive n = grind (arith, nat_tests)

binds_sound : (bs cs : List Bind) → same_binds bs cs ≡ true → bs ≡ cs
binds_sound [] [] h = refl
binds_sound [] (b ∷ bs) h = absurd (grind arith)
binds_sound (a ∷ rest) [] h = absurd (grind arith)
binds_sound (a ∷ rest) (b ∷ others) h =
    ap (λ (x : Bind). x ∷ rest) (bind_sound a b (and_left (same_bind a b) (same_binds rest others) h)) ∙ ap (λ (xs : List Bind). b ∷ xs) (binds_sound rest others (and_right (same_bind a b) (same_binds rest others) h))

binds_reflexive : (bs : List Bind) → same_binds bs bs ≡ true
binds_reflexive [] = refl
binds_reflexive (b ∷ rest) = both (same_bind b b) (same_binds rest rest) (both (beq b.whole b.whole) (nat_eq b.cell b.cell) (beq_reflexive b.whole) (nat_reflexive b.cell)) (binds_reflexive rest)

abbrev entry_of : ℕ → ℕ → List Bind → Entry
entry_of routine site bindings = record { routine = routine; site = site; bindings = bindings }

entry_sound : (d e : Entry) → same_entry d e ≡ true → d ≡ e
entry_sound d e h =
    let first = and_left (nat_eq d.routine e.routine && nat_eq d.site e.site) (same_binds d.bindings e.bindings) h in
    let routine : d.routine ≡ e.routine = grind (arith, nat_tests, and_left (nat_eq d.routine e.routine) (nat_eq d.site e.site) first) in
    let site : d.site ≡ e.site = grind (arith, nat_tests, and_right (nat_eq d.routine e.routine) (nat_eq d.site e.site) first) in
    let bindings = binds_sound d.bindings e.bindings (and_right (nat_eq d.routine e.routine && nat_eq d.site e.site) (same_binds d.bindings e.bindings) h) in
    ap (λ (n : ℕ). entry_of n d.site d.bindings) routine ∙ ap (λ (n : ℕ). entry_of e.routine n d.bindings) site ∙ ap (λ (bs : List Bind). entry_of e.routine e.site bs) bindings

pub same_class_sound : (c d : Class) → same_class c d ≡ true → c ≡ d
same_class_sound [] [] h = refl
same_class_sound [] (e ∷ d) h = absurd (grind arith)
same_class_sound (e ∷ c) [] h = absurd (grind arith)
same_class_sound (e ∷ c) (g ∷ d) h =
    ap (λ (x : Entry). x ∷ c) (entry_sound e g (and_left (same_entry e g) (same_class c d) h)) ∙ ap (λ (xs : Class). g ∷ xs) (same_class_sound c d (and_right (same_entry e g) (same_class c d) h))

pub same_class_reflexive : (c : Class) → same_class c c ≡ true
same_class_reflexive [] = refl
same_class_reflexive (e ∷ c) =
    both (same_entry e e) (same_class c c)
    (both (nat_eq e.routine e.routine && nat_eq e.site e.site) (same_binds e.bindings e.bindings) (both (nat_eq e.routine e.routine) (nat_eq e.site e.site) (nat_reflexive e.routine) (nat_reflexive e.site)) (binds_reflexive e.bindings))
    (same_class_reflexive c)

-- ---- different members

module _ {A : Type 0} (same : A → A → Bool) (reflexive : (x : A) → same x x ≡ true) (sound : (x y : A) → same x y ≡ true → x ≡ y) where
  -- an element of a list, by its number
  abbrev pub Stands : List A → A → Type 0
  Stands xs x = (n : ℕ) × (slice_get xs n ≡ Some x)

  abbrev pub Once : List A → Type 0
  Once xs = (i j : ℕ) (y : A) → slice_get xs i ≡ Some y → slice_get xs j ≡ Some y → i ≡ j

  any_by : (x y : A) (xs : List A) → (list_any (same x) xs ≡ true → Stands xs x) → (b : Bool) → same x y ≡ b → b || list_any (same x) xs ≡ true → Stands (y ∷ xs) x
  any_by x y xs rest true is h = (0, ap (λ (z : A). Some z) (sym (sound x y is)))
  any_by x y xs rest false is h = let at = rest h in (suc at.0, at.1)

  any_stands : (x : A) (xs : List A) → list_any (same x) xs ≡ true → Stands xs x
  any_stands x [] h = absurd (grind arith)
  any_stands x (y ∷ xs) h = any_by x y xs (any_stands x xs) (same x y) refl h

  or_true : (b : Bool) → b || true ≡ true
  or_true true = refl
  or_true false = refl

  some_is : (y x : A) → Some y ≡ Some x → y ≡ x
  some_is y x h = grind arith

  stands_any : (x : A) (xs : List A) (n : ℕ) → slice_get xs n ≡ Some x → list_any (same x) xs ≡ true
  stands_any x [] n at = absurd (grind arith)
  stands_any x (y ∷ xs) zero at = ap (λ (b : Bool). b || list_any (same x) xs) (ap (same x) (some_is y x at) ∙ reflexive x)
  stands_any x (y ∷ xs) (suc n) at = ap (λ (b : Bool). same x y || b) (stands_any x xs n at) ∙ or_true (same x y)

  -- ---- one more

  one_is : (x y : A) (n : ℕ) → slice_get (x ∷ []) n ≡ Some y → (n ≡ 0) × (x ≡ y)
  one_is x y zero at = (refl, some_is x y at)
  one_is x y (suc n) at = absurd (grind arith)

  false_true : {b : Bool} → b ≡ true → b ≡ false → ⊥
  false_true is other = absurd (grind (arith, is, other))

  last : (xs : List A) (x : A) → Once xs → ((n : ℕ) → slice_get xs n ≡ Some x → ⊥) → (i j : ℕ) (y : A)
      → (slice_get xs i ≡ Some y) ⊎ IsBehind (length xs) (x ∷ []) i y → (slice_get xs j ≡ Some y) ⊎ IsBehind (length xs) (x ∷ []) j y → i ≡ j
  last xs x once new i j y (inl at_i) (inl at_j) = once i j y at_i at_j
  last xs x once new i j y (inl at_i) (inr at_j) = absurd (new i (subst (λ (z : A). slice_get xs i ≡ Some z) (sym (one_is x y at_j.place at_j.is).1) at_i))
  last xs x once new i j y (inr at_i) (inl at_j) = absurd (new j (subst (λ (z : A). slice_get xs j ≡ Some z) (sym (one_is x y at_i.place at_i.is).1) at_j))
  last xs x once new i j y (inr at_i) (inr at_j) = omega (arith, at_i.number, at_j.number, (one_is x y at_i.place at_i.is).0, (one_is x y at_j.place at_j.is).0)

  more_once_by : (xs : List A) (x : A) → Once xs → (b : Bool) → list_any (same x) xs ≡ b → Once (if b then xs else xs ++ x ∷ [])
  more_once_by xs x once true is i j y at_i at_j = once i j y at_i at_j
  more_once_by xs x once false is i j y at_i at_j = last xs x once (λ n h. false_true (stands_any x xs n h) is) i j y (in_either xs (x ∷ []) i y at_i) (in_either xs (x ∷ []) j y at_j)

  more_once : (xs : List A) (x : A) → Once xs → Once (with_member same xs x)
  more_once xs x once i j y at_i at_j = more_once_by xs x once (list_any (same x) xs) refl i j y at_i at_j

  keeps_by : (xs : List A) (x y : A) (b : Bool) → Stands xs y → Stands (if b then xs else xs ++ x ∷ []) y
  keeps_by xs x y true at = at
  keeps_by xs x y false at = (at.0, append_at_left xs (x ∷ []) at.0 y at.1)

  gets_by : (xs : List A) (x : A) (b : Bool) → list_any (same x) xs ≡ b → Stands (if b then xs else xs ++ x ∷ []) x
  gets_by xs x true is = any_stands x xs is
  gets_by xs x false is = (length xs + 0, append_at_right xs (x ∷ []) 0 x refl)

  -- ---- all

  fold_once : (before xs : List A) → Once before → Once (fold (with_member same) before xs)
  fold_once before [] once i j y at_i at_j = once i j y at_i at_j
  fold_once before (x ∷ xs) once i j y at_i at_j = fold_once (with_member same before x) xs (more_once before x once) i j y at_i at_j

  pub occurrences_once : (xs : List A) → Once (first_occurrences same xs)
  occurrences_once xs i j y at_i at_j = fold_once [] xs (λ m n z at_m at_n. absurd (grind arith)) i j y at_i at_j

  fold_keeps : (before xs : List A) (y : A) → Stands before y → Stands (fold (with_member same) before xs) y
  fold_keeps before [] y at = at
  fold_keeps before (x ∷ xs) y at = fold_keeps (with_member same before x) xs y (keeps_by before x y (list_any (same x) before) at)

  fold_gets : (before xs : List A) (n : ℕ) (y : A) → slice_get xs n ≡ Some y → Stands (fold (with_member same) before xs) y
  fold_gets before [] n y at = absurd (grind arith)
  fold_gets before (x ∷ xs) zero y at =
      fold_keeps (with_member same before x) xs y (subst (λ (z : A). Stands (with_member same before x) z) (some_is x y at) (gets_by before x (list_any (same x) before) refl))
  fold_gets before (x ∷ xs) (suc n) y at = fold_gets (with_member same before x) xs n y at

  pub occurs : (xs : List A) (n : ℕ) (y : A) → slice_get xs n ≡ Some y → Stands (first_occurrences same xs) y
  occurs xs n y at = fold_gets [] xs n y at
