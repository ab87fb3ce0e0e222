-- A key is added to a table where it is new.
use Rattle.std.proofs.Common.{◌≡◌, ℕ, zero, suc, ◌+◌, ◌<◌, ◌≤◌, ◌^◌, Bool, true, false, ◌&&◌, ◌||◌, List, [], ◌∷◌, ◌++◌, length, map, Option, Some, nat_eq, refl, sym, ap, ◌∙◌, subst, arith}
use Rattle.std.specs.Bool.{beq}
use Rattle.std.specs.Cmp.Lexicographic.{pointwise}
use Rattle.std.specs.List.{All, list_any}
use Rattle.std.specs.Option.{unwrap_or}
use Rattle.std.specs.Prelude.{slice_get, if◌then◌else◌}
use Rattle.std.proofs.lemmas.Bool.Decides.{nat_tests}
use Rattle.std.proofs.lemmas.Grind.{common_steps}
use Rattle.std.proofs.lemmas.List.{map-append}
use Rattle.std.proofs.lemmas.List.Elements.{All-push}
use Rattle.std.proofs.lemmas.Option.{slice_get_within}
use Rattle.alias_class.specs.declared.bind.Bind.{Bind}
use Rattle.alias_class.specs.declared.classes.Row.{Row}
use Rattle.alias_class.specs.declared.key.Key.{Key}
use Rattle.alias_class.specs.declared.outline.Outline.{Outline}
use Rattle.alias_class.specs.Cells.{IsClass}
use Rattle.alias_class.specs.Classes.{Class, Entry, class_at, same_bind, same_binds, same_class, same_entry}
use Rattle.alias_class.specs.Distinct.{with_member}
use Rattle.alias_class.specs.Tables.{IsKept, class_of_key, classes_of, row_of, with_key}
use Rattle.alias_class.proofs.Lists.{and_both, and_false, and_left, and_right, found}
use Rattle.alias_class.proofs.Tabled.{behind, classes_of-push, get_before, get_end, length-classes_of, stays}

-- ---- what is the same is equal

beq_is : (a b : Bool) → beq a b ≡ true → a ≡ b
beq_is true true e = refl
beq_is false false e = refl
beq_is true false e = absurd (grind arith)
beq_is false true e = absurd (grind arith)

beq_same : (a : Bool) → beq a a ≡ true
beq_same true = refl
beq_same false = refl

bind_is : (a b : Bind) → same_bind a b ≡ true → a ≡ b
bind_is a b e =
    let whole = beq_is a.whole b.whole (and_left (beq a.whole b.whole) (nat_eq a.cell b.cell) e) in
    let test = and_right (beq a.whole b.whole) (nat_eq a.cell b.cell) e in
    let cell : a.cell ≡ b.cell = grind (arith, nat_tests) in
    ap (λ (w : Bool). record { whole = w; cell = a.cell }) whole ∙ ap (λ (n : ℕ). record { whole = b.whole; cell = n }) cell

bind_same : (a : Bind) → same_bind a a ≡ true
bind_same a = and_both (beq a.whole a.whole) (nat_eq a.cell a.cell) (beq_same a.whole) (grind (arith, nat_tests))

binds_are : (xs ys : List Bind) → same_binds xs ys ≡ true → xs ≡ ys
binds_are [] [] e = refl
binds_are [] (b ∷ ys) e = absurd (grind arith)
binds_are (a ∷ xs) [] e = absurd (grind arith)
binds_are (a ∷ xs) (b ∷ ys) e =
    ap (λ (x : Bind). x ∷ xs) (bind_is a b (and_left (same_bind a b) (same_binds xs ys) e))
    ∙ ap (λ (zs : List Bind). b ∷ zs) (binds_are xs ys (and_right (same_bind a b) (same_binds xs ys) e))

binds_same : (xs : List Bind) → same_binds xs xs ≡ true
binds_same [] = refl
binds_same (a ∷ xs) = and_both (same_bind a a) (same_binds xs xs) (bind_same a) (binds_same xs)

entry_is : (d e : Entry) → same_entry d e ≡ true → d ≡ e
entry_is d e h =
    let numbers = and_left (nat_eq d.routine e.routine && nat_eq d.site e.site) (same_binds d.bindings e.bindings) h in
    let left = and_left (nat_eq d.routine e.routine) (nat_eq d.site e.site) numbers in
    let right = and_right (nat_eq d.routine e.routine) (nat_eq d.site e.site) numbers in
    let routine : d.routine ≡ e.routine = grind (arith, nat_tests) in
    let site : d.site ≡ e.site = grind (arith, nat_tests) in
    let bindings = binds_are d.bindings e.bindings (and_right (nat_eq d.routine e.routine && nat_eq d.site e.site) (same_binds d.bindings e.bindings) h) in
    ap (λ (n : ℕ). record { routine = n; site = d.site; bindings = d.bindings }) routine
    ∙ ap (λ (n : ℕ). record { routine = e.routine; site = n; bindings = d.bindings }) site
    ∙ ap (λ (xs : List Bind). record { routine = e.routine; site = e.site; bindings = xs }) bindings

entry_same : (d : Entry) → same_entry d d ≡ true
entry_same d = and_both (nat_eq d.routine d.routine && nat_eq d.site d.site) (same_binds d.bindings d.bindings) (and_both (nat_eq d.routine d.routine) (nat_eq d.site d.site) (grind (arith, nat_tests)) (grind (arith, nat_tests))) (binds_same d.bindings)

pub class_is : (c d : Class) → same_class c d ≡ true → c ≡ d
class_is [] [] h = refl
class_is [] (e ∷ d) h = absurd (grind arith)
class_is (e ∷ c) [] h = absurd (grind arith)
class_is (e ∷ c) (g ∷ d) h =
    ap (λ (x : Entry). x ∷ c) (entry_is e g (and_left (same_entry e g) (same_class c d) h))
    ∙ ap (λ (xs : Class). g ∷ xs) (class_is c d (and_right (same_entry e g) (same_class c d) h))

pub class_same : (c : Class) → same_class c c ≡ true
class_same [] = refl
class_same (e ∷ c) = and_both (same_entry e e) (same_class c c) (entry_same e) (class_same c)

-- ---- keys and their classes

-- as the code compares keys
abbrev pub same_key : Key → Key → Bool
same_key a b = nat_eq a.parent b.parent && (nat_eq a.routine b.routine && (nat_eq a.site b.site && pointwise same_bind a.bindings.items b.bindings.items))

binds_alike : (xs ys : List Bind) → pointwise same_bind xs ys ≡ same_binds xs ys
binds_alike [] [] = refl
binds_alike [] (b ∷ ys) = refl
binds_alike (a ∷ xs) [] = refl
binds_alike (a ∷ xs) (b ∷ ys) = ap (λ (x : Bool). same_bind a b && x) (binds_alike xs ys)

rearranged : (a b c d : Bool) → (a && (b && (c && d))) ≡ (((b && c) && d) && a)
rearranged true true true true = refl
rearranged true true true false = refl
rearranged true true false d = refl
rearranged true false c d = refl
rearranged false b c d = sym (and_false ((b && c) && d))

any_along : {A B : Type 0} (p : A → Bool) (q : B → Bool) (xs : List A) (ys : List B) → length xs ≡ length ys → ((i : ℕ) (x : A) → slice_get xs i ≡ Some x → (y : B) × (slice_get ys i ≡ Some y) × (p x ≡ q y)) → list_any p xs ≡ list_any q ys
any_along p q [] [] e h = refl
any_along p q [] (y ∷ ys) e h = absurd (omega arith)
any_along p q (x ∷ xs) [] e h = absurd (omega arith)
any_along {A} {B} p q (x ∷ xs) (y ∷ ys) e h =
    let first = h 0 x refl in
    let same : y ≡ first.0 = (let at : ◌≡◌ {A = Option B} (Some y) (Some first.0) = first.1 in cc) in
    let here : p x ≡ q y = first.2 ∙ ap q (sym same) in
    ap (λ (b : Bool). b || list_any p xs) here ∙ ap (λ (b : Bool). q y || b) (any_along p q xs ys (omega arith) (λ i z at. h (suc i) z at))

any_at : {A : Type 0} (test : A → Bool) (xs : List A) (i : ℕ) (x : A) → slice_get xs i ≡ Some x → test x ≡ true → list_any test xs ≡ true
any_at test [] i x e h = absurd (grind arith)
any_at {A} test (y ∷ xs) zero x e h = by (test y) (let same : y ≡ x = cc in ap test same ∙ h)
  where
    by : (b : Bool) → b ≡ true → (b || list_any test xs) ≡ true
    by true p = refl
    by false p = absurd (grind arith)
any_at {A} test (y ∷ xs) (suc i) x e h = by (test y) (any_at test xs i x e h)
  where
    by : (b : Bool) → list_any test xs ≡ true → (b || list_any test xs) ≡ true
    by true p = refl
    by false p = p

class_read : (classes : List Class) (i : ℕ) (c : Class) → slice_get classes i ≡ Some c → class_at classes i ≡ c
class_read classes i c e = ap (λ (o : Option Class). unwrap_or o []) e

module _ (o : Outline) (keys : List Key) (rows : List Row) (kept : IsKept o keys rows) where
  parent_same : (m n : ℕ) → m < length (classes_of keys) → n < length (classes_of keys) → nat_eq m n ≡ same_class (class_at (classes_of keys) m) (class_at (classes_of keys) n)
  parent_same m n h k = by (nat_eq m n) (same_class (class_at (classes_of keys) m) (class_at (classes_of keys) n)) refl refl
    where
      by : (a b : Bool) → nat_eq m n ≡ a → same_class (class_at (classes_of keys) m) (class_at (classes_of keys) n) ≡ b → a ≡ b
      by true b e f =
          let same : m ≡ n = grind (arith, nat_tests) in
          sym (class_same (class_at (classes_of keys) m)) ∙ ap (λ (i : ℕ). same_class (class_at (classes_of keys) m) (class_at (classes_of keys) i)) same ∙ f
      by false true e f = absurd (let same = kept.distinct m n h k f in grind (arith, nat_tests))
      by false false e f = refl

  -- two keys are the same where their classes are
  pub key_same : (key other : Key) → key.parent < length (classes_of keys) → other.parent < length (classes_of keys) → same_key key other ≡ same_class (class_of_key (classes_of keys) key) (class_of_key (classes_of keys) other)
  key_same key other h k =
      let binds = binds_alike key.bindings.items other.bindings.items in
      let parents = parent_same key.parent other.parent h k in
      rearranged (nat_eq key.parent other.parent) (nat_eq key.routine other.routine) (nat_eq key.site other.site) (pointwise same_bind key.bindings.items other.bindings.items)
      ∙ ap (λ (x : Bool). ((nat_eq key.routine other.routine && nat_eq key.site other.site) && x) && nat_eq key.parent other.parent) binds
      ∙ ap (λ (x : Bool). ((nat_eq key.routine other.routine && nat_eq key.site other.site) && same_binds key.bindings.items other.bindings.items) && x) parents

  -- the class of a key that is there
  pub class_there : (i : ℕ) (key : Key) → slice_get keys i ≡ Some key → slice_get (classes_of keys) (suc i) ≡ Some (class_of_key (classes_of keys) key)
  class_there i key e =
      let before = kept.parents i key e in
      let at : suc i ≡ 1 + i = omega arith in
      ap (slice_get (classes_of keys)) at ∙ behind ([] ∷ []) keys i key e (omega arith)

  pub parent_there : (i : ℕ) (key : Key) → slice_get keys i ≡ Some key → key.parent < length (classes_of keys)
  parent_there i key e = let before = kept.parents i key e in let within = slice_get_within keys i key e in let long = length-classes_of keys in omega arith

  module _ (key : Key) (h : key.parent < length (classes_of keys)) where
    any_same : list_any (same_key key) keys ≡ list_any (same_class (class_of_key (classes_of keys) key)) (classes_of keys)
    any_same = by (classes_of keys) (stays ([] ∷ []) keys 0 (omega arith)) (length-classes_of keys) (λ i k e. (class_of_key (classes_of keys) k, class_there i k e, key_same key k h (parent_there i k e)))
      where
        by : (classes : List Class) → slice_get classes 0 ≡ Some [] → length classes ≡ length keys + 1
            → ((i : ℕ) (k : Key) → slice_get keys i ≡ Some k → (c : Class) × (slice_get classes (suc i) ≡ Some c) × (same_key key k ≡ same_class (class_of_key (classes_of keys) key) c))
            → list_any (same_key key) keys ≡ list_any (same_class (class_of_key (classes_of keys) key)) classes
        by [] first long each = absurd (grind arith)
        by (c ∷ classes) first long each =
            let none : c ≡ [] = cc in
            any_along (same_key key) (same_class (class_of_key (classes_of keys) key)) keys classes (omega arith) each
            ∙ ap (λ (x : Class). same_class (class_of_key (classes_of keys) key) x || list_any (same_class (class_of_key (classes_of keys) key)) classes) (sym none)

    -- the classes afterwards
    pub classes_after : (after : List Key) → after ≡ (if list_any (same_key key) keys then keys else keys ++ key ∷ []) → classes_of after ≡ with_member same_class (classes_of keys) (class_of_key (classes_of keys) key)
    classes_after after e = ap classes_of e ∙ by (list_any (same_key key) keys) (list_any (same_class (class_of_key (classes_of keys) key)) (classes_of keys)) any_same
      where
        by : (a b : Bool) → a ≡ b → classes_of (if a then keys else keys ++ key ∷ []) ≡ (if b then classes_of keys else classes_of keys ++ class_of_key (classes_of keys) key ∷ [])
        by true true s = refl
        by false false s = classes_of-push keys key
        by true false s = absurd (grind arith)
        by false true s = absurd (grind arith)

    -- ---- one class more

    module _ (is : IsClass o (class_of_key (classes_of keys) key)) (room : length (classes_of keys) + 1 < 2 ^ 32) (none : list_any (same_key key) keys ≡ false) where
      abbrev classes : List Class
      classes = classes_of keys

      abbrev added : Class
      added = class_of_key (classes_of keys) key

      long : length (with_key (classes_of keys) key) ≡ length (classes_of keys) + 1
      long = grind (arith, common_steps)

      other : (i : ℕ) → i < length (classes_of keys) → same_class (class_of_key (classes_of keys) key) (class_at (classes_of keys) i) ≡ true → ⊥
      other i k e =
          let c = found (classes_of keys) i k in
          let same : same_class (class_of_key (classes_of keys) key) c.0 ≡ true = ap (same_class (class_of_key (classes_of keys) key)) (sym (class_read (classes_of keys) i c.0 c.1)) ∙ e in
          let some = any_at (same_class (class_of_key (classes_of keys) key)) (classes_of keys) i c.0 c.1 same in
          let clash : false ≡ true = sym none ∙ any_same ∙ some in
          grind arith

      -- a class of the longer list is one that was there, or the new one
      data Which (i : ℕ) : Type 0 where
        old : i < length (classes_of keys) → class_at (with_key (classes_of keys) key) i ≡ class_at (classes_of keys) i → Which i
        new : i ≡ length (classes_of keys) → class_at (with_key (classes_of keys) key) i ≡ class_of_key (classes_of keys) key → Which i

      which : (i : ℕ) → i < length (with_key (classes_of keys) key) → Which i
      which i k = by (nat_eq i (length (classes_of keys))) refl
        where
          by : (b : Bool) → nat_eq i (length (classes_of keys)) ≡ b → Which i
          by true e =
              let at : i ≡ length (classes_of keys) = grind (arith, nat_tests) in
              new at (ap (class_at (with_key (classes_of keys) key)) at ∙ class_read (with_key (classes_of keys) key) (length (classes_of keys)) (class_of_key (classes_of keys) key) (get_end (classes_of keys) (class_of_key (classes_of keys) key)))
          by false e =
              let count = long in
              let differ : i ≡ length (classes_of keys) → ⊥ = λ same. grind (arith, nat_tests) in
              let below : i < length (classes_of keys) = omega arith in
              old below (ap (λ (x : Option Class). unwrap_or x []) (get_before (classes_of keys) (class_of_key (classes_of keys) key ∷ []) i below))

      apart : (i j : ℕ) → i < length (with_key (classes_of keys) key) → j < length (with_key (classes_of keys) key) → same_class (class_at (with_key (classes_of keys) key) i) (class_at (with_key (classes_of keys) key) j) ≡ true → i ≡ j
      apart i j h k e = by (which i h) (which j k)
        where
          equal : class_at (with_key (classes_of keys) key) i ≡ class_at (with_key (classes_of keys) key) j
          equal = class_is (class_at (with_key (classes_of keys) key) i) (class_at (with_key (classes_of keys) key) j) e

          by : Which i → Which j → i ≡ j
          by (old a p) (old b q) = kept.distinct i j a b (ap (λ (c : Class). same_class c (class_at (classes_of keys) j)) (sym p) ∙ ap (same_class (class_at (with_key (classes_of keys) key) i)) (sym q) ∙ e)
          by (new a p) (new b q) = a ∙ sym b
          by (old a p) (new b q) =
              absurd (other i a (ap (same_class (class_of_key (classes_of keys) key)) (sym p ∙ equal ∙ q) ∙ class_same (class_of_key (classes_of keys) key)))
          by (new a p) (old b q) =
              absurd (other j b (ap (same_class (class_of_key (classes_of keys) key)) (sym q ∙ sym equal ∙ p) ∙ class_same (class_of_key (classes_of keys) key)))

      parents : (i : ℕ) (k : Key) → slice_get (keys ++ key ∷ []) i ≡ Some k → k.parent ≤ i
      parents i k e = by (nat_eq i (length keys)) refl
        where
          within : i < length (keys ++ key ∷ [])
          within = slice_get_within (keys ++ key ∷ []) i k e

          by : (b : Bool) → nat_eq i (length keys) ≡ b → k.parent ≤ i
          by true f =
              let at : i ≡ length keys = grind (arith, nat_tests) in
              let last : slice_get (keys ++ key ∷ []) (length keys) ≡ Some key = get_end keys key in
              let both : Some key ≡ Some k = sym last ∙ ap (slice_get (keys ++ key ∷ [])) (sym at) ∙ e in
              let same : key ≡ k = cc in
              let many = length-classes_of keys in
              let less : key.parent ≤ i = omega arith in
              subst (λ (x : Key). x.parent ≤ i) same less
          by false f =
              let differ : i ≡ length keys → ⊥ = λ same. grind (arith, nat_tests) in
              let in_all = within in
              let count : length (keys ++ key ∷ []) ≡ length keys + 1 = grind (arith, common_steps) in
              let below : i < length keys = omega arith in
              kept.parents i k (sym (get_before keys (key ∷ []) i below) ∙ e)

      pub kept_more : IsKept o (keys ++ key ∷ []) (rows ++ row_of o (class_of_key (classes_of keys) key) ∷ [])
      kept_more =
          let same = classes_of-push keys key in
          let count = long in
          record {
            outline = kept.outline;
            rows =
                ap (λ (xs : List Row). xs ++ row_of o (class_of_key (classes_of keys) key) ∷ []) kept.rows
                ∙ sym (map-append (row_of o) (classes_of keys) (class_of_key (classes_of keys) key ∷ []))
                ∙ ap (map (row_of o)) (sym same);
            few = subst (λ (cs : List Class). length cs < 2 ^ 32) (sym same) (omega arith);
            classes = subst (All (IsClass o)) (sym same) (All-push (IsClass o) (classes_of keys) (class_of_key (classes_of keys) key) kept.classes is);
            parents = parents;
            distinct = subst (λ (cs : List Class). (i j : ℕ) → i < length cs → j < length cs → same_class (class_at cs i) (class_at cs j) ≡ true → i ≡ j) (sym same) apart;
          }
