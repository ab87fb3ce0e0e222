-- What is built lies in a text of so many bytes, and so does what is built after it: how this is kept from one part to the next.
use Rattle.std.proofs.Common.{◌≡◌, ℕ, ◌<◌, ◌≤◌, Bool, true, List, [], ◌∷◌, ◌++◌, map, nat_lt, nat_le, Option, Some, None, arith, refl, ◌∙◌}
use Rattle.std.proofs.lemmas.Bool.{and_parts, and_from, leb-true, lt-ltb, ltb-true}
use Rattle.std.proofs.lemmas.List.Folds.{list_all-append}
use Rattle.std.specs.List.{AllByRecursion, list_all}
use Rattle.px_base.specs.declared.place.Span.{Span}
use Rattle.pas_program.specs.declared.variable.VarKind.{VarKind}
use Rattle.pas_program.specs.declared.variable.VarKind.TheVariants as kind
use Rattle.pas_program.specs.Each.{all_true}
use Rattle.pas_program.specs.Places.{assert_lies, is_piece, is_place, routine_lies, var_lies}
use Rattle.pas_check.specs.declared.built.Built.{Built}
use Rattle.pas_check.specs.Built.{Builds, ◌>>=◌, in_order, variable_of, with_own, with_variable}

-- ---- lists

pub one_more : {A : Type 0} (f : A → Bool) (xs : List A) (x : A) → list_all f xs ≡ true → f x ≡ true → list_all f (xs ++ x ∷ []) ≡ true
one_more f xs x h e = list_all-append f xs (x ∷ []) ∙ and_from _ _ h (and_from _ _ e refl)

pub each_in : {A : Type 0} (f : A → Bool) (xs : List A) → list_all f xs ≡ true → AllByRecursion (λ x. f x ≡ true) xs
each_in f [] h = tt
each_in f (x ∷ xs) h = let p = and_parts (f x) _ h in (p.0, each_in f xs p.1)

pub all_in : {A : Type 0} (f : A → Bool) (xs : List A) → AllByRecursion (λ x. f x ≡ true) xs → all_true (map f xs) ≡ true
all_in f [] h = refl
all_in f (x ∷ xs) h = and_from _ _ h.0 (all_in f xs h.1)

pub each_of : {A : Type 0} (f : A → Bool) (xs : List A) → all_true (map f xs) ≡ true → AllByRecursion (λ x. f x ≡ true) xs
each_of f [] h = tt
each_of f (x ∷ xs) h = let p = and_parts (f x) _ h in (p.0, each_of f xs p.1)

-- ---- what there is

abbrev pub If : {A : Type 0} → Option A → (A → Type 0) → Type 0
If None P = Unit {0}
If (Some a) P = P a

pub next : {A B : Type 0} (o : Option A) (f : A → Option B) (P : A → Type 0) (Q : B → Type 0) → If o P → ((a : A) → P a → If (f a) Q) → If (o >>= f) Q
next None f P Q h k = tt
next (Some a) f P Q h k = k a h

pub whatever : {A B : Type 0} (o : Option A) (f : A → Option B) (Q : B → Type 0) → ((a : A) → If (f a) Q) → If (o >>= f) Q
whatever None f Q k = tt
whatever (Some a) f Q k = k a

-- ---- what is built

module _ (len : ℕ) where
  pub begins_in : (s : Span) → is_piece len s ≡ true → is_place len s.start ≡ true
  begins_in s h =
      let p = and_parts (nat_lt s.start s.«end») (nat_le s.«end» len) h in
      let a : s.start < s.«end» = ltb-true s.start s.«end» p.0 in
      let b : s.«end» ≤ len = leb-true s.«end» len p.1 in
      lt-ltb s.start len (omega arith)

  pub record BuiltLies (b : Built) : Type 0 where
    pub vars : list_all (var_lies len) b.vars ≡ true
    pub routines : list_all (routine_lies len) b.routines ≡ true
    pub asserts : list_all (assert_lies len) b.asserts ≡ true
    pub frame : is_piece len b.frame.name ≡ true

  variable_lies : (name : Span) (routine : ℕ) (k : VarKind) (t : ℕ) → is_piece len name ≡ true → var_lies len (variable_of name routine k t) ≡ true
  variable_lies name routine k t h = and_from _ _ h (begins_in name h)

  pub variable_kept : (name : Span) (routine : ℕ) (k : VarKind) (t : ℕ) (b : Built) → is_piece len name ≡ true → BuiltLies b → BuiltLies (with_variable (variable_of name routine k t) b)
  variable_kept name routine k t b h l =
      record { vars = one_more (var_lies len) b.vars (variable_of name routine k t) l.vars (variable_lies name routine k t h); routines = l.routines; asserts = l.asserts; frame = l.frame }

  -- variables of the routine at hand
  module _ (name : Span) (t : ℕ) (b : Built) (h : is_piece len name ≡ true) (l : BuiltLies b) where
    own_vars : (k : VarKind) → list_all (var_lies len) (b.vars ++ variable_of name b.frame.routine k t ∷ []) ≡ true
    own_vars k = one_more (var_lies len) b.vars (variable_of name b.frame.routine k t) l.vars (variable_lies name b.frame.routine k t h)

    pub slot_kept : BuiltLies (with_own name kind.Slot t b)
    slot_kept = record { vars = own_vars kind.Slot; routines = l.routines; asserts = l.asserts; frame = l.frame }

    pub bound_kept : BuiltLies (with_own name kind.Bound t b)
    bound_kept = record { vars = own_vars kind.Bound; routines = l.routines; asserts = l.asserts; frame = l.frame }

    pub local_kept : BuiltLies (with_own name kind.Local t b)
    local_kept = record { vars = own_vars kind.Local; routines = l.routines; asserts = l.asserts; frame = l.frame }

  -- what a part of the program is, whatever was built before it, and what is built after it
  abbrev pub Safe : {A : Type 0} → (A → Type 0) → Builds A → Type 0
  Safe P form = (b : Built) → BuiltLies b → If (form b) (λ r. P r.0 × BuiltLies r.1)

  pub in_order_kept : {A B : Type 0} (P : B → Type 0) (R : A → Type 0) (form : A → Builds B) → ((a : A) → R a → Safe P (form a)) → (xs : List A) → AllByRecursion R xs → Safe (AllByRecursion P) (in_order form xs)
  in_order_kept P R form k [] r b l = (tt, l)
  in_order_kept P R form k (x ∷ xs) r b l =
      next (form x b) (λ y. in_order form xs y.1 >>= (λ ys. Some (y.0 ∷ ys.0, ys.1))) (λ y. P y.0 × BuiltLies y.1) (λ ys. AllByRecursion P ys.0 × BuiltLies ys.1) (k x r.0 b l)
      (λ y p. next (in_order form xs y.1) (λ ys. Some (y.0 ∷ ys.0, ys.1)) (λ ys. AllByRecursion P ys.0 × BuiltLies ys.1) (λ ys. AllByRecursion P ys.0 × BuiltLies ys.1) (in_order_kept P R form k xs r.1 y.1 p.1)
      (λ ys q. ((p.0, q.0), q.1)))
