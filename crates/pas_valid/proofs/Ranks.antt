-- Lists whose variables know their places have each variable of their routine, and none twice.
use Rattle.std.proofs.Common.{◌≡◌, ℕ, zero, suc, ◌+◌, ◌<◌, Bool, true, false, ◌&&◌, not, List, [], ◌∷◌, length, nat_lt, nat_eq, get_or, refl, sym, ap, ◌∙◌, inl, inr, arith, Option, Some, None}
use Rattle.std.proofs.lemmas.Bool.{and_parts, and_from, or_cases, or_left, or_right, eqb-true, eq-eqb, ltb-true, lt-ltb, true≢false}
use Rattle.std.proofs.lemmas.Option.{none-some, slice_get-get_or, slice_get_within}
use Rattle.std.specs.Bool.{beq}
use Rattle.std.specs.List.{slice_get}
use Rattle.pas_program.specs.declared.routine.Routine.{Routine}
use Rattle.pas_program.specs.declared.variable.VarDef.{VarDef}
use Rattle.pas_program.specs.declared.variable.VarKind.TheVariants as kind
use Rattle.pas_program.specs.Scopes.{ListsFit, contains, is_distinct, is_formal, is_the}
use Rattle.pas_program.specs.Tables.{holds_of, is_kind}
use Rattle.pas_valid.specs.Whole.{Listed, rank_fits}

-- ---- what is found

pub holds_some : {A : Type 0} (f : A → Bool) (o : Option A) (x : A) → o ≡ Some x → holds_of f o ≡ true → f x ≡ true
holds_some f o x e h = sym (ap (holds_of f) e) ∙ h

pub holds_got : {A : Type 0} (f : A → Bool) (o : Option A) → holds_of f o ≡ true → (x : A) × (o ≡ Some x) × (f x ≡ true)
holds_got f None h = absurd (true≢false (sym h))
holds_got f (Some x) h = (x, refl, h)

beq_true : (a b : Bool) → beq a b ≡ true → a ≡ b
beq_true true true h = refl
beq_true true false h = absurd (true≢false (sym h))
beq_true false true h = absurd (true≢false (sym h))
beq_true false false h = refl

both_ways : (a b : Bool) → (a ≡ true → b ≡ true) → (b ≡ true → a ≡ true) → a ≡ b
both_ways true true f g = refl
both_ways true false f g = sym (f refl)
both_ways false true f g = g refl
both_ways false false f g = refl

some_same : {A : Type 0} {x y : A} → Some x ≡ Some y → x ≡ y
some_same e = cc

pub slice_get_below : {A : Type 0} (xs : List A) (k : ℕ) → k < length xs → (x : A) × (slice_get xs k ≡ Some x)
slice_get_below [] k h = absurd (omega arith)
slice_get_below (x ∷ xs) k h = (get_or (x ∷ xs) k x, slice_get-get_or (x ∷ xs) k x h)

contains_at : (n : ℕ) (ns : List ℕ) → contains n ns ≡ true → (k : ℕ) × (slice_get ns k ≡ Some n)
contains_at n [] h = absurd (true≢false (sym h))
contains_at n (m ∷ ms) h =
    elim (or_cases (nat_eq n m) (contains n ms) h) [
      | inl e ↦ (0, ap Some (sym (eqb-true n m e)))
      | inr e ↦ (let p = contains_at n ms e in (suc p.0, p.1))
    ]

at_contains : (n : ℕ) (ns : List ℕ) (k : ℕ) → slice_get ns k ≡ Some n → contains n ns ≡ true
at_contains n [] k e = absurd (none-some n e)
at_contains n (m ∷ ms) zero e = or_left (nat_eq n m) _ (eq-eqb n m (sym (some_same e)))
at_contains n (m ∷ ms) (suc k) e = or_right (nat_eq n m) _ (at_contains n ms k e)

-- ---- none twice

-- each number of the list has its place in it, counted from `base`, for its rank
abbrev Ranked : List ℕ → ℕ → List ℕ → Type 0
Ranked ranks base ns = (k v : ℕ) → slice_get ns k ≡ Some v → slice_get ranks v ≡ Some (base + k)

not_again : (ranks : List ℕ) (base m : ℕ) (ms : List ℕ) → Ranked ranks base (m ∷ ms) → (b : Bool) → contains m ms ≡ b → not b ≡ true
not_again ranks base m ms h false e = refl
not_again ranks base m ms h true e =
    let p = contains_at m ms e in
    let same : base + 0 ≡ base + suc p.0 = some_same (sym (h 0 m refl) ∙ h (suc p.0) m p.1) in
    absurd (omega (arith, same))

distinct_by : (ranks : List ℕ) (base : ℕ) (ns : List ℕ) → Ranked ranks base ns → is_distinct ns ≡ true
distinct_by ranks base [] h = refl
distinct_by ranks base (m ∷ ms) h =
    and_from _ _ (not_again ranks base m ms h (contains m ms) refl)
    (distinct_by ranks (suc base) ms (λ k v e. let n : base + suc k ≡ suc base + k = omega arith in h (suc k) v e ∙ ap Some n))

-- ---- the lists of a routine

-- what a variable at a place of the list knows
record Entry (vars : List VarDef) (ranks : List ℕ) (r : ℕ) (d : Routine) (k v : ℕ) (x : VarDef) : Type 0 where
  pub own : x.routine ≡ r
  pub formal : nat_lt k (length d.formals) ≡ is_formal x.kind
  pub returned : is_the v d.result ≡ is_kind kind.Result x.kind

-- a parameter stands at the same place of both lists
pub formal_at : (vars : List VarDef) (ranks : List ℕ) (r : ℕ) (d : Routine) → Listed vars ranks r d → (k v : ℕ) → slice_get d.formals k ≡ Some v → slice_get d.vars k ≡ Some v
formal_at vars ranks r d l k v e = let u = holds_got (λ w. nat_eq w v) (slice_get d.vars k) (l.formals k v e) in u.1 ∙ ap Some (eqb-true u.0 v u.2)

module _ (vars : List VarDef) (ranks : List ℕ) (routines : List Routine) (r : ℕ) (d : Routine) (found : slice_get routines r ≡ Some d) (l : Listed vars ranks r d) (known : (v : ℕ) (x : VarDef) → slice_get vars v ≡ Some x → rank_fits routines ranks v x ≡ true) where
  rank_at : (k v : ℕ) → slice_get d.vars k ≡ Some v → slice_get ranks v ≡ Some (0 + k)
  rank_at k v e =
      let p = and_parts (holds_of _ (slice_get vars v)) _ (l.entries k v e) in
      let q = holds_got (λ n. nat_eq n k) (slice_get ranks v) p.1 in
      let n : q.0 ≡ 0 + k = omega (arith, eqb-true q.0 k q.2) in
      q.1 ∙ ap Some n

  entry_at : (k v : ℕ) (x : VarDef) → slice_get vars v ≡ Some x → slice_get d.vars k ≡ Some v → Entry vars ranks r d k v x
  entry_at k v x e h =
      let p = and_parts (holds_of _ (slice_get vars v)) _ (l.entries k v h) in
      let q = holds_some (λ (y : VarDef). nat_eq y.routine r && (beq (nat_lt k (length d.formals)) (is_formal y.kind) && beq (is_the v d.result) (is_kind kind.Result y.kind))) (slice_get vars v) x e p.0 in
      let a = and_parts (nat_eq x.routine r) _ q in
      let b = and_parts (beq (nat_lt k (length d.formals)) (is_formal x.kind)) _ a.1 in
      record { own = eqb-true _ _ a.0; formal = beq_true _ _ b.0; returned = beq_true _ _ b.1 }

  -- a variable of the routine stands in its list
  stands : (v : ℕ) (x : VarDef) → slice_get vars v ≡ Some x → x.routine ≡ r → (k : ℕ) × (slice_get d.vars k ≡ Some v)
  stands v x e own =
      let n = holds_got _ (slice_get ranks v) (known v x e) in
      let w = holds_some (λ (y : Routine). holds_of (λ w. nat_eq w v) (slice_get y.vars n.0)) (slice_get routines x.routine) d (ap (slice_get routines) own ∙ found) n.2 in
      let u = holds_got (λ w. nat_eq w v) (slice_get d.vars n.0) w in
      (n.0, u.1 ∙ ap Some (eqb-true u.0 v u.2))

  -- and is there at each place below their number
  formal_below : (k v : ℕ) → slice_get d.vars k ≡ Some v → k < length d.formals → slice_get d.formals k ≡ Some v
  formal_below k v e h =
      let g = slice_get-get_or d.formals k 0 h in
      g ∙ sym (formal_at vars ranks r d l k (get_or d.formals k 0) g) ∙ e

  all_vars : (v : ℕ) (x : VarDef) → slice_get vars v ≡ Some x → contains v d.vars ≡ nat_eq x.routine r
  all_vars v x e =
      both_ways _ _ (λ h. let p = contains_at v d.vars h in eq-eqb _ _ (entry_at p.0 v x e p.1).own)
      (λ h. let s = stands v x e (eqb-true _ _ h) in at_contains v d.vars s.0 s.1)

  all_formals : (v : ℕ) (x : VarDef) → slice_get vars v ≡ Some x → contains v d.formals ≡ (nat_eq x.routine r && is_formal x.kind)
  all_formals v x e =
      both_ways _ _
      (λ h. let p = contains_at v d.formals h in
      let n = entry_at p.0 v x e (formal_at vars ranks r d l p.0 v p.1) in
      and_from _ _ (eq-eqb _ _ n.own) (sym n.formal ∙ lt-ltb _ _ (slice_get_within d.formals p.0 v p.1)))
      (λ h. let p = and_parts (nat_eq x.routine r) _ h in
      let s = stands v x e (eqb-true _ _ p.0) in
      let n = entry_at s.0 v x e s.1 in
      at_contains v d.formals s.0 (formal_below s.0 v s.1 (ltb-true _ _ (n.formal ∙ p.1))))

  is_the_some : (v : ℕ) (o : Option ℕ) → is_the v o ≡ true → o ≡ Some v
  is_the_some v None h = absurd (true≢false (sym h))
  is_the_some v (Some m) h = ap Some (sym (eqb-true v m h))

  one_result : (v : ℕ) (x : VarDef) → slice_get vars v ≡ Some x → is_the v d.result ≡ (nat_eq x.routine r && is_kind kind.Result x.kind)
  one_result v x e =
      both_ways _ _
      (λ h. let own = holds_some (λ (y : VarDef). nat_eq y.routine r) (slice_get vars v) x e (l.result v (is_the_some v d.result h)) in
      let s = stands v x e (eqb-true _ _ own) in
      and_from _ _ own (sym (entry_at s.0 v x e s.1).returned ∙ h))
      (λ h. let p = and_parts (nat_eq x.routine r) _ h in
      let s = stands v x e (eqb-true _ _ p.0) in
      (entry_at s.0 v x e s.1).returned ∙ p.1)

  pub lists_fit : ListsFit vars r d
  lists_fit = record {
    vars_once = distinct_by ranks 0 d.vars rank_at;
    vars_all = all_vars;
    formals_once = distinct_by ranks 0 d.formals (λ k v e. rank_at k v (formal_at vars ranks r d l k v e));
    formals_all = all_formals;
    result_only = one_result;
  }
