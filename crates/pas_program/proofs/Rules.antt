-- Which rules get weaker when a program's lists grow, and what growing is.
use Rattle.std.proofs.Common.{◌≡◌, ℕ, zero, suc, ◌≤◌, true, ◌&&◌, List, ◌++◌, nat_lt, nat_eq, refl, ap, ◌∙◌, inl, inr, Option, Some, None, arith}
use Rattle.std.proofs.lemmas.Bool.{and_parts, and_from, or_cases, or_left, or_right, ltb-true, lt-ltb}
use Rattle.std.proofs.lemmas.Option.{none-some}
use Rattle.std.specs.List.{slice_get}
use Rattle.std.specs.Option.{option_map}
use Rattle.pas_program.specs.declared.routine.Routine.{Routine}
use Rattle.pas_program.specs.declared.type_def.TypeDef.{TypeDef}
use Rattle.pas_program.specs.declared.variable.VarDef.{VarDef}
use Rattle.pas_program.specs.declared.variable.VarKind.{VarKind}
use Rattle.pas_program.specs.declared.variable.VarKind.TheVariants as kind
use Rattle.pas_program.specs.Scopes.{scope_rule}
use Rattle.pas_program.specs.Tables.{Tables, Head, Grows, tables_of, head_of, holds_of, leads_within, is_around, is_visible, is_callable, is_own, is_kind}
use Rattle.pas_program.specs.Valid.{Counts, number_rule}
use Rattle.pas_program.proofs.Grown.{holds_kept}
use Rattle.pas_program.proofs.Layouts.{slice_get-append}
use Rattle.pas_program.proofs.Weaker.{Weaker}

-- ---- growing

pub grows_refl : (t : Tables) → Grows t t
grows_refl t = record { types = λ k d e. e; vars = λ k d e. e; heads = λ k d e. e }

pub grows_trans : (t u v : Tables) → Grows t u → Grows u v → Grows t v
grows_trans t u v g h = record {
  types = λ k d e. h.types k d (g.types k d e);
  vars = λ k d e. h.vars k d (g.vars k d e);
  heads = λ k d e. h.heads k d (g.heads k d e);
}

head_kept : (routines more : List Routine) (r : ℕ) (o : Option Routine) → slice_get routines r ≡ o → (d : Head) → option_map head_of o ≡ Some d → option_map head_of (slice_get (routines ++ more) r) ≡ Some d
head_kept routines more r None e d h = absurd (none-some d h)
head_kept routines more r (Some x) e d h = ap (option_map head_of) (slice_get-append routines more r x e) ∙ h

-- lists to which something is added
pub grows_append : (types types' : List TypeDef) (vars vars' : List VarDef) (routines routines' : List Routine) → Grows (tables_of types vars routines) (tables_of (types ++ types') (vars ++ vars') (routines ++ routines'))
grows_append types types' vars vars' routines routines' = record {
  types = slice_get-append types types';
  vars = slice_get-append vars vars';
  heads = λ r d e. head_kept routines routines' r (slice_get routines r) refl d e;
}

-- ---- scopes

module _ (t u : Tables) (g : Grows t u) where
  leads_kept : (n r s : ℕ) → leads_within n t r s ≡ true → leads_within n u r s ≡ true
  leads_kept zero r s h = h
  leads_kept (suc n) r s h =
      elim (or_cases (nat_eq r s) _ h) [
        | inl e ↦ or_left _ _ e
        | inr e ↦ or_right (nat_eq r s) _
            (holds_kept (λ d. holds_of (λ p. leads_within n t p s) d.parent) (λ d. holds_of (λ p. leads_within n u p s) d.parent)
            (λ d. holds_kept (λ p. leads_within n t p s) (λ p. leads_within n u p s) (λ p. leads_kept n p s) d.parent d.parent (λ p k. k))
            (t.head_at r) (u.head_at r) (g.heads r) e)
      ]

  around_kept : (r s : ℕ) → is_around t r s ≡ true → is_around u r s ≡ true
  around_kept r s = holds_kept (λ d. leads_within d.level t r s) (λ d. leads_within d.level u r s) (λ d. leads_kept d.level r s) (t.head_at r) (u.head_at r) (g.heads r)

  visible_kept : (r v : ℕ) → is_visible t r v ≡ true → is_visible u r v ≡ true
  visible_kept r v = holds_kept (λ d. is_around t r d.routine) (λ d. is_around u r d.routine) (λ d. around_kept r d.routine) (t.var_at v) (u.var_at v) (g.vars v)

  callable_kept : (r s : ℕ) → is_callable t r s ≡ true → is_callable u r s ≡ true
  callable_kept r s =
      holds_kept (λ d. holds_of (λ p. is_around t r p) d.parent) (λ d. holds_of (λ p. is_around u r p) d.parent)
      (λ d. holds_kept (λ p. is_around t r p) (λ p. is_around u r p) (λ p. around_kept r p) d.parent d.parent (λ p k. k))
      (t.head_at s) (u.head_at s) (g.heads s)

  own_kept : (r : ℕ) (k : VarKind) (v : ℕ) → is_own t r k v ≡ true → is_own u r k v ≡ true
  own_kept r k v = holds_kept (λ d. nat_eq d.routine r && is_kind k d.kind) (λ d. nat_eq d.routine r && is_kind k d.kind) (λ d h. h) (t.var_at v) (u.var_at v) (g.vars v)

  -- what is in scope stays in scope
  pub scope_weaker : (r : ℕ) → Weaker (scope_rule t r) (scope_rule u r)
  scope_weaker r = record {
    variable = visible_kept r;
    call = λ s slot h. let p = and_parts (is_callable t r s) _ h in and_from _ _ (callable_kept r s p.0) (own_kept r kind.Slot slot p.1);
    invoke = callable_kept r;
    loop = λ control bound h. let p = and_parts (is_visible t r control) _ h in and_from _ _ (visible_kept r control p.0) (own_kept r kind.Bound bound p.1);
    jump = λ s label. around_kept r s;
    assertion = λ a h. h;
    sequence = λ n h. h;
    choice = λ constants h. h;
  }

-- ---- numbers

below : (v n m : ℕ) → n ≤ m → nat_lt v n ≡ true → nat_lt v m ≡ true
below v n m k h = let l = ltb-true v n h in lt-ltb v m (omega (arith, l))

-- a number in range stays in range
pub number_weaker : (n m : Counts) → n.vars ≤ m.vars → n.routines ≤ m.routines → n.asserts ≤ m.asserts → Weaker (number_rule n) (number_rule m)
number_weaker n m vars routines asserts = record {
  variable = λ v. below v n.vars m.vars vars;
  call = λ r slot h. let p = and_parts (nat_lt r n.routines) _ h in and_from _ _ (below r n.routines m.routines routines p.0) (below slot n.vars m.vars vars p.1);
  invoke = λ r. below r n.routines m.routines routines;
  loop = λ control bound h. let p = and_parts (nat_lt control n.vars) _ h in and_from _ _ (below control n.vars m.vars vars p.0) (below bound n.vars m.vars vars p.1);
  jump = λ r label. below r n.routines m.routines routines;
  assertion = λ a. below a n.asserts m.asserts asserts;
  sequence = λ length h. h;
  choice = λ constants h. h;
}
