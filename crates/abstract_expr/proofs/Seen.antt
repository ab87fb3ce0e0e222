-- What a routine sees by the program's text, each class of it sees.
use Rattle.std.proofs.Common.{◌≡◌, ℕ, zero, suc, ◌+◌, Bool, true, false, ◌&&◌, ◌||◌, List, [], ◌∷◌, Option, Some, None, nat_eq, nat_lt, refl, sym, ap, ◌∙◌, subst, arith}
use Rattle.std.specs.List.{enumerate_from}
use Rattle.std.specs.Option.{option_map, unwrap_or}
use Rattle.std.specs.Prelude.{is_some, slice_get, if◌then◌else◌}
use Rattle.std.proofs.lemmas.Bool.{and_from, and_parts, eq-eqb, eqb-true, lt-ltb, ltb-true}
use Rattle.std.proofs.lemmas.Option.{slice_get-map, slice_get_within}
use Rattle.pas_program.specs.declared.program.Program.{Program}
use Rattle.pas_program.specs.declared.routine.Routine.{Routine}
use Rattle.pas_program.specs.declared.type_def.TypeDef.{TypeDef}
use Rattle.pas_program.specs.declared.variable.VarDef.{VarDef}
use Rattle.pas_program.specs.declared.variable.VarKind.TheVariants as kind
use Rattle.pas_program.specs.Checked.{scope_in, tables}
use Rattle.pas_program.specs.Scopes.{parent_fits}
use Rattle.pas_program.specs.Tables.{Head, head_of, holds_of, is_around, is_callable, is_kind, is_own, is_visible, leads_within}
use Rattle.alias_class.specs.declared.outline.RoutineOutline.{RoutineOutline}
use Rattle.alias_class.specs.declared.outline.VariableOutline.{VariableOutline}
use Rattle.alias_class.specs.Cells.{IsClass, around, routine_of}
use Rattle.alias_class.specs.Classes.{Class}
use Rattle.alias_class.specs.Outlines.{no_outline, outline_of_program, parent_of, routine_outline, variable_outline, variable_outlines}
use Rattle.abstract_expr.specs.Standing.{seen_rule}

-- what is known of a thing is known of one that there is
pub record Holds (A : Type 0) (p : A → Bool) (o : Option A) : Type 0 where
  pub one : A
  pub is : o ≡ Some one
  pub holds : p one ≡ true

held : {A : Type 0} (p : A → Bool) (o : Option A) → holds_of p o ≡ true → Holds A p o
held p None h = absurd (grind arith)
held p (Some x) h = record { one = x; is = refl; holds = h }

otherwise : (a b : Bool) → a ≡ false → (a || b) ≡ true → b ≡ true
otherwise true b e h = absurd (grind arith)
otherwise false b e h = h

-- ---- the outline of a variable

enumerated : {A : Type 0} (n : ℕ) (xs : List A) (k : ℕ) → slice_get (enumerate_from n xs) k ≡ option_map (λ x. (n + k, x)) (slice_get xs k)
enumerated n [] k = refl
enumerated {A} n (x ∷ xs) zero = let same : n ≡ n + 0 = omega arith in ap (λ (m : ℕ). Some (m, x)) same
enumerated {A} n (x ∷ xs) (suc k) = let same : n + 1 + k ≡ n + suc k = omega arith in enumerated (n + 1) xs k ∙ ap (λ (m : ℕ). option_map (λ (y : A). (m, y)) (slice_get xs k)) same

outlined : (types : List TypeDef) (routines : List RoutineOutline) (vars : List VarDef) (v : ℕ) (d : VarDef) → slice_get vars v ≡ Some d → slice_get (variable_outlines types routines vars) v ≡ Some (variable_outline types routines v d)
outlined types routines vars v d e =
    let outline : ℕ × VarDef → VariableOutline = λ x. variable_outline types routines x.0 x.1 in
    slice_get-map outline (enumerate_from 0 vars) v
    ∙ ap (option_map outline) (enumerated 0 vars v ∙ ap (option_map (λ (x : VarDef). (0 + v, x))) e)
    ∙ (let same : 0 + v ≡ v = omega arith in ap (λ (k : ℕ). Some (variable_outline types routines k d)) same)

-- ---- routines around a class

module _ (p : Program) where
  head_parent : (r : ℕ) (h : Head) → (tables p).head_at r ≡ Some h → parent_of (outline_of_program p) r ≡ h.parent
  head_parent r h e = by (slice_get p.routines r) refl e
    where
      by : (d : Option Routine) → slice_get p.routines r ≡ d → option_map head_of d ≡ Some h → parent_of (outline_of_program p) r ≡ h.parent
      by None at e = absurd (grind arith)
      by (Some d) at e =
          let same : head_of d ≡ h = grind arith in
          let known : slice_get (outline_of_program p).routines r ≡ Some (routine_outline p.vars d) = slice_get-map (routine_outline p.vars) p.routines r ∙ ap (option_map (routine_outline p.vars)) at in
          ap (λ (x : Option RoutineOutline). (unwrap_or x no_outline).parent) known ∙ ap (λ (h : Head). h.parent) same

  -- the program's block has no routine around it
  main_outermost : (h : Head) (q : ℕ) → (tables p).head_at (outline_of_program p).main ≡ Some h → h.parent ≡ Some q → ⊥
  main_outermost h q e parent = by (slice_get p.routines (outline_of_program p).main) refl e
    where
      by : (d : Option Routine) → slice_get p.routines (outline_of_program p).main ≡ d → option_map head_of d ≡ Some h → ⊥
      by None at e = absurd (grind arith)
      by (Some d) at e =
          let same : head_of d ≡ h = grind arith in
          let has : d.parent ≡ Some q = ap (λ (h : Head). h.parent) same ∙ parent in
          let fits = and_parts (nat_lt (outline_of_program p).main q) _ (subst (λ (x : Option ℕ). parent_fits p.routines (outline_of_program p).main d x ≡ true) has (p.in_scope.parent (outline_of_program p).main d at)) in
          let above = ltb-true (outline_of_program p).main q fits.0 in
          let other = held (λ (e : Routine). nat_eq d.level (suc e.level)) (slice_get p.routines q) fits.1 in
          let within = slice_get_within p.routines q other.one other.is in
          omega arith

  -- a routine that the text has around that of a class has a class around it
  leads_around : (steps : ℕ) (c : Class) → IsClass (outline_of_program p) c → (s : ℕ) → leads_within steps (tables p) (routine_of (outline_of_program p) c) s ≡ true → is_some (around (outline_of_program p) c s) ≡ true
  leads_around steps [] is s leads = by (nat_eq (outline_of_program p).main s) refl steps leads
    where
      by : (b : Bool) → nat_eq (outline_of_program p).main s ≡ b → (steps : ℕ) → leads_within steps (tables p) (outline_of_program p).main s ≡ true → is_some {T = Class} (if b then Some [] else None) ≡ true
      by true same steps leads = refl
      by false other zero leads = absurd (grind arith)
      by false other (suc steps) leads =
          absurd
          (let h = held (λ (h : Head). holds_of (λ q. leads_within steps (tables p) q s) h.parent) ((tables p).head_at (outline_of_program p).main) (otherwise (nat_eq (outline_of_program p).main s) _ other leads) in
          let q = held (λ (q : ℕ). leads_within steps (tables p) q s) h.one.parent h.holds in
          main_outermost h.one q.one h.is q.is)
  leads_around steps (e ∷ parent) is s leads = by (nat_eq e.routine s) refl steps leads (λ steps leads. leads_around steps parent is.1 s leads)
    where
      by : (b : Bool) → nat_eq e.routine s ≡ b → (steps : ℕ) → leads_within steps (tables p) e.routine s ≡ true → ((steps : ℕ) → leads_within steps (tables p) (routine_of (outline_of_program p) parent) s ≡ true → is_some (around (outline_of_program p) parent s) ≡ true)
          → is_some (if b then Some (e ∷ parent) else around (outline_of_program p) parent s) ≡ true
      by true same steps leads outer = refl
      by false other zero leads outer = absurd (grind arith)
      by false other (suc steps) leads outer =
          let h = held (λ (h : Head). holds_of (λ q. leads_within steps (tables p) q s) h.parent) ((tables p).head_at e.routine) (otherwise (nat_eq e.routine s) _ other leads) in
          let q = held (λ (q : ℕ). leads_within steps (tables p) q s) h.one.parent h.holds in
          let around : Some (routine_of (outline_of_program p) parent) ≡ Some q.one = sym is.0.declared ∙ head_parent e.routine h.one h.is ∙ q.is in
          let same : q.one ≡ routine_of (outline_of_program p) parent = grind arith in
          outer steps (subst (λ (r : ℕ). leads_within steps (tables p) r s ≡ true) same q.holds)

  -- ---- variables

  module _ (c : Class) (is : IsClass (outline_of_program p) c) where
    pub variable_seen : (v : ℕ) → is_visible (tables p) (routine_of (outline_of_program p) c) v ≡ true → (seen_rule (outline_of_program p) c).variable v ≡ true
    variable_seen v e =
        let r = routine_of (outline_of_program p) c in
        let x = held (λ (d : VarDef). is_around (tables p) r d.routine) ((tables p).var_at v) e in
        let known = outlined p.types (outline_of_program p).routines p.vars v x.one x.is in
        let h = held (λ (h : Head). leads_within h.level (tables p) r x.one.routine) ((tables p).head_at r) x.holds in
        and_from _ _ (lt-ltb v _ (slice_get_within (outline_of_program p).variables v _ known))
        (ap (holds_of (λ (x : VariableOutline). is_some (around (outline_of_program p) c x.routine))) known ∙ leads_around h.one.level c is x.one.routine h.holds)

  -- a routine that calls sees its slots
  pub leads_here : (r n : ℕ) → leads_within n (tables p) r r ≡ true
  leads_here r zero = eq-eqb r r refl
  leads_here r (suc n) = ap (λ b. b || holds_of (λ (h : Head). holds_of (λ q. leads_within n (tables p) q r) h.parent) ((tables p).head_at r)) (eq-eqb r r refl)

  slot_visible : (r s slot : ℕ) → (is_callable (tables p) r s && is_own (tables p) r kind.Slot slot) ≡ true → is_visible (tables p) r slot ≡ true
  slot_visible r s slot e =
      let b = and_parts (is_callable (tables p) r s) _ e in
      let callee = held (λ (h : Head). holds_of (λ q. is_around (tables p) r q) h.parent) ((tables p).head_at s) b.0 in
      let parent = held (λ (q : ℕ). is_around (tables p) r q) callee.one.parent callee.holds in
      let head = held (λ (h : Head). leads_within h.level (tables p) r parent.one) ((tables p).head_at r) parent.holds in
      let own = held (λ (d : VarDef). nat_eq d.routine r && is_kind kind.Slot d.kind) ((tables p).var_at slot) b.1 in
      let same = eqb-true own.one.routine r (and_parts (nat_eq own.one.routine r) _ own.holds).0 in
      ap (holds_of (λ (d : VarDef). is_around (tables p) r d.routine)) own.is
      ∙ ap (is_around (tables p) r) same
      ∙ ap (holds_of (λ (h : Head). leads_within h.level (tables p) r r)) head.is
      ∙ leads_here r head.one.level

  module _ (c : Class) (is : IsClass (outline_of_program p) c) where
    pub call_seen : (r slot : ℕ) → (scope_in p (routine_of (outline_of_program p) c)).call r slot ≡ true → (seen_rule (outline_of_program p) c).call r slot ≡ true
    call_seen r slot e = variable_seen c is slot (slot_visible (routine_of (outline_of_program p) c) r slot e)
