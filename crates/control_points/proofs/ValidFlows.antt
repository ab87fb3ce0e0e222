-- The chart of a flow is well formed: what it has of the program is what each checked program has.
use Rattle.std.proofs.Common.{◌≡◌, ℕ, zero, suc, ◌-◌, ◌<◌, true, ◌&&◌, List, [], ◌∷◌, length, refl, sym, ap, subst, ◌∙◌, Option, Some, None, is_some, slice_get, nat_eq, nat_lt, eqb-true, ltb-true, arith}
use Rattle.std.proofs.lemmas.Bool.{and_parts, and_from, true≢false}
use Rattle.std.proofs.lemmas.Option.{none-some, slice_get_within}
use Rattle.pas_program.specs.declared.program.Program.{Program}
use Rattle.pas_program.specs.declared.routine.Routine.{Routine}
use Rattle.pas_program.specs.declared.type_def.TypeDef.TheVariants.{Scalar, Array}
use Rattle.pas_program.specs.declared.variable.VarDef.{VarDef}
use Rattle.pas_program.specs.declared.variable.VarKind.TheVariants as kind
use Rattle.pas_program.specs.Checked.{tables}
use Rattle.pas_program.specs.Scopes.{contains, parent_fits, is_formal, scope_rule}
use Rattle.pas_program.specs.Tables.{Head, head_of, is_kind, is_own}
use Rattle.pas_program.specs.Types.{in_host}
use Rattle.control_points.specs.declared.flow.Flow.{Flow}
use Rattle.control_points.specs.declared.point.Point.{Point}
use Rattle.control_points.specs.Acts.{each_act}
use Rattle.control_points.specs.Flows.{chart_of}
use Rattle.control_points.specs.Leading.{EdgesLead, EdgesPair, EntriesFit}
use Rattle.control_points.specs.WellFormed.{TablesFit, IsWellFormed}
use Rattle.control_points.proofs.JudgedFlows.{edges_alike}
use Rattle.control_points.proofs.ValidBasics.{map_found, holds_found, same_kind}

item_found : {A : Type 0} (xs : List A) (k : ℕ) → k < length xs → (x : A) × (slice_get xs k ≡ Some x)
item_found [] k h = absurd (omega arith)
item_found (x ∷ xs) zero h = (x, refl)
item_found (x ∷ xs) (suc k) h = item_found xs k (omega arith)

some_is : {A : Type 0} (o : Option A) (x : A) → o ≡ Some x → is_some o ≡ true
some_is o x h = ap is_some h

module _ (p : Program) where
  -- a routine with its head
  of_head : (r : ℕ) (h : Head) → (tables p).head_at r ≡ Some h → (d : Routine) × (slice_get p.routines r ≡ Some d) × (head_of d ≡ h)
  of_head r h known = map_found head_of (slice_get p.routines r) h known

  -- the last routine is the one without a routine around it
  no_parent : (d : Routine) (o : Option ℕ) → parent_fits p.routines (length p.routines - 1) d o ≡ true → o ≡ None
  no_parent d None h = refl
  no_parent d (Some q) h =
      let x = and_parts (nat_lt (length p.routines - 1) q) _ h in
      let later = ltb-true (length p.routines - 1) q x.0 in
      let e = holds_found _ (slice_get p.routines q) x.1 in
      let within = slice_get_within p.routines q e.0 e.1 in
      absurd (omega arith)

  outermost : (h : Head) → (tables p).head_at (length p.routines - 1) ≡ Some h → h.parent ≡ None
  outermost h known =
      let d = of_head (length p.routines - 1) h known in
      ap (λ (g : Head). g.parent) (sym d.2) ∙ no_parent d.0 (d.0).parent (p.in_scope.parent (length p.routines - 1) d.0 d.1)

  -- and it has no formals
  no_formals_in : (d : Routine) (o : Option ℕ) → o ≡ None → parent_fits p.routines (length p.routines - 1) d o ≡ true → length d.formals ≡ 0
  no_formals_in d None is h =
      let x = and_parts (nat_eq (suc (length p.routines - 1)) (length p.routines) && nat_eq d.level 0) _ h in
      eqb-true (length d.formals) 0 (and_parts (nat_eq (length d.formals) 0) _ x.1).0
  no_formals_in d (Some q) is h = absurd (none-some q (sym is))

  in_none : (v : ℕ) (formals : List ℕ) → length formals ≡ 0 → contains v formals ≡ true → ⊥
  in_none v [] e h = true≢false (sym h)
  in_none v (f ∷ formals) e h = omega arith

  var_formal : (r v : ℕ) (d : Routine) → slice_get p.routines r ≡ Some d → is_own (tables p) r kind.Var v ≡ true → contains v d.formals ≡ true
  var_formal r v d known own =
      let x = holds_found (λ (y : VarDef). nat_eq y.routine r && is_kind kind.Var y.kind) (slice_get p.vars v) own in
      let y = and_parts (nat_eq (x.0).routine r) _ x.2 in
      (p.in_scope.lists r d known).formals_all v x.0 x.1 ∙ and_from _ _ y.0 (ap is_formal (sym (same_kind kind.Var (x.0).kind y.1)))

  no_formals : (v : ℕ) → is_own (tables p) (length p.routines - 1) kind.Var v ≡ true → ⊥
  no_formals v own =
      let last = p.in_scope.last in
      let d = item_found p.routines (length p.routines - 1) (omega arith) in
      let fits = p.in_scope.parent (length p.routines - 1) d.0 d.1 in
      in_none v (d.0).formals (no_formals_in d.0 (d.0).parent (no_parent d.0 (d.0).parent fits) fits) (var_formal (length p.routines - 1) v d.0 d.1 own)

  formals : (r v : ℕ) (h : Head) → (tables p).head_at r ≡ Some h → is_own (tables p) r kind.Var v ≡ true → contains v h.formals ≡ true
  formals r v h known own =
      let d = of_head r h known in
      ap (λ (g : Head). contains v g.formals) (sym d.2) ∙ var_formal r v d.0 d.1 own

  of_routine : (r v : ℕ) (h : Head) (x : VarDef) → (tables p).head_at r ≡ Some h → contains v h.formals ≡ true → (tables p).var_at v ≡ Some x → x.routine ≡ r
  of_routine r v h x known among there =
      let d = of_head r h known in
      let is = sym ((p.in_scope.lists r d.0 d.1).formals_all v x there) ∙ ap (λ (g : Head). contains v g.formals) d.2 ∙ among in
      eqb-true x.routine r (and_parts (nat_eq x.routine r) _ is).0

  typed : (v : ℕ) (x : VarDef) → (tables p).var_at v ≡ Some x → is_some ((tables p).type_at x.of_type) ≡ true
  typed v x known =
      let in_range = and_parts (nat_lt x.routine (length p.routines)) _ (p.in_range.var v x known) in
      let d = item_found p.types x.of_type (ltb-true x.of_type (length p.types) in_range.1) in
      some_is (slice_get p.types x.of_type) d.0 d.1

  -- an element type stands before its array
  elements : (n index element : ℕ) → (tables p).type_at n ≡ Some (Array index element) → is_some ((tables p).type_at element) ≡ true
  elements n index element known =
      let within = slice_get_within p.types n (Array index element) known in
      let before = and_parts (nat_lt index n && nat_lt element n) _ (p.types_fit.each n (Array index element) known) in
      let lower = ltb-true element n (and_parts (nat_lt index n) _ before.0).1 in
      let d = item_found p.types element (omega arith) in
      some_is (slice_get p.types element) d.0 d.1

  pub tables_fit : TablesFit (tables p) (length p.routines - 1)
  tables_fit = record {
    outermost = outermost;
    no_formals = no_formals;
    formals = formals;
    of_routine = of_routine;
    typed = typed;
    elements = elements;
    low = λ n boolean lo hi known. (and_parts (in_host boolean lo) _ (p.types_fit.each n (Scalar boolean lo hi) known)).0;
    high = λ n boolean lo hi known. (and_parts (in_host boolean hi) _ (and_parts (in_host boolean lo) _ (p.types_fit.each n (Scalar boolean lo hi) known)).1).0;
  }

pub flow_is_well_formed : (f : Flow) → EntriesFit f.program f.points → EdgesLead f.points f.edges → EdgesPair (length f.program.routines - 1) f.points f.edges → IsWellFormed (chart_of f)
flow_is_well_formed f entries leads pairs =
    let last = f.program.in_scope.last in
    record {
      tables = tables_fit f.program;
      entry = entries.entry (length f.program.routines - 1) (omega arith);
      types = f.edges_fit.types;
      scopes = λ k r e known stands.
          let q = map_found (λ (x : Point). x.routine) (slice_get f.points e.from) r stands in
          subst (λ n. each_act (scope_rule (tables f.program) n) e.act ≡ true) q.2 (f.edges_fit.scopes k e q.0 known q.1);
      calls = f.calls_return;
      leads = leads;
      pairs = pairs;
      alike = edges_alike f;
    }
