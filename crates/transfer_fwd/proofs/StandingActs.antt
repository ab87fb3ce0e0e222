-- An action of the flow stands in the classes of its point's routine.
use Rattle.std.proofs.Common.{◌≡◌, ℕ, zero, suc, ◌<◌, true, ◌&&◌, ◌||◌, List, [], ◌∷◌, Option, Some, None, length, nat_eq, slice_get, refl, sym, ap, subst, ◌∙◌, arith}
use Rattle.std.specs.Option.{option_map}
use Rattle.std.proofs.lemmas.Bool.{and_from, and_parts, eq-eqb, eqb-true}
use Rattle.alias_class.specs.Cells.{IsClass, routine_of}
use Rattle.alias_class.specs.Classes.{Class}
use Rattle.alias_class.specs.declared.outline.Outline.{Outline}
use Rattle.alias_class.specs.Outlines.{outline_of}
use Rattle.abstract_expr.specs.Standing.{seen_rule}
use Rattle.control_points.specs.declared.edge.Act.{Act}
use Rattle.control_points.specs.declared.edge.Act.TheVariants as act
use Rattle.control_points.specs.declared.edge.Edge.{Edge}
use Rattle.control_points.specs.declared.flow.Flow.{Flow}
use Rattle.control_points.specs.declared.point.Point.{Point}
use Rattle.control_points.specs.Acts.{each_act}
use Rattle.control_points.specs.Fits.{routine_at}
use Rattle.control_points.specs.Leading.{goes_on_after}
use Rattle.pas_program.specs.declared.expr.Access.{Access}
use Rattle.pas_program.specs.declared.expr.Expr.{Expr}
use Rattle.pas_program.specs.declared.routine.Routine.{Routine}
use Rattle.pas_program.specs.declared.statement.WriteValue.{WriteValue}
use Rattle.pas_program.specs.declared.statement.WriteValue.TheVariants as written
use Rattle.pas_program.specs.declared.variable.VarDef.{VarDef}
use Rattle.pas_program.specs.declared.variable.VarKind.TheVariants as kind
use Rattle.pas_program.specs.Checked.{scope_in, tables}
use Rattle.pas_program.specs.Each.{Rule, each_access, each_expr, each_written, true_if_some}
use Rattle.pas_program.specs.Scopes.{scope_rule}
use Rattle.pas_program.specs.Tables.{Head, Tables, head_of, holds_of, is_around, is_kind, is_own, is_visible, leads_within}
use Rattle.transfer_fwd.specs.Standing.{loop_seen}
use Rattle.transfer_fwd.proofs.Called.{AccessesSeen, ExprsSeen, variable_seen}

-- what holds of the parts of an action by one rule, holds by another one
module _ (q r : Rule) (exprs : (e : Expr) → each_expr q e ≡ true → each_expr r e ≡ true) (accesses : (a : Access) → each_access q a ≡ true → each_access r a ≡ true)
    (loops : (control bound : ℕ) → r.loop control bound ≡ true) where
  written_by : (v : WriteValue) → each_written q v ≡ true → each_written r v ≡ true
  written_by (written.Value e) h = exprs e h
  written_by (written.Text bytes at) h = refl

  width_by : (o : Option Expr) → true_if_some (option_map (each_expr q) o) ≡ true → true_if_some (option_map (each_expr r) o) ≡ true
  width_by None h = refl
  width_by (Some e) h = exprs e h

  turn_by : (control bound : ℕ) (first last : Expr) → q.loop control bound && (each_expr q first && each_expr q last) ≡ true → r.loop control bound && (each_expr r first && each_expr r last) ≡ true
  turn_by control bound first last h =
      let p = and_parts (each_expr q first) (each_expr q last) (and_parts (q.loop control bound) (each_expr q first && each_expr q last) h).1 in
      and_from _ _ (loops control bound) (and_from _ _ (exprs first p.0) (exprs last p.1))

  pub act_by : (a : Act) → goes_on_after a ≡ true → each_act q a ≡ true → each_act r a ≡ true
  act_by act.Skip on h = refl
  act_by (act.Assign target value) on h = let p = and_parts (each_access q target) (each_expr q value) h in and_from _ _ (accesses target p.0) (exprs value p.1)
  act_by (act.Copy target source) on h = let p = and_parts (each_access q target) (each_access q source) h in and_from _ _ (accesses target p.0) (accesses source p.1)
  act_by (act.Call routine actuals slot at) on h = absurd (grind (arith, on))
  act_by (act.Return call) on h = refl
  act_by (act.Goto routine) on h = absurd (grind (arith, on))
  act_by (act.Test e wanted) on h = exprs e h
  act_by (act.Arm selector constants) on h = exprs selector h
  act_by (act.Enter control bound first down last) on h = turn_by control bound first last h
  act_by (act.Bypass control bound first down last) on h = turn_by control bound first last h
  act_by (act.Next control bound down) on h = loops control bound
  act_by (act.Finish control bound down) on h = loops control bound
  act_by (act.Read target) on h = accesses target h
  act_by act.DropLine on h = refl
  act_by (act.Write item) on h =
      let p = and_parts (each_written q item.value) (true_if_some (option_map (each_expr q) item.width)) h in
      and_from _ _ (written_by item.value p.0) (width_by item.width p.1)
  act_by act.EndLine on h = refl

-- the control variable of a `for` is visible, and its bound is the routine's own
module _ (t : Tables) (r : ℕ) (seen : Rule) (visible : (v : ℕ) → is_visible t r v ≡ true → seen.variable v ≡ true) (own : (v : ℕ) → is_own t r kind.Bound v ≡ true → seen.variable v ≡ true) where
  turn_seen : (control bound : ℕ) → (scope_rule t r).loop control bound ≡ true → seen.variable control && seen.variable bound ≡ true
  turn_seen control bound h = let p = and_parts (is_visible t r control) (is_own t r kind.Bound bound) h in and_from _ _ (visible control p.0) (own bound p.1)

  loop_by : (a : Act) → each_act (scope_rule t r) a ≡ true → loop_seen seen a ≡ true
  loop_by (act.Enter control bound first down last) h = turn_seen control bound (and_parts ((scope_rule t r).loop control bound) (each_expr (scope_rule t r) first && each_expr (scope_rule t r) last) h).0
  loop_by (act.Bypass control bound first down last) h = turn_seen control bound (and_parts ((scope_rule t r).loop control bound) (each_expr (scope_rule t r) first && each_expr (scope_rule t r) last) h).0
  loop_by (act.Next control bound down) h = turn_seen control bound h
  loop_by (act.Finish control bound down) h = turn_seen control bound h
  loop_by _ h = refl

-- ---- a routine's own variables are visible in it

leads_here : (t : Tables) (r n : ℕ) → leads_within n t r r ≡ true
leads_here t r zero = eq-eqb r r refl
leads_here t r (suc n) = ap (λ b. b || holds_of (λ (h : Head). holds_of (λ q. leads_within n t q r) h.parent) (t.head_at r)) (eq-eqb r r refl)

bound_visible : (t : Tables) (r v : ℕ) (h : Head) → t.head_at r ≡ Some h → is_own t r kind.Bound v ≡ true → is_visible t r v ≡ true
bound_visible t r v h head own = by (t.var_at v) own
  where
    by : (o : Option VarDef) → holds_of (λ (d : VarDef). nat_eq d.routine r && is_kind kind.Bound d.kind) o ≡ true → holds_of (λ (d : VarDef). is_around t r d.routine) o ≡ true
    by None own = own
    by (Some d) own =
        ap (is_around t r) (eqb-true d.routine r (and_parts (nat_eq d.routine r) (is_kind kind.Bound d.kind) own).0)
        ∙ ap (holds_of (λ (x : Head). leads_within x.level t r r)) head ∙ leads_here t r h.level

head_there : (routines : List Routine) (r : ℕ) → r < length routines → (h : Head) × (option_map head_of (slice_get routines r) ≡ Some h)
head_there [] r inside = absurd (omega (arith, inside))
head_there (d ∷ routines) zero inside = (head_of d, refl)
head_there (d ∷ routines) (suc r) inside = head_there routines r (omega (arith, inside))

-- ---- an action of the flow

pub routine_by : (f : Flow) (n r : ℕ) (o : Option Point) → slice_get f.points n ≡ o → option_map (λ (q : Point). q.routine) o ≡ Some r → (q : Point) × (slice_get f.points n ≡ Some q) × (q.routine ≡ r)
routine_by f n r None at h = absurd (grind arith)
routine_by f n r (Some q) at h = (q, at, grind (arith, h))

-- an action stands in a class of the outline, of the routine of its point
module _ (f : Flow) (o : Outline) (same : o ≡ outline_of f) (c : Class) (valid : IsClass o c) (k : ℕ) (e : Edge) (known : slice_get f.edges k ≡ Some e)
    (stands : routine_at f.points e.from ≡ Some (routine_of o c)) (accesses : AccessesSeen) where
  here : IsClass (outline_of f) c
  here = subst (λ (x : Outline). IsClass x c) same valid

  point : (q : Point) × (slice_get f.points e.from ≡ Some q) × (q.routine ≡ routine_of (outline_of f) c)
  point = routine_by f e.from (routine_of (outline_of f) c) (slice_get f.points e.from) refl (stands ∙ ap (λ (x : Outline). Some (routine_of x c)) same)

  in_scope : each_act (scope_in f.program (routine_of (outline_of f) c)) e.act ≡ true
  in_scope = subst (λ (r : ℕ). each_act (scope_in f.program r) e.act ≡ true) point.2 (f.edges_fit.scopes k e point.0 known point.1)

  pub act_seen : ExprsSeen → goes_on_after e.act ≡ true → each_act (seen_rule o c) e.act ≡ true
  act_seen exprs on =
      subst (λ (x : Outline). each_act (seen_rule x c) e.act ≡ true) (sym same)
      (act_by (scope_in f.program (routine_of (outline_of f) c)) (seen_rule (outline_of f) c) (λ x. exprs f.program c x here) (λ x. accesses f.program c x here) (λ control bound. refl) e.act on in_scope)

  pub act_loop_seen : loop_seen (seen_rule o c) e.act ≡ true
  act_loop_seen =
      let r = routine_of (outline_of f) c in
      let head = head_there f.program.routines r (subst (λ (n : ℕ). n < length f.program.routines) point.2 (f.points_fit.routine e.from point.0 point.1)) in
      let visible = variable_seen accesses f.program c here in
      subst (λ (x : Outline). loop_seen (seen_rule x c) e.act ≡ true) (sym same)
      (loop_by (tables f.program) r (seen_rule (outline_of f) c) visible (λ v own. visible v (bound_visible (tables f.program) r v head.0 head.1 own)) e.act in_scope)
