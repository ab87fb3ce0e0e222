-- What leaves a point of a class's routine, and what stands there.
use Rattle.std.proofs.Common.{◌≡◌, ℕ, zero, suc, ◌<◌, ◌≤◌, Bool, true, false, List, [], ◌∷◌, length, get_or, refl, sym, ap, subst, ◌∙◌, arith, Option, Some, None}
use Rattle.std.specs.List.{list_all, slice_get}
use Rattle.std.specs.Option.{option_and_then, option_map}
use Rattle.std.specs.Prelude.{nat_eq, nat_lt}
use Rattle.std.proofs.lemmas.Bool.{and_from, and_parts, eq-eqb, eqb-true, false≢true, true≢false}
use Rattle.std.proofs.lemmas.Bool.{ltb-true}
use Rattle.pas_program.specs.declared.program.Program.{Program}
use Rattle.pas_program.specs.declared.routine.Assert.{Assert}
use Rattle.pas_program.specs.declared.routine.Routine.{Routine}
use Rattle.pas_program.specs.declared.variable.VarDef.{VarDef}
use Rattle.pas_program.specs.Checked.{scope_in, tables}
use Rattle.pas_program.specs.Each.{each_expr, true_if_some}
use Rattle.pas_program.specs.Labels.{assertion_rule}
use Rattle.pas_program.specs.Scopes.{is_the}
use Rattle.pas_program.specs.Tables.{Head, head_of, holds_of, is_around, is_visible, leads_within}
use Rattle.control_points.specs.declared.edge.Act.{Act}
use Rattle.control_points.specs.declared.edge.Edge.{Edge}
use Rattle.control_points.specs.declared.point.Point.{Point}
use Rattle.control_points.specs.declared.point.PointKind.{PointKind}
use Rattle.control_points.specs.declared.point.PointKind.TheVariants as kind
use Rattle.control_points.specs.Acts.{each_act}
use Rattle.control_points.specs.Chart.{Chart, leaving, place_of_point}
use Rattle.control_points.specs.Fits.{kind_at}
use Rattle.control_points.specs.Judgements.{act_judgements, first_judgements, edge_judgements, judgements_at, leaving_judgements, own_judgements, result_judgements, result_of}
use Rattle.control_points.specs.Leading.{is_exit}
use Rattle.alias_class.specs.declared.outline.Outline.{Outline}
use Rattle.alias_class.specs.Cells.{IsClass, routine_of}
use Rattle.alias_class.specs.Classes.{Class}
use Rattle.alias_class.specs.Outlines.{outline_of_program}
use Rattle.abstract_expr.specs.Standing.{seen_rule}
use Rattle.abstract_expr.proofs.ActsSeen.{act_seen, expr_seen}
use Rattle.abstract_expr.proofs.Seen.{Holds, leads_here, variable_seen}

-- ---- which judgements

leaving_exit : (c : Chart) (p : ℕ) (q : Point) (k : PointKind) → is_exit k ≡ true → leaving_judgements c p q k ≡ result_judgements (result_of c.tables q.routine) q.at
leaving_exit c p q kind.Exit h = refl
leaving_exit c p q kind.Entry h = absurd (false≢true h)
leaving_exit c p q kind.Before h = absurd (false≢true h)
leaving_exit c p q kind.AfterCall h = absurd (false≢true h)
leaving_exit c p q kind.AfterRead h = absurd (false≢true h)
leaving_exit c p q kind.AfterWrite h = absurd (false≢true h)
leaving_exit c p q kind.Until h = absurd (false≢true h)
leaving_exit c p q kind.Step h = absurd (false≢true h)

leaving_action : (c : Chart) (p : ℕ) (q : Point) (k : PointKind) → is_exit k ≡ false → leaving_judgements c p q k ≡ first_judgements c (leaving c.edges p)
leaving_action c p q kind.Exit h = absurd (true≢false h)
leaving_action c p q kind.Entry h = refl
leaving_action c p q kind.Before h = refl
leaving_action c p q kind.AfterCall h = refl
leaving_action c p q kind.AfterRead h = refl
leaving_action c p q kind.AfterWrite h = refl
leaving_action c p q kind.Until h = refl
leaving_action c p q kind.Step h = refl

pub own_exit : (c : Chart) (p : ℕ) (q : Point) → slice_get c.points p ≡ Some q → is_exit q.kind ≡ true → own_judgements c p ≡ result_judgements (result_of c.tables q.routine) q.at
own_exit c p q found h = ap (judgements_at c p) found ∙ leaving_exit c p q q.kind h

pub own_action : (c : Chart) (p : ℕ) (q : Point) → slice_get c.points p ≡ Some q → is_exit q.kind ≡ false → own_judgements c p ≡ first_judgements c (leaving c.edges p)
own_action c p q found h = ap (judgements_at c p) found ∙ leaving_action c p q q.kind h

pub first_is : (c : Chart) (l : List ℕ) (e : Edge) → 1 ≤ length l → slice_get c.edges (get_or l 0 0) ≡ Some e → first_judgements c l ≡ act_judgements c (place_of_point c.points e.from) e.act
first_is c [] e h found = absurd (omega arith)
first_is c (k ∷ ks) e h found = ap (edge_judgements c) found

pub none_first : (c : Chart) (l : List ℕ) → length l < 1 → first_judgements c l ≡ []
none_first c [] h = refl
none_first c (k ∷ ks) h = absurd (omega arith)

-- no return leaves a point that is no exit
pub not_return : (points : List Point) (p : ℕ) (q : Point) (b : Bool) → slice_get points p ≡ Some q → is_exit q.kind ≡ false → (b ≡ true → kind_at points p ≡ Some kind.Exit) → b ≡ false
not_return points p q false found inside back = refl
not_return points p q true found inside back =
    let same : ◌≡◌ {A = Option PointKind} (Some q.kind) (Some kind.Exit) = ap (option_map (λ (x : Point). x.kind)) (sym found) ∙ back refl in
    let exit : q.kind ≡ kind.Exit = cc in
    absurd (true≢false (ap is_exit (sym exit) ∙ inside))

-- ---- what is seen

-- the item at a place
pub item_at : {A : Type 0} (xs : List A) (k : ℕ) → k < length xs → Holds A (λ x. true) (slice_get xs k)
item_at [] k h = absurd (omega arith)
item_at (x ∷ xs) zero h = record { one = x; is = refl; holds = refl }
item_at (x ∷ xs) (suc k) h = let i = item_at xs k (omega arith) in record { one = i.one; is = i.is; holds = refl }

pub routine_is : (o : Option Point) (q : Point) (r : ℕ) → o ≡ Some q → option_map (λ (x : Point). x.routine) o ≡ Some r → q.routine ≡ r
routine_is o q r found is = let same : ◌≡◌ {A = Option ℕ} (Some q.routine) (Some r) = ap (option_map (λ (x : Point). x.routine)) (sym found) ∙ is in cc

module _ (p : Program) (o : Outline) (c : Class) (program : o ≡ outline_of_program p) (is : IsClass o c) where
  class_is : IsClass (outline_of_program p) c
  class_is = subst (λ (x : Outline). IsClass x c) program is

  here : (r : ℕ) → r ≡ routine_of o c → r ≡ routine_of (outline_of_program p) c
  here r same = same ∙ ap (λ (x : Outline). routine_of x c) program

  pub act_seen_here : (r : ℕ) (a : Act) → r ≡ routine_of o c → each_act (scope_in p r) a ≡ true → each_act (seen_rule o c) a ≡ true
  act_seen_here r a same h =
      subst (λ (x : Outline). each_act (seen_rule x c) a ≡ true) (sym program)
      (act_seen p c class_is a (subst (λ (n : ℕ). each_act (scope_in p n) a ≡ true) (here r same) h))

  pub variable_seen_here : (r v : ℕ) → r ≡ routine_of o c → is_visible (tables p) r v ≡ true → (seen_rule o c).variable v ≡ true
  variable_seen_here r v same h =
      subst (λ (x : Outline). (seen_rule x c).variable v ≡ true) (sym program)
      (variable_seen p c class_is v (subst (λ (n : ℕ). is_visible (tables p) n v ≡ true) (here r same) h))

  -- ---- the result of a function

  result_visible : (r v : ℕ) (d : Routine) → slice_get p.routines r ≡ Some d → d.result ≡ Some v → is_visible (tables p) r v ≡ true
  result_visible r v d found result =
      let range = and_parts _ _ (and_parts _ _ (p.in_range.routine r d found)).0 in
      let lt : nat_lt v (length p.vars) ≡ true = ap (λ (x : Option ℕ). true_if_some (option_map (λ v. nat_lt v (length p.vars)) x)) (sym result) ∙ range.1 in
      let x = item_at p.vars v (ltb-true v (length p.vars) lt) in
      let own = sym ((p.in_scope.lists r d found).result_only v x.one x.is) ∙ ap (is_the v) result ∙ eq-eqb v v refl in
      let same : x.one.routine ≡ r = eqb-true x.one.routine r (and_parts (nat_eq x.one.routine r) _ own).0 in
      ap (holds_of (λ (y : VarDef). is_around (tables p) r y.routine)) x.is
      ∙ ap (is_around (tables p) r) same
      ∙ ap (λ (y : Option Routine). holds_of (λ (h : Head). leads_within h.level (tables p) r r) (option_map head_of y)) found
      ∙ leads_here p r d.level

  result_by : (r : ℕ) (d : Option Routine) → r ≡ routine_of o c → slice_get p.routines r ≡ d → (v : Option ℕ) → option_and_then (λ (h : Head). h.result) (option_map head_of d) ≡ v → true_if_some (option_map (seen_rule o c).variable v) ≡ true
  result_by r None same found v is = ap (λ (x : Option ℕ). true_if_some (option_map (seen_rule o c).variable x)) (sym is)
  result_by r (Some d) same found None is = refl
  result_by r (Some d) same found (Some v) is = variable_seen_here r v same (result_visible r v d found is)

  pub result_seen : (r : ℕ) → r ≡ routine_of o c → true_if_some (option_map (seen_rule o c).variable (result_of (tables p) r)) ≡ true
  result_seen r same = result_by r (slice_get p.routines r) same refl (result_of (tables p) r) refl

  -- ---- assertions

  one_asserted : (r a : ℕ) (d : Option Assert) → r ≡ routine_of o c → slice_get p.asserts a ≡ d → holds_of (λ (d : Assert). nat_eq d.routine r) d ≡ true → holds_of (λ (d : Assert). each_expr (seen_rule o c) d.cond) d ≡ true
  one_asserted r a None same found h = h
  one_asserted r a (Some d) same found h =
      subst (λ (x : Outline). each_expr (seen_rule x c) d.cond ≡ true) (sym program)
      (expr_seen p c class_is d.cond (subst (λ (n : ℕ). each_expr (scope_in p n) d.cond ≡ true) (eqb-true d.routine r h ∙ here r same) (p.in_scope.condition a d found)))

  pub asserted_seen : (r : ℕ) (listed : List ℕ) → r ≡ routine_of o c → list_all (assertion_rule p.asserts r).assertion listed ≡ true
      → list_all (λ a. holds_of (λ (d : Assert). each_expr (seen_rule o c) d.cond) (slice_get p.asserts a)) listed ≡ true
  asserted_seen r [] same h = refl
  asserted_seen r (a ∷ listed) same h =
      let b = and_parts ((assertion_rule p.asserts r).assertion a) _ h in
      and_from _ _ (one_asserted r a (slice_get p.asserts a) same refl b.0) (asserted_seen r listed same b.1)
