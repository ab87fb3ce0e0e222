-- An assertion of a point stands in the classes of the point's routine, and what it leaves of an environment.
use Rattle.std.proofs.Common.{◌≡◌, ℕ, suc, ◌+◌, ◌<◌, Bool, true, false, List, Option, Some, drop, get_or, length, nat_eq, nat_lt, slice_get, refl, sym, ap, subst, ◌∙◌, add-one, drop-cons}
use Rattle.std.specs.List.{list_all}
use Rattle.std.specs.Prelude.{if◌then◌else◌}
use Rattle.std.proofs.lemmas.Bool.{and_parts, eqb-true, ltb-true}
use Rattle.std.proofs.lemmas.Option.{slice_get-get_or}
use Rattle.alias_class.specs.Cells.{IsClass, routine_of}
use Rattle.alias_class.specs.Classes.{Class}
use Rattle.alias_class.specs.declared.outline.Outline.{Outline}
use Rattle.alias_class.specs.Outlines.{outline_of}
use Rattle.abstract_expr.specs.Expressions.{Scope, refined, truth_of}
use Rattle.abstract_expr.specs.Standing.{seen_rule}
use Rattle.activations.specs.Drawn.{Drawn}
use Rattle.control_points.specs.declared.flow.Flow.{Flow}
use Rattle.control_points.specs.declared.point.Point.{Point}
use Rattle.control_points.specs.Fits.{routine_at}
use Rattle.environment.specs.Environments.{Environment}
use Rattle.pas_program.specs.declared.routine.Assert.{Assert}
use Rattle.pas_program.specs.Checked.{numbers_in, scope_in, tables}
use Rattle.pas_program.specs.Each.{each_expr}
use Rattle.pas_program.specs.Labels.{assertion_rule}
use Rattle.pas_program.specs.Tables.{holds_of}
use Rattle.pas_program.specs.Typed.{hosted}
use Rattle.transfer_fwd.specs.Forward.{all_assumed, assumed}
use Rattle.transfer_fwd.proofs.Called.{ExprsSeen, holds_at}
use Rattle.transfer_fwd.proofs.StandingActs.{routine_by}

-- what the law of assertions says
abbrev pub AssertsOwn : Type 0
AssertsOwn = (f : Flow) (p : ℕ) (q : Point) (listed : List ℕ) → slice_get f.points p ≡ Some q → slice_get f.asserts p ≡ Some listed → list_all (assertion_rule f.program.asserts q.routine).assertion listed ≡ true

-- the assertion at the number i of a list
module _ (f : Flow) (p : ℕ) (listed : List ℕ) (at : slice_get f.asserts p ≡ Some listed) (i : ℕ) (inside : i < length listed) where
  pub assert_inside : get_or listed i 0 < length f.program.asserts
  assert_inside = ltb-true _ _ (holds_at (λ a. nat_lt a (length f.program.asserts)) listed i 0 (f.asserts_fit.numbers p listed at) inside)

  module _ (read : List Assert) (all : read ≡ f.program.asserts) (d : Assert) (is : d ≡ get_or read (get_or listed i 0) d) where
    pub assert_known : slice_get f.program.asserts (get_or listed i 0) ≡ Some d
    assert_known = slice_get-get_or f.program.asserts (get_or listed i 0) d assert_inside ∙ ap (λ (ds : List Assert). Some (get_or ds (get_or listed i 0) d)) (sym all) ∙ ap Some (sym is)

    pub assert_numbers : each_expr (numbers_in f.program) d.cond ≡ true
    assert_numbers = f.program.in_range.condition (get_or listed i 0) d assert_known

    pub assert_types : (hosted (tables f.program) d.cond).fits ≡ true
    assert_types = (and_parts (hosted (tables f.program) d.cond).fits _ (f.program.well_typed.condition (get_or listed i 0) d assert_known)).0

    pub assert_seen : AssertsOwn → ExprsSeen → (o : Outline) → o ≡ outline_of f → (c : Class) → IsClass o c → routine_at f.points p ≡ Some (routine_of o c) → each_expr (seen_rule o c) d.cond ≡ true
    assert_seen asserts exprs o same c valid stands =
        let r = routine_of (outline_of f) c in
        let point = routine_by f p r (slice_get f.points p) refl (stands ∙ ap (λ (x : Outline). Some (routine_of x c)) same) in
        let own : holds_of (λ (e : Assert). nat_eq e.routine point.0.routine) (slice_get f.program.asserts (get_or listed i 0)) ≡ true =
        holds_at (assertion_rule f.program.asserts point.0.routine).assertion listed i 0 (asserts f p point.0 listed point.1 at) inside in
        let here : d.routine ≡ r = eqb-true d.routine point.0.routine (sym (ap (holds_of (λ (e : Assert). nat_eq e.routine point.0.routine)) assert_known) ∙ own) ∙ point.2 in
        let scoped = subst (λ (n : ℕ). each_expr (scope_in f.program n) d.cond ≡ true) here (f.program.in_scope.condition (get_or listed i 0) d assert_known) in
        subst (λ (x : Outline). each_expr (seen_rule x c) d.cond ≡ true) (sym same) (exprs f.program c d.cond (subst (λ (x : Outline). IsClass x c) same valid) scoped)

-- ---- what an assertion leaves

module _ (f : Flow) (g : Drawn) (s : Scope) where
  pub assumed_always : (d : Assert) (env : Environment) → d.sometime ≡ false → assumed f g s (Some d) env ≡ refined s d.cond (truth_of true) env
  assumed_always d env always = ap (λ (b : Bool). if b then env else refined s d.cond (truth_of true) env) always

  pub assumed_sometime : (d : Assert) (env : Environment) → d.sometime ≡ true → assumed f g s (Some d) env ≡ env
  assumed_sometime d env sometime = ap (λ (b : Bool). if b then env else refined s d.cond (truth_of true) env) sometime

  -- after one more assertion
  pub one_assumed : (listed : List ℕ) (i : ℕ) (d : Assert) (env out : Environment) → i < length listed → slice_get f.program.asserts (get_or listed i 0) ≡ Some d → out ≡ assumed f g s (Some d) env
      → all_assumed f g s (drop (i + 1) listed) out ≡ all_assumed f g s (drop i listed) env
  one_assumed listed i d env out inside known is =
      ap (λ (n : ℕ). all_assumed f g s (drop n listed) out) (add-one i)
      ∙ ap (all_assumed f g s (drop (suc i) listed)) (is ∙ ap (λ (o : Option Assert). assumed f g s o env) (sym known))
      ∙ ap (λ (ns : List ℕ). all_assumed f g s ns env) (sym (drop-cons listed i 0 inside))
