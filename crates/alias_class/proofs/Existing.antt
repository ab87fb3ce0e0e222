-- A variable with a cell of its own is one of its activation.
use Rattle.std.proofs.Common.{◌≡◌, ℕ, true, false, ◌&&◌, not, ◌∷◌, length, Option, Some, nat_eq, nat_lt, refl, sym, ap, ◌∙◌, arith}
use Rattle.std.specs.Option.{option_map, unwrap_or}
use Rattle.std.specs.Prelude.{slice_get}
use Rattle.std.proofs.lemmas.Bool.Decides.{nat_tests}
use Rattle.pas_program.specs.declared.program.Program.{Program}
use Rattle.pas_program.specs.declared.routine.Routine.{Routine}
use Rattle.pas_program.specs.declared.variable.VarDef.{VarDef}
use Rattle.pas_program.specs.declared.variable.VarKind.TheVariants as kind
use Rattle.pas_program.specs.Scopes.{contains}
use Rattle.pas_program.specs.Tables.{holds_of, is_kind}
use Rattle.control_points.specs.declared.flow.Flow.{Flow}
use Rattle.control_points.specs.Flows.{chart_of}
use Rattle.control_points.specs.States.{Activation, Stack}
use Rattle.control_points.specs.Storage.{Place, whole}
use Rattle.alias_class.specs.declared.outline.RoutineOutline.{RoutineOutline}
use Rattle.alias_class.specs.Outlines.{is_var_formal, outline_of, outline_of_program, own_of, own_variables}
use Rattle.alias_class.specs.Storage.{IsVariable}
use Rattle.alias_class.proofs.Frames.{frame_latest, frame_lower, frame_within}
use Rattle.alias_class.proofs.Lists.{and_left, and_right, contains-filter, found, not_true}
use Rattle.alias_class.proofs.Outlining.{by_routine, listed}

-- a variable with a cell of its own
record IsOwn (p : Program) (r v : ℕ) : Type 0 where
  variable : VarDef
  known : slice_get p.vars v ≡ Some variable
  routine : variable.routine ≡ r
  stored : is_kind kind.Var variable.kind ≡ false

own_is_one : (p : Program) (r v : ℕ) → contains v (own_of (outline_of_program p) r) ≡ true → IsOwn p r v
own_is_one p r v = by_routine p (λ (x : RoutineOutline). contains v x.own ≡ true → IsOwn p r v) r (λ e. absurd (grind arith)) each
  where
    each : (d : Routine) → slice_get p.routines r ≡ Some d → contains v (own_variables p.vars d) ≡ true → IsOwn p r v
    each d is e =
        let both : (not (is_var_formal p.vars v) && contains v d.vars) ≡ true = sym (contains-filter (λ v. not (is_var_formal p.vars v)) v d.vars) ∙ e in
        let there = and_right (not (is_var_formal p.vars v)) (contains v d.vars) both in
        let x = listed p r d is v there in
        let same : nat_eq x.0.routine r ≡ true = sym ((p.in_scope.lists r d is).vars_all v x.0 x.1) ∙ there in
        let formal : is_var_formal p.vars v ≡ is_kind kind.Var x.0.kind = ap (holds_of (λ (y : VarDef). is_kind kind.Var y.kind)) x.1 in
        record {
          variable = x.0;
          known = x.1;
          routine = grind (arith, nat_tests);
          stored = sym formal ∙ not_true (is_var_formal p.vars v) (and_left (not (is_var_formal p.vars v)) (contains v d.vars) both);
        }

module _ (f : Flow) where
  pub own_variable_is : (a : Activation) (below : Stack) (v : ℕ) → contains v (own_of (outline_of f) a.frame.routine) ≡ true → IsVariable (chart_of f) (outline_of f) (a ∷ below) (whole (length below) v)
  own_variable_is a below v h =
      let x = own_is_one f.program a.frame.routine v h in
      let test = and_right (nat_lt x.variable.routine (length f.program.routines)) (nat_lt x.variable.of_type (length f.program.types)) (f.program.in_range.var v x.variable x.known) in
      let t = found f.program.types x.variable.of_type (grind (arith, nat_tests)) in
      record {
        exists = record {
          frame = a.frame;
          variable = x.variable;
          of_type = t.0;
          activation = frame_latest a below;
          known = x.known;
          own = x.routine;
          stored = x.stored;
          typed = ap (λ (y : Option VarDef). slice_get f.program.types (unwrap_or (option_map (λ (d : VarDef). d.of_type) y) 0)) x.known ∙ t.1;
        };
        whole = refl;
      }

  -- it stays one with one activation more
  pub stays_variable : (a : Activation) (below : Stack) (p : Place) → IsVariable (chart_of f) (outline_of f) below p → IsVariable (chart_of f) (outline_of f) (a ∷ below) p
  stays_variable a below p is =
      let x = is.exists in
      record {
        exists = record {
          frame = x.frame;
          variable = x.variable;
          of_type = x.of_type;
          activation = frame_lower a below p.depth (frame_within below p.depth x.frame x.activation) ∙ x.activation;
          known = x.known;
          own = x.own;
          stored = x.stored;
          typed = x.typed;
        };
        whole = is.whole;
      }
