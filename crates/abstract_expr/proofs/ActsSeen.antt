-- What an action in the routine of a class uses is seen from the class.
use Rattle.std.proofs.Common.{◌≡◌, ℕ, Bool, true, List, [], ◌∷◌, map, refl, sym, ◌∙◌, Option, Some, None}
use Rattle.std.specs.Option.{option_map}
use Rattle.std.proofs.lemmas.Bool.{and_from, and_parts}
use Rattle.pas_program.specs.declared.expr.Access.{Access}
use Rattle.pas_program.specs.declared.expr.Actual.{Actual}
use Rattle.pas_program.specs.declared.expr.Actual.TheFolds.{fold_out-Actual, map-Actual}
use Rattle.pas_program.specs.declared.expr.Actual.TheOpen.{Actual-F}
use Rattle.pas_program.specs.declared.expr.Actual.TheViews.{out-Actual}
use Rattle.pas_program.specs.declared.expr.Expr.{Expr}
use Rattle.pas_program.specs.declared.expr.ExprForm.{ExprForm}
use Rattle.pas_program.specs.declared.program.Program.{Program}
use Rattle.pas_program.specs.declared.statement.WriteValue.{WriteValue}
use Rattle.pas_program.specs.declared.statement.WriteValue.TheVariants as written
use Rattle.pas_program.specs.Checked.{scope_in}
use Rattle.pas_program.specs.Each.{Rule, actual_step, form_step, access_step, expr_step, all_true, each_access, each_actual, each_expr, each_form, each_written, true_if_some}
use Rattle.control_points.specs.declared.edge.Act.{Act}
use Rattle.control_points.specs.declared.edge.Act.TheVariants as act
use Rattle.control_points.specs.Acts.{callee_passes, each_act}
use Rattle.alias_class.specs.Cells.{IsClass, routine_of}
use Rattle.alias_class.specs.Classes.{Class}
use Rattle.alias_class.specs.Outlines.{outline_of_program}
use Rattle.abstract_expr.specs.Standing.{seen_rule}
use Rattle.abstract_expr.proofs.Seen.{call_seen, variable_seen}
use Rattle.abstract_expr.proofs.Weaker.{access_weaker, expr_weaker}

module _ (p : Program) (c : Class) (is : IsClass (outline_of_program p) c) where
  abbrev q : Rule
  q = scope_in p (routine_of (outline_of_program p) c)

  abbrev u : Rule
  u = seen_rule (outline_of_program p) c

  pub expr_seen : (e : Expr) → each_expr q e ≡ true → each_expr u e ≡ true
  expr_seen = expr_weaker q u (variable_seen p c is) (call_seen p c is)

  access_seen : (a : Access) → each_access q a ≡ true → each_access u a ≡ true
  access_seen = access_weaker q u (variable_seen p c is) (call_seen p c is)

  step_seen : (d : Actual-F Actual ExprForm Access Expr) → actual_step (map-Actual Actual ExprForm Access Expr Bool Bool Bool Bool (each_actual q) (each_form q) (each_access q) (each_expr q) d) ≡ true
      → actual_step (map-Actual Actual ExprForm Access Expr Bool Bool Bool Bool (each_actual u) (each_form u) (each_access u) (each_expr u) d) ≡ true
  step_seen (Actual-F.«Actual::Value» e) h = expr_seen e h
  step_seen (Actual-F.Whole a) h = access_seen a h
  step_seen (Actual-F.Var a) h = access_seen a h

  actual_seen : (a : Actual) → each_actual q a ≡ true → each_actual u a ≡ true
  actual_seen a h =
      fold_out-Actual Bool Bool Bool Bool actual_step (form_step u) (access_step u) expr_step a
      ∙ step_seen (out-Actual a) (sym (fold_out-Actual Bool Bool Bool Bool actual_step (form_step q) (access_step q) expr_step a) ∙ h)

  actuals_seen : (xs : List Actual) → all_true (map (each_actual q) xs) ≡ true → all_true (map (each_actual u) xs) ≡ true
  actuals_seen [] h = refl
  actuals_seen (x ∷ xs) h = let b = and_parts (each_actual q x) _ h in and_from _ _ (actual_seen x b.0) (actuals_seen xs b.1)

  callee_seen : (routine : ℕ) (slot : Option ℕ) → callee_passes q routine slot ≡ true → callee_passes u routine slot ≡ true
  callee_seen routine None h = refl
  callee_seen routine (Some slot) h = call_seen p c is routine slot h

  written_seen : (w : WriteValue) → each_written q w ≡ true → each_written u w ≡ true
  written_seen (written.Value e) h = expr_seen e h
  written_seen (written.Text bytes at) h = refl

  width_seen : (w : Option Expr) → true_if_some (option_map (each_expr q) w) ≡ true → true_if_some (option_map (each_expr u) w) ≡ true
  width_seen None h = refl
  width_seen (Some e) h = expr_seen e h

  pub act_seen : (a : Act) → each_act q a ≡ true → each_act u a ≡ true
  act_seen act.Skip h = refl
  act_seen (act.Assign target value) h = let b = and_parts (each_access q target) _ h in and_from _ _ (access_seen target b.0) (expr_seen value b.1)
  act_seen (act.Copy target source) h = let b = and_parts (each_access q target) _ h in and_from _ _ (access_seen target b.0) (access_seen source b.1)
  act_seen (act.Call routine actuals slot at) h = let b = and_parts (callee_passes q routine slot) _ h in and_from _ _ (callee_seen routine slot b.0) (actuals_seen actuals b.1)
  act_seen (act.Return call) h = refl
  act_seen (act.Goto routine) h = refl
  act_seen (act.Test e wanted) h = expr_seen e h
  act_seen (act.Arm selector constants) h = expr_seen selector h
  act_seen (act.Enter control bound first down last) h = let b = and_parts (each_expr q first) _ (and_parts (q.loop control bound) _ h).1 in and_from _ _ (expr_seen first b.0) (expr_seen last b.1)
  act_seen (act.Bypass control bound first down last) h = let b = and_parts (each_expr q first) _ (and_parts (q.loop control bound) _ h).1 in and_from _ _ (expr_seen first b.0) (expr_seen last b.1)
  act_seen (act.Next control bound down) h = refl
  act_seen (act.Finish control bound down) h = refl
  act_seen (act.Read target) h = access_seen target h
  act_seen act.DropLine h = refl
  act_seen (act.Write item) h = let b = and_parts (each_written q item.value) _ h in and_from _ _ (written_seen item.value b.0) (width_seen item.width b.1)
  act_seen act.EndLine h = refl
