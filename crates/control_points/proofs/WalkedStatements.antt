-- The constants of a statement, one level at a time.
use Rattle.std.proofs.Common.{◌≡◌, ℕ, ℤ, Bool, List, [], ◌++◌, cond, map, sym, ap, ◌∙◌, Some, None}
use Rattle.pas_program.specs.declared.expr.Access.{Access}
use Rattle.pas_program.specs.declared.expr.Expr.{Expr}
use Rattle.pas_program.specs.declared.routine.Assert.{Assert}
use Rattle.pas_program.specs.declared.statement.Arm.{Arm}
use Rattle.pas_program.specs.declared.statement.Body.{Body}
use Rattle.pas_program.specs.declared.statement.Body.TheFolds.{fold-roll-Body, fold_out-Arm, fold_out-Statement, map-Body}
use Rattle.pas_program.specs.declared.statement.Body.TheOpen.{Body-F}
use Rattle.pas_program.specs.declared.statement.Body.TheVariants as view
use Rattle.pas_program.specs.declared.statement.Body.TheViews.{roll-Body}
use Rattle.pas_program.specs.declared.statement.Statement.{Statement}
use Rattle.pas_program.specs.Tables.{Tables}
use Rattle.pas_program.specs.Typed.{hosted}
use Rattle.control_points.specs.Marks.{joined}
use Rattle.control_points.specs.Thresholds.{ArmConstants, Constants, access_constants, arm_constants, arm_step, body_constants, body_step, expr_constants, first_different, listed_constants, of_arm, statement_constants, statement_step, statements_constants}
use Rattle.control_points.proofs.FirstDifferent.{found_more}

module _ (t : Tables) (asserts : List Assert) where
  rolled : (d : Body-F Body Arm Statement) → body_constants t asserts (roll-Body d) ≡ body_step t asserts (map-Body Body Arm Statement Constants ArmConstants Constants (body_constants t asserts) (arm_constants t asserts) (statement_constants t asserts) d)
  rolled d = fold-roll-Body Constants ArmConstants Constants (body_step t asserts) (arm_step t asserts) (statement_step t asserts) d

  pub statement_constants_is : (s : Statement) → statement_constants t asserts s ≡ listed_constants t asserts s.asserts ++ body_constants t asserts s.body
  statement_constants_is s = fold_out-Statement Constants ArmConstants Constants (body_step t asserts) (arm_step t asserts) (statement_step t asserts) s

  pub arm_constants_is : (a : Arm) → arm_constants t asserts a ≡ record { own = a.consts; body = statement_constants t asserts a.body }
  arm_constants_is a = fold_out-Arm Constants ArmConstants Constants (body_step t asserts) (arm_step t asserts) (statement_step t asserts) a

  pub assign_constants : (target : Access) (value : Expr) → body_constants t asserts (view.Assign target value) ≡ access_constants target ++ expr_constants value
  assign_constants target value = ap (body_constants t asserts) (sym (view.rolls-Assign target value)) ∙ rolled (Body-F.Assign target value)

  pub copy_constants : (target source : Access) → body_constants t asserts (view.Copy target source) ≡ access_constants target ++ access_constants source
  copy_constants target source = ap (body_constants t asserts) (sym (view.rolls-Copy target source)) ∙ rolled (Body-F.Copy target source)

  pub if_constants : (cond : Expr) (first : Statement) → body_constants t asserts (view.If cond first None) ≡ expr_constants cond ++ (statement_constants t asserts first ++ [])
  if_constants cond first = ap (body_constants t asserts) (sym (view.rolls-If cond first None)) ∙ rolled (Body-F.If cond first None)

  pub if_else_constants : (cond : Expr) (first second : Statement) → body_constants t asserts (view.If cond first (Some second)) ≡ expr_constants cond ++ (statement_constants t asserts first ++ statement_constants t asserts second)
  if_else_constants cond first second = ap (body_constants t asserts) (sym (view.rolls-If cond first (Some second))) ∙ rolled (Body-F.If cond first (Some second))

  pub case_constants : (selector : Expr) (arms : List Arm) → body_constants t asserts (view.Case selector arms) ≡ expr_constants selector ++ joined (map (of_arm (hosted t selector).boolean) (map (arm_constants t asserts) arms))
  case_constants selector arms = ap (body_constants t asserts) (sym (view.rolls-Case selector arms)) ∙ rolled (Body-F.Case selector arms)

  pub while_constants : (cond : Expr) (body : Statement) → body_constants t asserts (view.While cond body) ≡ expr_constants cond ++ statement_constants t asserts body
  while_constants cond body = ap (body_constants t asserts) (sym (view.rolls-While cond body)) ∙ rolled (Body-F.While cond body)

  pub repeat_constants : (body : List Statement) (at : ℕ) (cond : Expr) → body_constants t asserts (view.Repeat body at cond) ≡ statements_constants t asserts body ++ expr_constants cond
  repeat_constants body at cond = ap (body_constants t asserts) (sym (view.rolls-Repeat body at cond)) ∙ rolled (Body-F.Repeat body at cond)

  pub for_constants : (control bound : ℕ) (first : Expr) (down : Bool) (last : Expr) (body : Statement) → body_constants t asserts (view.For control bound first down last body) ≡ expr_constants first ++ (expr_constants last ++ statement_constants t asserts body)
  for_constants control bound first down last body = ap (body_constants t asserts) (sym (view.rolls-For control bound first down last body)) ∙ rolled (Body-F.For control bound first down last body)

  -- an arm, after what is kept of its own constants
  pub arm_found : (boolean : Bool) (a : Arm) (old mid new : List ℤ) → mid ≡ first_different (old ++ cond boolean [] a.consts) → new ≡ first_different (mid ++ statement_constants t asserts a.body)
      → new ≡ first_different (old ++ of_arm boolean (arm_constants t asserts a))
  arm_found boolean a old mid new own body =
      body ∙ found_more old mid (cond boolean [] a.consts) (statement_constants t asserts a.body) own
      ∙ ap (λ x. first_different (old ++ of_arm boolean x)) (sym (arm_constants_is a))
