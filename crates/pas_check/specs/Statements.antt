-- Statements, or the first rule that one of them breaks (ISO 7185, 6.8 and 6.9). They are tested in the order of the text.
use Rattle.std.specs.Prelude.{ℕ, ℤ, Bool, true, false, ◌||◌, nat_eq, List, [], ◌∷◌, ◌++◌, map, length, Option, Some, None, Result, Ok, Err}
use Rattle.px_base.specs.declared.place.Span.{Span}
use Rattle.pas_tree.specs.declared.constant.Constant.{Constant}
use Rattle.pas_tree.specs.declared.expr.Access.{Access}
use Rattle.pas_tree.specs.declared.expr.ActualValue.TheViews.{out-Access}
use Rattle.pas_tree.specs.declared.expr.Expr.{Expr}
use Rattle.pas_tree.specs.declared.statement.Assertion.{Assertion}
use Rattle.pas_tree.specs.declared.statement.Body.{Body}
use Rattle.pas_tree.specs.declared.statement.Body.TheOpen.{Body-F, Element-F, Statement-F}
use Rattle.pas_tree.specs.declared.statement.Body.TheFolds.{fold-Body, fold-Element, fold-Statement}
use Rattle.pas_tree.specs.declared.statement.Element.{Element}
use Rattle.pas_tree.specs.declared.statement.Statement.{Statement}
use Rattle.pas_check.specs.declared.fault.Fault.TheVariants.{Broken}
use Rattle.pas_check.specs.declared.fault.Rule.TheVariants as rule
use Rattle.pas_check.specs.declared.meaning.Meaning.{Meaning}
use Rattle.pas_check.specs.declared.meaning.Meaning.TheVariants as means
use Rattle.pas_check.specs.declared.meaning.Transput.{Transput}
use Rattle.pas_check.specs.declared.meaning.Transput.TheVariants as transput
use Rattle.pas_check.specs.declared.meaning.Variable.{Variable}
use Rattle.pas_check.specs.Control.{controlled}
use Rattle.pas_check.specs.Expr.{Found, Given, found, given, meant, of_host, scalar_of}
use Rattle.pas_check.specs.Labels.{goto_allowed, label_before}
use Rattle.pas_check.specs.Outcome.{Outcome, ◌>>=◌, each, unless}
use Rattle.pas_check.specs.Rules.{lacks_actuals}
use Rattle.pas_check.specs.Sight.{Sight}
use Rattle.pas_check.specs.Statement.{all_read, assigned, case_constant, procedure_call}

-- a test of a statement, by what is seen where it stands
abbrev pub Test : Type 0
Test = Sight → Outcome (Unit {0})

-- the tests of a sequence
abbrev pub in_turn : List Test → Test
in_turn tests v = each (λ (t : Test). t v) tests

-- ---- assertions

-- no function is called in an assertion
unfoldable pub asserted : Sight → Assertion → Outcome (Unit {0})
asserted v a = of_host true (found (record v { asserting = true }) a.cond)

-- ---- procedure calls

-- what `write` writes is a scalar or a string
abbrev pub value_written : Result Found ℕ → Outcome (Unit {0})
value_written (Err text) = Ok tt
value_written (Ok e) = do
  host ← scalar_of e
  Ok tt

-- a width is an integer
abbrev pub width_written : Option Found → Outcome (Unit {0})
width_written None = Ok tt
width_written (Some w) = of_host false w

unfoldable pub written : Given → Outcome (Unit {0})
written a = do
  done ← value_written a.value
  width_written a.width

-- whether it may stand without actuals
abbrev pub is_line : Transput → Bool
is_line transput.Read = false
is_line transput.Readln = true
is_line transput.Write = false
is_line transput.Writeln = true

abbrev pub transput_by : Sight → Transput → List Given → Outcome (Unit {0})
transput_by v transput.Read actuals = all_read v actuals
transput_by v transput.Readln actuals = all_read v actuals
transput_by v transput.Write actuals = each written actuals
transput_by v transput.Writeln actuals = each written actuals

unfoldable pub transput_call : Sight → Transput → ℕ → List Given → Outcome (Unit {0})
transput_call v t at actuals = unless (lacks_actuals (is_line t) (length actuals)) rule.ActualCount at (transput_by v t actuals)

unfoldable pub called_by : Sight → Meaning → ℕ → List Given → Outcome (Unit {0})
called_by v (means.Routine head false) at actuals = procedure_call v head at actuals
called_by v (means.Transput t) at actuals = transput_call v t at actuals
called_by v _ at actuals = Err (Broken rule.Kind at)

unfoldable pub call : Sight → Span → List Given → Outcome (Unit {0})
call v name actuals = do
  m ← meant v name
  called_by v m name.start actuals

-- ---- assignment

unfoldable pub assignment : Sight → Access → Expr → Outcome (Unit {0})
assignment v target value = do
  head ← assigned v (out-Access target).name (map (found v) (out-Access target).subscripts) (found v value)
  Ok tt

-- ---- `for`

-- the control variable, with the two bounds
unfoldable pub for_head : Sight → Span → Found → Found → Outcome Variable
for_head v control first last = do
  c ← controlled v control
  from ← of_host c.1 first
  until ← of_host c.1 last
  Ok c.0

-- inside the `for` statement over the variable that is declared at a place
abbrev pub over : Sight → ℕ → Sight
over v at = record v { looping = λ n. nat_eq at n || v.looping n }

-- ---- `case`

-- the constants of an arm, and those of the arms before: all of them so far
abbrev pub case_constants : Sight → Bool → List ℤ → List Constant → Outcome (List ℤ)
case_constants v boolean before [] = Ok before
case_constants v boolean before (c ∷ constants) = do
  x ← case_constant v before boolean c
  case_constants v boolean (before ++ x ∷ []) constants

-- an arm with the test of its statement
pub record Arm : Type 0 where
  pub consts : List Constant
  pub body : Test

abbrev pub arms_in_turn : Sight → Bool → List ℤ → List Arm → Outcome (Unit {0})
arms_in_turn v boolean before [] = Ok tt
arms_in_turn v boolean before (a ∷ arms) = do
  after ← case_constants v boolean before a.consts
  done ← a.body v
  arms_in_turn v boolean after arms

-- ---- the whole

abbrev pub in_branch : Option Test → Test
in_branch None v = Ok tt
in_branch (Some t) v = t v

-- one form of statement that stands at a place, with the tests of the statements in it
abbrev pub body_step : Body-F (ℕ → Test) Arm Test → ℕ → Test
body_step Body-F.Empty at v = Ok tt
body_step (Body-F.Call name actuals) at v = call v name (map (given v) actuals)
body_step (Body-F.Assign target value) at v = assignment v target value
body_step (Body-F.Goto label) at v = goto_allowed v.labels label at
body_step (Body-F.Begin body) at v = in_turn body v
body_step (Body-F.If test first second) at v = do
  done ← of_host true (found v test)
  chosen ← first v
  in_branch second v
body_step (Body-F.Case selector arms) at v = do
  boolean ← scalar_of (found v selector)
  arms_in_turn v boolean [] arms
body_step (Body-F.While test body) at v = do
  done ← of_host true (found v test)
  body v
body_step (Body-F.Repeat body until test) at v = do
  done ← in_turn body v
  of_host true (found v test)
body_step (Body-F.For control first down last body) at v = do
  x ← for_head v control (found v first) (found v last)
  body (over v x.at)

abbrev pub arm_step : Element-F (ℕ → Test) Arm Test → Arm
arm_step a = record { consts = a.consts; body = a.body }

abbrev pub statement_step : Statement-F (ℕ → Test) Arm Test → Test
statement_step s v = do
  label ← label_before v.labels s.label
  done ← each (asserted v) s.asserts
  s.body s.at.start v

unfoldable pub stated : Statement → Test
stated = fold-Statement (ℕ → Test) Arm Test body_step arm_step statement_step

unfoldable pub stated_body : Body → ℕ → Test
stated_body = fold-Body (ℕ → Test) Arm Test body_step arm_step statement_step

unfoldable pub stated_arm : Element → Arm
stated_arm = fold-Element (ℕ → Test) Arm Test body_step arm_step statement_step
