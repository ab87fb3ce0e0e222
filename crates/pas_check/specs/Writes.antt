-- What statements write (ISO 7185, 6.8 and 6.9), where they break no rule: their parts in the order of the text.
use Rattle.std.specs.Prelude.{ℕ, true, List, map, length, nat_eq, Option, Some, None, Ok, Err, if◌then◌else◌}
use Rattle.pas_tree.specs.declared.expr.Access.{Access}
use Rattle.pas_tree.specs.declared.expr.ActualValue.TheViews.{out-Access}
use Rattle.pas_tree.specs.declared.expr.Expr.{Expr}
use Rattle.pas_tree.specs.declared.statement.Assertion.{Assertion}
use Rattle.pas_tree.specs.declared.statement.Body.{Body}
use Rattle.pas_tree.specs.declared.statement.Body.TheOpen.{Body-F, Element-F, Statement-F}
use Rattle.pas_tree.specs.declared.statement.Body.TheFolds.{fold-Body, fold-Element, fold-Statement}
use Rattle.pas_tree.specs.declared.statement.Element.{Element}
use Rattle.pas_tree.specs.declared.statement.Statement.{Statement}
use Rattle.pas_check.specs.declared.meaning.Meaning.{Meaning}
use Rattle.pas_check.specs.declared.meaning.Meaning.TheVariants as means
use Rattle.pas_check.specs.declared.meaning.Transput.{Transput}
use Rattle.pas_check.specs.declared.meaning.Transput.TheVariants as transput
use Rattle.pas_check.specs.declared.meaning.Variable.{Variable}
use Rattle.pas_check.specs.Expr.{Found, Given, all_passed_writes, formals_at, found, found_writes, given, given_writes, meant, variable_writes}
use Rattle.pas_check.specs.Outcome.{Outcome}
use Rattle.pas_check.specs.Sight.{Sight}
use Rattle.pas_check.specs.Statement.{target_by}
use Rattle.pas_check.specs.Statements.{for_head, over}
use Rattle.pas_check.specs.Written.{Writes, assigns, writes_in_turn, writes_whole}

-- what a statement writes, by what is seen where it stands
abbrev pub Writing : Type 0
Writing = Sight → Writes

-- ---- assertions

abbrev pub assertion_writes : Sight → Assertion → Writes
assertion_writes v a = (found (record v { asserting = true }) a.cond).writes

-- ---- procedure calls

abbrev pub width_writes : Option Found → Writes
width_writes None w = w
width_writes (Some e) w = e.writes w

abbrev pub item_writes : Given → Writes
item_writes a w = width_writes a.width (given_writes found_writes a.value w)

abbrev pub read_writes : Sight → Given → Writes
read_writes v a w = given_writes (variable_writes v) a.value w

abbrev pub transput_writes : Sight → Transput → List Given → Writes
transput_writes v transput.Read actuals w = writes_in_turn (read_writes v) actuals w
transput_writes v transput.Readln actuals w = writes_in_turn (read_writes v) actuals w
transput_writes v transput.Write actuals w = writes_in_turn item_writes actuals w
transput_writes v transput.Writeln actuals w = writes_in_turn item_writes actuals w

abbrev pub procedure_writes : Sight → Outcome Meaning → List Given → Writes
procedure_writes v (Ok (means.Routine head function)) actuals w = all_passed_writes v (formals_at v head) actuals w
procedure_writes v (Ok (means.Transput t)) actuals w = transput_writes v t actuals w
procedure_writes v (Ok m) actuals w = w
procedure_writes v (Err e) actuals w = w

-- ---- assignment

-- the target with its subscripts, and then the value; last the name of a function
abbrev pub target_writes : Sight → Outcome (Variable × Option ℕ) → List Found → Found → Writes
target_writes v (Ok t) subscripts value w =
    assigns t.1 (value.writes (writes_whole v.level (if nat_eq (length subscripts) 0 then Some t.0 else None) (writes_in_turn found_writes subscripts w)))
target_writes v (Err e) subscripts value w = w

abbrev pub targeted_writes : Sight → Outcome Meaning → ℕ → List Found → Found → Writes
targeted_writes v (Ok m) at subscripts value w = target_writes v (target_by v m at) subscripts value w
targeted_writes v (Err e) at subscripts value w = w

abbrev pub assignment_writes : Sight → Access → Expr → Writes
assignment_writes v target value w = targeted_writes v (meant v (out-Access target).name) (out-Access target).name.start (map (found v) (out-Access target).subscripts) (found v value) w

-- ---- the whole

abbrev pub looped_writes : Sight → Outcome Variable → Writing → Writes
looped_writes v (Ok x) body w = body (over v x.at) w
looped_writes v (Err e) body w = w

abbrev pub branch_writes : Option Writing → Writing
branch_writes None v w = w
branch_writes (Some s) v w = s v w

abbrev pub in_turn_writes : List Writing → Writing
in_turn_writes parts v w = writes_in_turn (λ (s : Writing). s v) parts w

abbrev pub body_step : Body-F Writing Writing Writing → Writing
body_step Body-F.Empty v w = w
body_step (Body-F.Call name actuals) v w = procedure_writes v (meant v name) (map (given v) actuals) w
body_step (Body-F.Assign target value) v w = assignment_writes v target value w
body_step (Body-F.Goto label) v w = w
body_step (Body-F.Begin body) v w = in_turn_writes body v w
body_step (Body-F.If test first second) v w = branch_writes second v (first v ((found v test).writes w))
body_step (Body-F.Case selector arms) v w = in_turn_writes arms v ((found v selector).writes w)
body_step (Body-F.While test body) v w = body v ((found v test).writes w)
body_step (Body-F.Repeat body until test) v w = (found v test).writes (in_turn_writes body v w)
body_step (Body-F.For control first down last body) v w = looped_writes v (for_head v control (found v first) (found v last)) body ((found v last).writes ((found v first).writes w))

abbrev pub arm_step : Element-F Writing Writing Writing → Writing
arm_step a = a.body

abbrev pub statement_step : Statement-F Writing Writing Writing → Writing
statement_step s v w = s.body v (writes_in_turn (assertion_writes v) s.asserts w)

unfoldable pub statement_writes : Statement → Writing
statement_writes = fold-Statement Writing Writing Writing body_step arm_step statement_step

unfoldable pub body_writes : Body → Writing
body_writes = fold-Body Writing Writing Writing body_step arm_step statement_step

unfoldable pub arm_writes : Element → Writing
arm_writes = fold-Element Writing Writing Writing body_step arm_step statement_step
