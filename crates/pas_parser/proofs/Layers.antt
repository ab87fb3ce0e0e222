-- What a fold gives at each form of a construct, from what it gives at the parts.
use Rattle.std.proofs.Common.{◌≡◌, List, map, ap, sym, ◌∙◌, Option, Some, None, Bool}
use Rattle.std.specs.Option.{option_map}
use Rattle.px_base.specs.declared.operator.BinOp.{BinOp}
use Rattle.px_base.specs.declared.place.Span.{Span}
use Rattle.pas_tree.specs.declared.block.Block.{Block, roll-Block}
use Rattle.pas_tree.specs.declared.block.ConstDecl.{ConstDecl}
use Rattle.pas_tree.specs.declared.block.Label.{Label}
use Rattle.pas_tree.specs.declared.block.Section.{Section}
use Rattle.pas_tree.specs.declared.block.TypeDecl.{TypeDecl}
use Rattle.pas_tree.specs.declared.block.VarDecl.{VarDecl}
use Rattle.pas_tree.specs.declared.block.Routine.{Routine, roll-Routine}
use Rattle.pas_tree.specs.declared.block.RoutineBody.{RoutineBody}
use Rattle.pas_tree.specs.declared.block.RoutineBody.TheOpen.{Block-F, Routine-F, RoutineBody-F}
use Rattle.pas_tree.specs.declared.block.RoutineBody.TheFolds.{fold-Block, fold-Routine, fold-RoutineBody, fold-roll-Block, fold-roll-Routine, fold-roll-RoutineBody}
use Rattle.pas_tree.specs.declared.block.RoutineBody.TheVariants as body_of
use Rattle.pas_tree.specs.declared.constant.Constant.{Constant}
use Rattle.pas_tree.specs.declared.constant.Sign.{Sign}
use Rattle.pas_tree.specs.declared.expr.Access.{Access, roll-Access}
use Rattle.pas_tree.specs.declared.expr.Actual.{Actual, roll-Actual}
use Rattle.pas_tree.specs.declared.expr.ActualValue.{ActualValue}
use Rattle.pas_tree.specs.declared.expr.ActualValue.TheOpen.{ActualValue-F, Expr-F, Access-F, Actual-F}
use Rattle.pas_tree.specs.declared.expr.ActualValue.TheFolds.{fold-ActualValue, fold-Expr, fold-Access, fold-Actual, fold-roll-ActualValue, fold-roll-Expr, fold-roll-Access, fold-roll-Actual}
use Rattle.pas_tree.specs.declared.expr.ActualValue.TheVariants as actual_of
use Rattle.pas_tree.specs.declared.expr.Expr.{Expr}
use Rattle.pas_tree.specs.declared.expr.Expr.TheVariants as e
use Rattle.pas_tree.specs.declared.statement.Assertion.{Assertion}
use Rattle.pas_tree.specs.declared.statement.Body.{Body}
use Rattle.pas_tree.specs.declared.statement.Body.TheOpen.{Body-F, Element-F, Statement-F}
use Rattle.pas_tree.specs.declared.statement.Body.TheFolds.{fold-Body, fold-Element, fold-Statement, fold-roll-Body, fold-roll-Element, fold-roll-Statement}
use Rattle.pas_tree.specs.declared.statement.Body.TheVariants as b
use Rattle.pas_tree.specs.declared.statement.Element.{Element, roll-Element}
use Rattle.pas_tree.specs.declared.statement.Statement.{Statement, roll-Statement}
use Rattle.pas_tree.specs.declared.type_expr.TypeExpr.{TypeExpr}
use Rattle.pas_tree.specs.declared.type_expr.TypeExpr.TheOpen.{TypeExpr-F}
use Rattle.pas_tree.specs.declared.type_expr.TypeExpr.TheFolds.{fold-TypeExpr, fold-roll-TypeExpr}
use Rattle.pas_tree.specs.declared.type_expr.TypeExpr.TheVariants as t

module _ {V E A P : Type 0} (value : ActualValue-F V E A P → V) (expr : Expr-F V E A P → E) (access : Access-F V E A P → A) (actual : Actual-F V E A P → P) where
  abbrev of_value : ActualValue → V
  of_value = fold-ActualValue V E A P value expr access actual

  abbrev of_expr : Expr → E
  of_expr = fold-Expr V E A P value expr access actual

  abbrev of_access : Access → A
  of_access = fold-Access V E A P value expr access actual

  abbrev of_actual : Actual → P
  of_actual = fold-Actual V E A P value expr access actual

  pub at_value : (x : Expr) → of_value (actual_of.Value x) ≡ value (ActualValue-F.Value (of_expr x))
  at_value x = ap of_value (sym (actual_of.rolls-Value x)) ∙ fold-roll-ActualValue V E A P value expr access actual (ActualValue-F.Value x)

  pub at_text : (place : Span) → of_value (actual_of.«Text» place) ≡ value (ActualValue-F.«Text» place)
  at_text place = ap of_value (sym (actual_of.rolls-Text place)) ∙ fold-roll-ActualValue V E A P value expr access actual (ActualValue-F.«Text» place)

  pub at_number : (n : _) (span : Span) → of_expr (e.Number n span) ≡ expr (Expr-F.Number n span)
  at_number n span = ap of_expr (sym (e.rolls-Number n span)) ∙ fold-roll-Expr V E A P value expr access actual (Expr-F.Number n span)

  pub at_name : (name : Span) (actuals : List Actual) (span : Span) → of_expr (e.Name name actuals span) ≡ expr (Expr-F.Name name (map of_actual actuals) span)
  at_name name actuals span = ap of_expr (sym (e.rolls-Name name actuals span)) ∙ fold-roll-Expr V E A P value expr access actual (Expr-F.Name name actuals span)

  pub at_indexed : (to : Access) (span : Span) → of_expr (e.Indexed to span) ≡ expr (Expr-F.Indexed (of_access to) span)
  at_indexed to span = ap of_expr (sym (e.rolls-Indexed to span)) ∙ fold-roll-Expr V E A P value expr access actual (Expr-F.Indexed to span)

  pub at_paren : (x : Expr) (span : Span) → of_expr (e.Paren x span) ≡ expr (Expr-F.Paren (of_expr x) span)
  at_paren x span = ap of_expr (sym (e.rolls-Paren x span)) ∙ fold-roll-Expr V E A P value expr access actual (Expr-F.Paren x span)

  pub at_not : (x : Expr) (span : Span) → of_expr (e.Not x span) ≡ expr (Expr-F.Not (of_expr x) span)
  at_not x span = ap of_expr (sym (e.rolls-Not x span)) ∙ fold-roll-Expr V E A P value expr access actual (Expr-F.Not x span)

  pub at_signed : (sign : Sign) (x : Expr) (span : Span) → of_expr (e.Signed sign x span) ≡ expr (Expr-F.Signed sign (of_expr x) span)
  at_signed sign x span = ap of_expr (sym (e.rolls-Signed sign x span)) ∙ fold-roll-Expr V E A P value expr access actual (Expr-F.Signed sign x span)

  pub at_binary : (op : BinOp) (x y : Expr) (at span : Span) → of_expr (e.Binary op x y at span) ≡ expr (Expr-F.Binary op (of_expr x) (of_expr y) at span)
  at_binary op x y at span = ap of_expr (sym (e.rolls-Binary op x y at span)) ∙ fold-roll-Expr V E A P value expr access actual (Expr-F.Binary op x y at span)

  pub at_access : (name : Span) (subscripts : List Expr) (span : Span) →
      of_access (roll-Access (record { name = name; subscripts = subscripts; span = span })) ≡ access (record { name = name; subscripts = map of_expr subscripts; span = span })
  at_access name subscripts span = fold-roll-Access V E A P value expr access actual (record { name = name; subscripts = subscripts; span = span })

  pub at_actual : (what : ActualValue) (width : Option Expr) →
      of_actual (roll-Actual (record { value = what; width = width })) ≡ actual (record { value = of_value what; width = option_map of_expr width })
  at_actual what None = fold-roll-Actual V E A P value expr access actual (record { value = what; width = None })
  at_actual what (Some x) = fold-roll-Actual V E A P value expr access actual (record { value = what; width = Some x })

module _ {A : Type 0} (step : TypeExpr-F A → A) where
  abbrev of_type : TypeExpr → A
  of_type = fold-TypeExpr A step

  pub at_type_name : (name : Span) → of_type (t.Name name) ≡ step (TypeExpr-F.Name name)
  at_type_name name = ap of_type (sym (t.rolls-Name name)) ∙ fold-roll-TypeExpr A step (TypeExpr-F.Name name)

  pub at_range : (lo hi : Constant) (span : Span) → of_type (t.Range lo hi span) ≡ step (TypeExpr-F.Range lo hi span)
  at_range lo hi span = ap of_type (sym (t.rolls-Range lo hi span)) ∙ fold-roll-TypeExpr A step (TypeExpr-F.Range lo hi span)

  pub at_array : (indexes : List TypeExpr) (element : TypeExpr) (span : Span) → of_type (t.Array indexes element span) ≡ step (TypeExpr-F.Array (map of_type indexes) (of_type element) span)
  at_array indexes element span = ap of_type (sym (t.rolls-Array indexes element span)) ∙ fold-roll-TypeExpr A step (TypeExpr-F.Array indexes element span)

module _ {B E S : Type 0} (body : Body-F B E S → B) (element : Element-F B E S → E) (statement : Statement-F B E S → S) where
  abbrev of_body : Body → B
  of_body = fold-Body B E S body element statement

  abbrev of_element : Element → E
  of_element = fold-Element B E S body element statement

  abbrev of_statement : Statement → S
  of_statement = fold-Statement B E S body element statement

  pub at_empty : of_body b.Empty ≡ body Body-F.Empty
  at_empty = ap of_body (sym b.rolls-Empty) ∙ fold-roll-Body B E S body element statement Body-F.Empty

  pub at_call : (name : Span) (actuals : List Actual) → of_body (b.Call name actuals) ≡ body (Body-F.Call name actuals)
  at_call name actuals = ap of_body (sym (b.rolls-Call name actuals)) ∙ fold-roll-Body B E S body element statement (Body-F.Call name actuals)

  pub at_assign : (target : Access) (x : Expr) → of_body (b.Assign target x) ≡ body (Body-F.Assign target x)
  at_assign target x = ap of_body (sym (b.rolls-Assign target x)) ∙ fold-roll-Body B E S body element statement (Body-F.Assign target x)

  pub at_goto : (label : Label) → of_body (b.Goto label) ≡ body (Body-F.Goto label)
  at_goto label = ap of_body (sym (b.rolls-Goto label)) ∙ fold-roll-Body B E S body element statement (Body-F.Goto label)

  pub at_begin : (parts : List Statement) → of_body (b.Begin parts) ≡ body (Body-F.Begin (map of_statement parts))
  at_begin parts = ap of_body (sym (b.rolls-Begin parts)) ∙ fold-roll-Body B E S body element statement (Body-F.Begin parts)

  pub at_if : (cond : Expr) (chosen : Statement) (other : Option Statement) → of_body (b.If cond chosen other) ≡ body (Body-F.If cond (of_statement chosen) (option_map of_statement other))
  at_if cond chosen None = ap of_body (sym (b.rolls-If cond chosen None)) ∙ fold-roll-Body B E S body element statement (Body-F.If cond chosen None)
  at_if cond chosen (Some other) = ap of_body (sym (b.rolls-If cond chosen (Some other))) ∙ fold-roll-Body B E S body element statement (Body-F.If cond chosen (Some other))

  pub at_case : (of : Expr) (arms : List Element) → of_body (b.Case of arms) ≡ body (Body-F.Case of (map of_element arms))
  at_case of arms = ap of_body (sym (b.rolls-Case of arms)) ∙ fold-roll-Body B E S body element statement (Body-F.Case of arms)

  pub at_while : (cond : Expr) (part : Statement) → of_body (b.While cond part) ≡ body (Body-F.While cond (of_statement part))
  at_while cond part = ap of_body (sym (b.rolls-While cond part)) ∙ fold-roll-Body B E S body element statement (Body-F.While cond part)

  pub at_repeat : (parts : List Statement) (until : Span) (cond : Expr) → of_body (b.Repeat parts until cond) ≡ body (Body-F.Repeat (map of_statement parts) until cond)
  at_repeat parts until cond = ap of_body (sym (b.rolls-Repeat parts until cond)) ∙ fold-roll-Body B E S body element statement (Body-F.Repeat parts until cond)

  pub at_for : (control : Span) (first : Expr) (down : Bool) (last : Expr) (part : Statement) → of_body (b.For control first down last part) ≡ body (Body-F.For control first down last (of_statement part))
  at_for control first down last part = ap of_body (sym (b.rolls-For control first down last part)) ∙ fold-roll-Body B E S body element statement (Body-F.For control first down last part)

  pub at_element : (consts : List Constant) (part : Statement) → of_element (roll-Element (record { consts = consts; body = part })) ≡ element (record { consts = consts; body = of_statement part })
  at_element consts part = fold-roll-Element B E S body element statement (record { consts = consts; body = part })

  pub at_statement : (label : Option Label) (asserts : List Assertion) (part : Body) (at : Span) →
      of_statement (roll-Statement (record { label = label; asserts = asserts; body = part; at = at })) ≡ statement (record { label = label; asserts = asserts; body = of_body part; at = at })
  at_statement label asserts part at = fold-roll-Statement B E S body element statement (record { label = label; asserts = asserts; body = part; at = at })

module _ {D B R : Type 0} (routine_body : RoutineBody-F D B R → D) (block : Block-F D B R → B) (routine : Routine-F D B R → R) where
  abbrev of_routine_body : RoutineBody → D
  of_routine_body = fold-RoutineBody D B R routine_body block routine

  abbrev of_block : Block → B
  of_block = fold-Block D B R routine_body block routine

  abbrev of_routine : Routine → R
  of_routine = fold-Routine D B R routine_body block routine

  pub at_inner : (part : Block) → of_routine_body (body_of.Block part) ≡ routine_body (RoutineBody-F.Block (of_block part))
  at_inner part = ap of_routine_body (sym (body_of.rolls-Block part)) ∙ fold-roll-RoutineBody D B R routine_body block routine (RoutineBody-F.Block part)

  pub at_word : (word : Span) → of_routine_body (body_of.Word word) ≡ routine_body (RoutineBody-F.Word word)
  at_word word = ap of_routine_body (sym (body_of.rolls-Word word)) ∙ fold-roll-RoutineBody D B R routine_body block routine (RoutineBody-F.Word word)

  pub at_routine : (name : Span) (function : Bool) (formals : List Section) (result : Option Span) (part : RoutineBody) →
      of_routine (roll-Routine (record { name = name; function = function; formals = formals; result = result; body = part }))
      ≡ routine (record { name = name; function = function; formals = formals; result = result; body = of_routine_body part })
  at_routine name function formals result part =
      fold-roll-Routine D B R routine_body block routine (record { name = name; function = function; formals = formals; result = result; body = part })

  pub at_block : (labels : List Label) (consts : List ConstDecl) (types : List TypeDecl) (vars : List VarDecl) (routines : List Routine) (first : Span) (body : List Statement) (last : Span) →
      of_block (roll-Block (record { labels = labels; consts = consts; types = types; vars = vars; routines = routines; «begin» = first; body = body; «end» = last }))
      ≡ block (record { labels = labels; consts = consts; types = types; vars = vars; routines = map of_routine routines; «begin» = first; body = body; «end» = last })
  at_block labels consts types vars routines first body last =
      fold-roll-Block D B R routine_body block routine (record { labels = labels; consts = consts; types = types; vars = vars; routines = routines; «begin» = first; body = body; «end» = last })
