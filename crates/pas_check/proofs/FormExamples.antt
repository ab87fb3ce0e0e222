-- Small expressions and what they are in the program, computed. Each stands with its text, whose bytes are counted from 0.
use Rattle.std.proofs.Common.{◌≡◌, ℕ, ◌+◌, ℤ, pos, false, true, List, [], ◌∷◌, ◌++◌, codes, Some, None, refl, ap, ◌∙◌}
use Rattle.px_base.specs.declared.operator.BinOp.TheVariants as op
use Rattle.px_base.specs.declared.operator.UnOp.TheVariants as unary
use Rattle.px_base.specs.declared.place.Span.{Span}
use Rattle.pas_program.specs.declared.expr.Access as program_access
use Rattle.pas_program.specs.declared.expr.Actual.TheVariants as passed
use Rattle.pas_program.specs.declared.expr.Actual.TheViews as program_expr
use Rattle.pas_program.specs.declared.expr.Actual.TheViews.{out-roll-Access}
use Rattle.pas_program.specs.declared.expr.Expr as program
use Rattle.pas_program.specs.declared.expr.ExprForm.{ExprForm}
use Rattle.pas_program.specs.declared.expr.ExprForm.TheVariants as form
use Rattle.pas_program.specs.declared.type_def.TypeDef.TheVariants.{Scalar, Array}
use Rattle.pas_program.specs.declared.variable.VarDef.{VarDef}
use Rattle.pas_program.specs.declared.variable.VarKind.{VarKind}
use Rattle.pas_program.specs.declared.variable.VarKind.TheVariants as kind
use Rattle.pas_tree.specs.declared.constant.Sign.TheVariants as sign
use Rattle.pas_check.specs.declared.built.Built.{Built}
use Rattle.pas_check.specs.declared.expr.Typed.{Typed}
use Rattle.pas_check.specs.declared.expr.Typed.TheVariants as typed
use Rattle.pas_check.specs.declared.meaning.Meaning.{Meaning}
use Rattle.pas_check.specs.declared.meaning.Meaning.TheVariants as means
use Rattle.pas_check.specs.declared.meaning.Variable.{Variable}
use Rattle.pas_check.specs.declared.scope.Declaration.{Declaration}
use Rattle.pas_check.specs.Blocks.{at_first, required_types}
use Rattle.pas_check.specs.Built.{frame_of, nothing_built}
use Rattle.pas_check.specs.Expr.{meant, meant_by}
use Rattle.pas_check.specs.Forms.{Form, alone_form, call_form, expr_form, function_form, named_form, operand_form, passed_by_value_form, passed_by_var_form, passed_form, required_of_form, scalar_form, value_made}
use Rattle.pas_check.specs.Names.{Names}
use Rattle.pas_check.specs.Sight.{Sight}
use Rattle.pas_check.proofs.SmallTrees.{Shown, actual, binary, call, name, number, paren, signed, upto}

-- ---- what is declared around: `x: integer; b: Boolean; a, c: array[1..3] of array[1..3] of integer`, and then
-- `function f(var i: integer; j: integer): integer`, which is routine 0 in the program's block, routine 1

abbrev pub defined_as : Span → ℕ → VarKind → ℕ → VarDef
defined_as name routine kind t = record { name = name; routine = routine; kind = kind; of_type = t; place = name.start }

-- the same with a name of one letter
abbrev pub defined : ℕ → ℕ → VarKind → ℕ → VarDef
defined at routine kind t = defined_as (upto at (at + 1)) routine kind t

abbrev pub variable : ℕ → VarKind → ℕ → ℕ → Variable
variable number kind t level = record { number = number; at = 100 + number; level = level; kind = kind; of_type = t }

abbrev pub declared : ℕ → Meaning → Declaration
declared at m = record { at = at; meaning = Some m }

abbrev pub own_names : Names
own_names =
    (codes "x", declared 100 (means.Variable (variable 0 kind.Local 0 0))) ∷ (codes "b", declared 101 (means.Variable (variable 1 kind.Local 1 0)))
    ∷ (codes "a", declared 102 (means.Variable (variable 2 kind.Local 4 0))) ∷ (codes "c", declared 103 (means.Variable (variable 3 kind.Local 4 0)))
    ∷ (codes "f", declared 104 (means.Routine 0 true)) ∷ []

abbrev pub seen : List ℕ → Sight
seen text = record (at_first text 1) {
  blocks = own_names ∷ (at_first text 1).blocks;
  types = required_types ++ Scalar false (pos 1) (pos 3) ∷ Array 2 0 ∷ Array 2 3 ∷ [];
  headings = record { routine = 0; formals = record { by_var = true; of_type = 0 } ∷ record { by_var = false; of_type = 0 } ∷ []; result = Some (record (variable 6 kind.Result 0 1) { at = 104 }) } ∷ [];
}

abbrev pub vars_before : List VarDef
vars_before =
    defined 100 1 kind.Local 0 ∷ defined 101 1 kind.Local 1 ∷ defined 102 1 kind.Local 4 ∷ defined 103 1 kind.Local 4
    ∷ defined 105 0 kind.Var 0 ∷ defined 106 0 kind.Value 0 ∷ defined 104 0 kind.Result 0 ∷ []

abbrev pub before : Built
before = record (nothing_built (record (frame_of (upto 90 91) 1 None 0 [] None) { locals = 0 ∷ 1 ∷ 2 ∷ 3 ∷ [] })) { vars = vars_before }

-- ---- what is expected

abbrev pub expr : ℕ → ExprForm → program.Expr
expr first form = program_expr.roll-Expr (record { first = first; form = form })

abbrev pub access : ℕ → List program.Expr → ℕ → program_access.Access
access var subscripts at = program_expr.roll-Access (record { var = var; subscripts = subscripts; at = at })

abbrev pub value_at : ℕ → ℕ → program.Expr
value_at at var = expr at (form.Value (access var [] at))

abbrev pub const_at : ℕ → ℤ → program.Expr
const_at at value = expr at (form.Const false value)

-- ---- expressions

module _ {v : Sight} (e : Shown v) (b c : Built) (t : Typed) where
  abbrev is_value : Type 0
  is_value = (expr_form v e.tree).value b ≡ Some (t, c)

  is_value_by : e.form.value b ≡ Some (t, c) → is_value
  is_value_by is = ap (λ (f : Form). f.value b) e.is ∙ is

-- each operator has its place, and the whole begins where its first operand does
sum : Shown (seen (codes "1 + 2 * x"))
sum = binary op.Add (number 1 (upto 0 1)) (binary op.Mul (number 2 (upto 4 5)) (name (upto 8 9)) (upto 6 7) (upto 4 9)) (upto 2 3) (upto 0 9)

sum_value : (b : Built) → is_value sum b b (typed.Scalar (expr 0 (form.Binary op.Add (const_at 0 (pos 1)) (expr 4 (form.Binary op.Mul (const_at 4 (pos 2)) (value_at 8 0) 6)) 2)) false)
unfolding sum operand_form scalar_form named_form alone_form value_made meant meant_by
sum_value b = is_value_by sum b b _ (simp out-roll-Access)

-- the sign `-` is an operator at its place, whose operand begins at its parenthesis
negation : Shown (seen (codes "-(x)"))
negation = signed sign.Minus (paren (name (upto 2 3)) (upto 1 4)) (upto 0 4)

negation_value : (b : Built) → is_value negation b b (typed.Scalar (expr 0 (form.Unary unary.Neg (expr 1 (form.Value (access 0 [] 2))) 0)) false)
unfolding negation operand_form scalar_form named_form alone_form value_made meant meant_by
negation_value b = is_value_by negation b b _ refl

-- the sign `+` and parentheses change the first token alone
with_plus : Shown (seen (codes "+ (x)"))
with_plus = signed sign.Plus (paren (name (upto 3 4)) (upto 2 5)) (upto 0 5)

with_plus_value : (b : Built) → is_value with_plus b b (typed.Scalar (expr 0 (form.Value (access 0 [] 3))) false)
unfolding with_plus operand_form scalar_form named_form alone_form value_made meant meant_by
with_plus_value b = is_value_by with_plus b b _ refl

-- `succ` at a Boolean is another operator than at an integer, and gives a Boolean; `ord` gives an integer
successor : Shown (seen (codes "succ(b)"))
successor = call (upto 0 4) (actual (name (upto 5 6)) ∷ []) (upto 0 7)

successor_value : (b : Built) → is_value successor b b (typed.Scalar (expr 0 (form.Unary unary.SuccBool (value_at 5 1) 0)) true)
unfolding successor operand_form scalar_form named_form alone_form value_made call_form required_of_form meant meant_by
successor_value b = is_value_by successor b b _ (simp out-roll-Access)

ordinal : Shown (seen (codes "ord(b)"))
ordinal = call (upto 0 3) (actual (name (upto 4 5)) ∷ []) (upto 0 6)

ordinal_value : (b : Built) → is_value ordinal b b (typed.Scalar (expr 0 (form.Unary unary.OrdOf (value_at 4 1) 0)) false)
unfolding ordinal operand_form scalar_form named_form alone_form value_made call_form required_of_form meant meant_by
ordinal_value b = is_value_by ordinal b b _ (simp out-roll-Access)

-- a call and one in its actuals: the outer one's hidden variable is the earlier, and each has the name and the place of its call
calls : Shown (seen (codes "f(x, f(x, 1)) + x"))
calls = binary op.Add (call (upto 0 1) (actual (name (upto 2 3)) ∷ actual (call (upto 5 6) (actual (name (upto 7 8)) ∷ actual (number 1 (upto 10 11)) ∷ []) (upto 5 12)) ∷ []) (upto 0 13)) (name (upto 16 17)) (upto 14 15) (upto 0 17)

calls_value : is_value calls before
    (record before { vars = vars_before ++ defined 0 1 kind.Slot 0 ∷ defined 5 1 kind.Slot 0 ∷ []; frame = record before.frame { slots = 7 ∷ 8 ∷ [] } })
    (typed.Scalar (expr 0 (form.Binary op.Add
    (expr 0 (form.Call 0 (passed.Var (access 0 [] 2) ∷ passed.Value (expr 5 (form.Call 0 (passed.Var (access 0 [] 7) ∷ passed.Value (const_at 10 (pos 1)) ∷ []) 8 5)) ∷ []) 7 0))
    (value_at 16 0) 14)) false)
unfolding calls operand_form scalar_form named_form alone_form value_made call_form function_form passed_form passed_by_value_form passed_by_var_form meant meant_by
calls_value = is_value_by calls before _ _ (simp out-roll-Access)
