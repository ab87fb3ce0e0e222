-- Rising places, computed on small expressions and statements.
use Rattle.std.proofs.Common.{◌≡◌, ℕ, Bool, true, false, List, [], ◌∷◌, pos, map, refl, ap, ◌∙◌, Some, None}
use Rattle.px_base.specs.declared.operator.BinOp.TheVariants as binary
use Rattle.pas_program.specs.declared.expr.Access.{Access}
use Rattle.pas_program.specs.declared.expr.Actual.TheFolds.{fold-roll-Access, fold-roll-Expr, fold-roll-ExprForm}
use Rattle.pas_program.specs.declared.expr.Actual.TheOpen.{ExprForm-F}
use Rattle.pas_program.specs.declared.expr.Actual.TheViews.{out-roll-Expr, roll-Access, roll-Expr, roll-ExprForm}
use Rattle.pas_program.specs.declared.expr.Expr.{Expr}
use Rattle.pas_program.specs.declared.expr.ExprForm.{ExprForm}
use Rattle.pas_program.specs.declared.routine.Assert.{Assert}
use Rattle.pas_program.specs.declared.statement.Body.TheOpen.{Body-F}
use Rattle.pas_program.specs.declared.statement.Body.TheFolds.{fold-roll-Body, fold-roll-Statement}
use Rattle.pas_program.specs.declared.statement.Body.TheViews.{roll-Body, roll-Statement}
use Rattle.pas_program.specs.declared.statement.Statement.{Statement}
use Rattle.pas_program.specs.Rising.{Part, access_part, access_step, actual_step, arm_step, before, body_step, condition_part, conditions_part, expr_part, expr_step, form_part, form_step, in_turn, rises, statement_rises, statement_step, token}

-- ---- by what it is

part_of : (first : ℕ) (form : ExprForm) → expr_part (roll-Expr (record { first = first; form = form })) ≡ expr_step (record { first = first; form = form_part form })
part_of first form = fold-roll-Expr Part Part Part Part actual_step form_step access_step expr_step (record { first = first; form = form })

abbrev number : ℕ → Expr
number at = roll-Expr (record { first = at; form = roll-ExprForm (ExprForm-F.Const false (pos 1)) })

number_part : (at : ℕ) → expr_part (number at) ≡ expr_step (record { first = at; form = form_step (ExprForm-F.Const false (pos 1)) })
number_part at =
    part_of at (roll-ExprForm (ExprForm-F.Const false (pos 1)))
    ∙ ap (λ p. expr_step (record { first = at; form = p })) (fold-roll-ExprForm Part Part Part Part actual_step form_step access_step expr_step (ExprForm-F.Const false (pos 1)))

-- a variable, with its subscripts
abbrev access : ℕ → List Expr → Access
access at subscripts = roll-Access (record { var = 0; subscripts = subscripts; at = at })

access_is : (at : ℕ) (subscripts : List Expr) → access_part (access at subscripts) ≡ before (token at) (in_turn (map expr_part subscripts))
access_is at subscripts = fold-roll-Access Part Part Part Part actual_step form_step access_step expr_step (record { var = 0; subscripts = subscripts; at = at })

abbrev variable : ℕ → List Expr → Expr
variable at subscripts = roll-Expr (record { first = at; form = roll-ExprForm (ExprForm-F.«ExprForm::Value» (access at subscripts)) })

abbrev named : ℕ → Part → Part
named at subscripts = expr_step (record { first = at; form = form_step (ExprForm-F.«ExprForm::Value» (before (token at) subscripts)) })

variable_part : (at : ℕ) (subscripts : List Expr) → expr_part (variable at subscripts) ≡ named at (in_turn (map expr_part subscripts))
variable_part at subscripts =
    part_of at (roll-ExprForm (ExprForm-F.«ExprForm::Value» (access at subscripts)))
    ∙ ap (λ p. expr_step (record { first = at; form = p })) (fold-roll-ExprForm Part Part Part Part actual_step form_step access_step expr_step (ExprForm-F.«ExprForm::Value» (access at subscripts)))
    ∙ ap (λ p. expr_step (record { first = at; form = form_step (ExprForm-F.«ExprForm::Value» p) })) (access_is at subscripts)

-- two operands, of which the left begins the expression
abbrev sum : ℕ → Expr → Expr → ℕ → Expr
sum first left right at = roll-Expr (record { first = first; form = roll-ExprForm (ExprForm-F.Binary binary.Add left right at) })

abbrev added : ℕ → Part → Part → ℕ → Part
added first left right at = expr_step (record { first = first; form = form_step (ExprForm-F.Binary binary.Add left right at) })

sum_part : (first at : ℕ) (left right : Expr) (p q : Part) → expr_part left ≡ p → expr_part right ≡ q → expr_part (sum first left right at) ≡ added first p q at
sum_part first at left right p q a b =
    part_of first (roll-ExprForm (ExprForm-F.Binary binary.Add left right at))
    ∙ ap (λ x. expr_step (record { first = first; form = x })) (fold-roll-ExprForm Part Part Part Part actual_step form_step access_step expr_step (ExprForm-F.Binary binary.Add left right at))
    ∙ ap (λ x. added first x (expr_part right) at) a
    ∙ ap (λ x. added first p x at) b

-- ---- small expressions

-- `x + 1`: x at 10, the operator at 12 and the number at 14, behind which 15 is the next place
pub sum_rises : expr_part (sum 10 (variable 10 []) (number 14) 12) 0 ≡ Some 15
sum_rises = ap (λ (p : Part). p 0) (sum_part 10 12 (variable 10 []) (number 14) _ _ (variable_part 10 []) (number_part 14))

-- not where the operator stands at its operand, nor from behind its beginning on
pub one_place_twice : expr_part (sum 10 (variable 10 []) (number 14) 10) 0 ≡ None
one_place_twice = ap (λ (p : Part). p 0) (sum_part 10 10 (variable 10 []) (number 14) _ _ (variable_part 10 []) (number_part 14))

pub begun_before : expr_part (sum 10 (variable 10 []) (number 14) 12) 11 ≡ None
begun_before = ap (λ (p : Part). p 11) (sum_part 10 12 (variable 10 []) (number 14) _ _ (variable_part 10 []) (number_part 14))

-- `(x) + 1` begins at its parenthesis
pub with_parenthesis : expr_part (sum 9 (variable 10 []) (number 14) 13) 9 ≡ Some 15
with_parenthesis = ap (λ (p : Part). p 9) (sum_part 9 13 (variable 10 []) (number 14) _ _ (variable_part 10 []) (number_part 14))

-- `a[1]`, and not where the subscript stands at the name
pub element_rises : expr_part (variable 10 (number 12 ∷ [])) 0 ≡ Some 13
element_rises = ap (λ (p : Part). p 0) (variable_part 10 (number 12 ∷ [])) ∙ ap (λ p. named 10 (in_turn (p ∷ [])) 0) (number_part 12)

pub subscript_at_name : expr_part (variable 10 (number 10 ∷ [])) 0 ≡ None
subscript_at_name = ap (λ (p : Part). p 0) (variable_part 10 (number 10 ∷ [])) ∙ ap (λ p. named 10 (in_turn (p ∷ [])) 0) (number_part 10)

-- ---- small statements

abbrev assignment : List ℕ → ℕ → ℕ → Statement
assignment listed target value = roll-Statement (record { at = target; label = None; asserts = listed; body = roll-Body (Body-F.Assign (access target []) (variable value [])) })

assignment_part : (asserts : List Assert) (listed : List ℕ) (target value : ℕ) (b : Bool) → rises (before (before (token target) (in_turn [])) (named value (in_turn []))) ≡ b
    → statement_rises asserts (assignment listed target value) ≡ statement_step asserts (record { at = target; label = None; asserts = listed; body = b })
assignment_part asserts listed target value b is =
    fold-roll-Statement Bool Bool Bool body_step arm_step (statement_step asserts) (record { at = target; label = None; asserts = listed; body = roll-Body (Body-F.Assign (access target []) (variable value [])) })
    ∙ ap (λ x. statement_step asserts (record { at = target; label = None; asserts = listed; body = x }))
    (fold-roll-Body Bool Bool Bool body_step arm_step (statement_step asserts) (Body-F.Assign (access target []) (variable value []))
    ∙ ap (λ p. rises (before p (expr_part (variable value [])))) (access_is target [])
    ∙ ap (λ p. rises (before (before (token target) (in_turn [])) p)) (variable_part value [])
    ∙ is)

-- `x := y`
pub assignment_rises : statement_rises [] (assignment [] 20 25) ≡ true
assignment_rises = assignment_part [] [] 20 25 true refl

pub target_behind_value : statement_rises [] (assignment [] 25 20) ≡ false
target_behind_value = assignment_part [] [] 25 20 false refl

-- ---- assertions before one statement

abbrev asserted : ℕ → Assert
asserted place = record { routine = 0; sometime = false; cond = number place; at = place }

condition_is : (place : ℕ) → condition_part (Some (asserted place)) ≡ token place
condition_is place = ap (λ d. token d.first) (out-roll-Expr (record { first = place; form = roll-ExprForm (ExprForm-F.Const false (pos 1)) }))

two_conditions : (m n : ℕ) → conditions_part (asserted m ∷ asserted n ∷ []) (0 ∷ 1 ∷ []) ≡ in_turn (token m ∷ token n ∷ [])
two_conditions m n =
    ap (λ p. in_turn (p ∷ condition_part (Some (asserted n)) ∷ [])) (condition_is m)
    ∙ ap (λ p. in_turn (token m ∷ p ∷ [])) (condition_is n)

pub assertions_rise : rises (conditions_part (asserted 5 ∷ asserted 9 ∷ []) (0 ∷ 1 ∷ [])) ≡ true
assertions_rise = ap rises (two_conditions 5 9)

pub assertions_at_one_place : rises (conditions_part (asserted 5 ∷ asserted 5 ∷ []) (0 ∷ 1 ∷ [])) ≡ false
assertions_at_one_place = ap rises (two_conditions 5 5)
