-- What is asked of a `case` and a `repeat`, from what was tested of their parts.
use Rattle.std.proofs.Common.{◌≡◌, ℕ, ◌+◌, ◌≤◌, Bool, true, ◌&&◌, List, ℤ, length, nat_lt, map, sym, ap, subst, ◌∙◌, arith}
use Rattle.std.proofs.lemmas.Bool.{and_from}
use Rattle.std.proofs.lemmas.List.{length-map}
use Rattle.std.specs.List.{sum, list_all}
use Rattle.pas_program.specs.declared.expr.Expr.{Expr}
use Rattle.pas_program.specs.declared.statement.Arm.{Arm}
use Rattle.pas_program.specs.declared.statement.Body.{Body}
use Rattle.pas_program.specs.declared.statement.Body.TheOpen.{Body-F}
use Rattle.pas_program.specs.declared.statement.Body.TheFolds.{fold-roll-Body}
use Rattle.pas_program.specs.declared.statement.Body.TheVariants as view
use Rattle.pas_program.specs.declared.statement.Statement.{Statement}
use Rattle.pas_program.specs.Each.{Rule, all_true, arm_of, arm_step, body_step, constants, each_body, each_expr, each_statement, statement_step}
use Rattle.pas_program.specs.Size.{Inner, arm_sum_step, body_sum_step, expr_size, statement_sum_step}
use Rattle.pas_program.specs.Tables.{Tables}
use Rattle.pas_program.specs.Typed.{Hosted, arm_types, body_type_step, body_types_fit, hosted, statement_type_step}
use Rattle.pas_program.specs.Types.{in_host}
use Rattle.pas_valid.specs.Passing.{arm_size, body_inner, body_size, of_host}

-- ---- one level

case_types : (t : Tables) (selector : Expr) (arms : List Arm) → body_types_fit t (view.Case selector arms) ≡ ((hosted t selector).fits && (list_all (in_host (hosted t selector).boolean) (constants (map (arm_types t) arms)) && all_true (map (λ (a : Bool × List ℤ). a.0) (map (arm_types t) arms))))
case_types t selector arms = ap (body_types_fit t) (sym (view.rolls-Case selector arms)) ∙ fold-roll-Body Bool (Bool × List ℤ) Bool (body_type_step t) arm_step statement_type_step (Body-F.Case selector arms)

case_scopes : (q : Rule) (selector : Expr) (arms : List Arm) → each_body q (view.Case selector arms) ≡ (each_expr q selector && (q.choice (constants (map (arm_of q) arms)) && all_true (map (λ (a : Bool × List ℤ). a.0) (map (arm_of q) arms))))
case_scopes q selector arms = ap (each_body q) (sym (view.rolls-Case selector arms)) ∙ fold-roll-Body Bool (Bool × List ℤ) Bool (body_step q) arm_step (statement_step q) (Body-F.Case selector arms)

case_inner : (selector : Expr) (arms : List Arm) → body_inner (view.Case selector arms) ≡ record { parts = expr_size selector; total = sum (map arm_size arms) }
case_inner selector arms = ap body_inner (sym (view.rolls-Case selector arms)) ∙ fold-roll-Body Inner ℕ ℕ body_sum_step arm_sum_step (statement_sum_step (λ label asserts parts. 1 + parts)) (Body-F.Case selector arms)

repeat_scopes : (q : Rule) (body : List Statement) (at : ℕ) (test : Expr) → each_body q (view.Repeat body at test) ≡ ((q.sequence (length (map (each_statement q) body)) && all_true (map (each_statement q) body)) && each_expr q test)
repeat_scopes q body at test = ap (each_body q) (sym (view.rolls-Repeat body at test)) ∙ fold-roll-Body Bool (Bool × List ℤ) Bool (body_step q) arm_step (statement_step q) (Body-F.Repeat body at test)

-- ---- from the parts

hosted_case : (h : Hosted) (b : Bool) (zs : List ℤ) (rest : Bool) → h ≡ of_host b → list_all (in_host b) zs ≡ true → rest ≡ true → (h.fits && (list_all (in_host h.boolean) zs && rest)) ≡ true
hosted_case h b zs rest e p q = subst (λ (x : Hosted). (x.fits && (list_all (in_host x.boolean) zs && rest)) ≡ true) (sym e) (and_from _ _ p q)

pub case_fits : (t : Tables) (body : Body) (selector : Expr) (arms : List Arm) (b : Bool) → body ≡ view.Case selector arms → hosted t selector ≡ of_host b → list_all (in_host b) (constants (map (arm_types t) arms)) ≡ true
    → all_true (map (λ (a : Bool × List ℤ). a.0) (map (arm_types t) arms)) ≡ true → body_types_fit t body ≡ true
case_fits t body selector arms b e h p q = ap (body_types_fit t) e ∙ case_types t selector arms ∙ hosted_case (hosted t selector) b _ _ h p q

pub case_placed : (q : Rule) (body : Body) (selector : Expr) (arms : List Arm) → body ≡ view.Case selector arms → each_expr q selector ≡ true → q.choice (constants (map (arm_of q) arms)) ≡ true
    → all_true (map (λ (a : Bool × List ℤ). a.0) (map (arm_of q) arms)) ≡ true → each_body q body ≡ true
case_placed q body selector arms e h p r = ap (each_body q) e ∙ case_scopes q selector arms ∙ and_from _ _ h (and_from _ _ p r)

pub case_spent : (body : Body) (selector : Expr) (arms : List Arm) (before between after : ℕ) → body ≡ view.Case selector arms → expr_size selector + between ≤ before → sum (map arm_size arms) + after ≤ between → body_size body + after ≤ before
case_spent body selector arms before between after e p q =
    let i = ap body_inner e ∙ case_inner selector arms in
    omega (arith, p, q, ap (λ (x : Inner). x.parts) i, ap (λ (x : Inner). x.total) i)

pub repeat_placed : (q : Rule) (body : Body) (statements : List Statement) (at : ℕ) (test : Expr) → body ≡ view.Repeat statements at test → ((n : ℕ) → nat_lt 0 n ≡ true → q.sequence n ≡ true)
    → nat_lt 0 (length statements) ≡ true → all_true (map (each_statement q) statements) ≡ true → each_expr q test ≡ true → each_body q body ≡ true
repeat_placed q body statements at test e some n p h =
    ap (each_body q) e ∙ repeat_scopes q statements at test
    ∙ and_from _ _ (and_from _ _ (some _ (subst (λ k. nat_lt 0 k ≡ true) (sym (length-map statements (each_statement q))) n)) p) h
