-- What holds of an expression holds of its parts.
use Rattle.std.proofs.Common.{◌≡◌, ℕ, ◌<◌, Bool, true, ◌&&◌, List, length, get_or, map, refl, sym, ap, ◌∙◌}
use Rattle.std.proofs.lemmas.Bool.{and_parts}
use Rattle.std.proofs.lemmas.List.Recursion.{and_at}
use Rattle.px_base.specs.declared.operator.BinOp.{BinOp}
use Rattle.pas_program.specs.declared.expr.Access.{Access}
use Rattle.pas_program.specs.declared.expr.Actual.TheFolds.{fold_out-Access, fold_out-Expr, fold-roll-ExprForm}
use Rattle.pas_program.specs.declared.expr.Actual.TheOpen.{ExprForm-F}
use Rattle.pas_program.specs.declared.expr.Actual.TheViews.{out-Access, out-Expr, roll-ExprForm}
use Rattle.pas_program.specs.declared.expr.Expr.{Expr}
use Rattle.pas_program.specs.Each.{Rule, actual_step, all_true, form_step, access_step, expr_step, each_access, each_expr, each_form}
use Rattle.pas_program.specs.Checked.{numbers_in, tables}
use Rattle.pas_program.specs.Tables.{Tables}
use Rattle.pas_program.specs.Typed.{Hosted, Passed, Reached, actual_type_step, binary_host, form_type_step, access_type_step, expr_type_step, hosted, hosted_form}
use Rattle.abstract_expr.specs.declared.scope.Scope.{Scope}
use Rattle.abstract_expr.specs.Scopes.{Stands, program_of, seen_of}

module _ (q : Rule) where
  rule_is : (e : Expr) (op : BinOp) (l r : Expr) (at : ℕ) → (out-Expr e).form ≡ roll-ExprForm (ExprForm-F.Binary op l r at) → each_expr q e ≡ (each_expr q l && each_expr q r)
  rule_is e op l r at is = fold_out-Expr Bool Bool Bool Bool actual_step (form_step q) (access_step q) expr_step e ∙ ap (each_form q) is ∙ fold-roll-ExprForm Bool Bool Bool Bool actual_step (form_step q) (access_step q) expr_step (ExprForm-F.Binary op l r at)

  -- the operands of an operator
  pub operands_each : (e : Expr) (op : BinOp) (l r : Expr) (at : ℕ) → (out-Expr e).form ≡ roll-ExprForm (ExprForm-F.Binary op l r at) → each_expr q e ≡ true → (each_expr q l ≡ true) × (each_expr q r ≡ true)
  operands_each e op l r at is h = and_parts (each_expr q l) _ (sym (rule_is e op l r at is) ∙ h)

  -- a subscript of a variable
  pub subscript_each : (a : Access) (xs : List Expr) (k : ℕ) (e : Expr) → xs ≡ (out-Access a).subscripts → k < length xs → e ≡ get_or xs k e → each_access q a ≡ true → each_expr q e ≡ true
  subscript_each a xs k e is h at each =
      ap (each_expr q) at
      ∙ and_at (λ ys. all_true (map (each_expr q) ys)) (each_expr q) refl (λ y ys. refl) xs k e h
      (ap (λ ys. all_true (map (each_expr q) ys)) is
      ∙ (and_parts (q.variable (out-Access a).var) _ (sym (fold_out-Access Bool Bool Bool Bool actual_step (form_step q) (access_step q) expr_step a) ∙ each)).1)

module _ (t : Tables) where
  type_is : (e : Expr) (op : BinOp) (l r : Expr) (at : ℕ) → (out-Expr e).form ≡ roll-ExprForm (ExprForm-F.Binary op l r at) → hosted t e ≡ binary_host op (hosted t l) (hosted t r)
  type_is e op l r at is =
      fold_out-Expr Passed Hosted Reached Hosted actual_type_step (form_type_step t) (access_type_step t) expr_type_step e ∙ ap (hosted_form t) is
      ∙ fold-roll-ExprForm Passed Hosted Reached Hosted actual_type_step (form_type_step t) (access_type_step t) expr_type_step (ExprForm-F.Binary op l r at)

  pub operands_fit : (e : Expr) (op : BinOp) (l r : Expr) (at : ℕ) → (out-Expr e).form ≡ roll-ExprForm (ExprForm-F.Binary op l r at) → (hosted t e).fits ≡ true → ((hosted t l).fits ≡ true) × ((hosted t r).fits ≡ true)
  operands_fit e op l r at is h =
      and_parts (hosted t l).fits _ (and_parts ((hosted t l).fits && (hosted t r).fits) _ (sym (ap (λ (x : Hosted). x.fits) (type_is e op l r at is)) ∙ h)).0

-- the operands of an operator stand where it does
pub operands_stand : (s : Scope) (e : Expr) (op : BinOp) (l r : Expr) (at : ℕ) → (out-Expr e).form ≡ roll-ExprForm (ExprForm-F.Binary op l r at) → Stands s e → Stands s l × Stands s r
operands_stand s e op l r at is h =
    let n = operands_each (numbers_in (program_of s)) e op l r at is h.numbers in
    let f = operands_fit (tables (program_of s)) e op l r at is h.types in
    let v = operands_each (seen_of s) e op l r at is h.seen in
    (record { numbers = n.0; types = f.0; seen = v.0 }, record { numbers = n.1; types = f.1; seen = v.1 })
