-- What statements are in the program, one level at a time.
use Rattle.std.proofs.Common.{◌≡◌, ℕ, ℤ, Bool, true, List, map, Option, Some, sym, ap, ◌∙◌}
use Rattle.std.specs.Option.{option_map}
use Rattle.px_base.specs.declared.place.Span.{Span}
use Rattle.pas_program.specs.declared.expr.Expr.{Expr}
use Rattle.pas_program.specs.declared.statement.Arm.{Arm}
use Rattle.pas_program.specs.declared.statement.Body.{Body}
use Rattle.pas_program.specs.declared.statement.Body.TheVariants as body
use Rattle.pas_program.specs.declared.statement.Body.TheViews.{roll-Arm, roll-Statement}
use Rattle.pas_program.specs.declared.statement.Statement as program
use Rattle.pas_tree.specs.declared.constant.Constant.{Constant}
use Rattle.pas_tree.specs.declared.expr.Expr as tree_expr
use Rattle.pas_tree.specs.declared.statement.Assertion.{Assertion}
use Rattle.pas_tree.specs.declared.statement.Body as tree_body
use Rattle.pas_tree.specs.declared.statement.Body.TheFolds.{fold-roll-Body, fold_out-Element, fold_out-Statement}
use Rattle.pas_tree.specs.declared.statement.Body.TheOpen.{Body-F}
use Rattle.pas_tree.specs.declared.statement.Body.TheVariants as tree
use Rattle.pas_tree.specs.declared.statement.Body.TheViews.{out-Element, out-Statement}
use Rattle.pas_tree.specs.declared.statement.Element.{Element}
use Rattle.pas_tree.specs.declared.statement.Statement.{Statement}
use Rattle.pas_check.specs.declared.built.Built.{Built}
use Rattle.pas_check.specs.Built.{◌>>=◌, in_order}
use Rattle.pas_check.specs.Forms.{expr_form, operand_form, scalar_form}
use Rattle.pas_check.specs.Sight.{Sight}
use Rattle.pas_check.specs.StatementForms.{ArmForm, BodyForm, StatementForm, arm_form, arm_step, arms_form, assert_added, assert_form, body_form, body_step, constants_form, label_value, statement_form, statement_step}

-- ---- assertions

module _ (a : Assertion) where
  numbered : Option (Expr × Built) → Option (ℕ × Built)
  numbered o = o >>= (λ x. Some (assert_added a x.0 x.1))

  pub assert_form_is : (v u : Sight) (b between after : Built) (x : Expr) (n : ℕ) → u ≡ v → operand_form (expr_form (record u { asserting = true }) a.cond) b ≡ Some (x, between)
      → assert_added a x between ≡ (n, after) → assert_form v a b ≡ Some (n, after)
  unfolding numbered assert_form
  assert_form_is v u b between after x n kept is added =
      ap (λ (t : Sight). numbered (operand_form (expr_form (record t { asserting = true }) a.cond) b)) (sym kept) ∙ ap numbered is ∙ ap Some added

-- ---- statements

statement_form_by : (s : Statement) (v : Sight) (b : Built)
    → statement_form s v b ≡ (in_order (assert_form v) (out-Statement s).asserts b >>= (λ asserts. body_form (out-Statement s).body (out-Statement s).at v asserts.1 >>= (λ x.
    Some (roll-Statement (record { at = (out-Statement s).at.start; label = option_map label_value (out-Statement s).label; asserts = asserts.0; body = x.0 }), x.1))))
unfolding statement_form body_form arm_form
statement_form_by s v b = ap (λ (t : StatementForm). t v b) (fold_out-Statement BodyForm ArmForm StatementForm body_step arm_step statement_step s)

module _ (s : Statement) (v : Sight) where
  whole : Option ℕ → List ℕ → Body × Built → Option (program.Statement × Built)
  whole label asserts x = Some (roll-Statement (record { at = (out-Statement s).at.start; label = label; asserts = asserts; body = x.0 }), x.1)

  after_asserts : Option ℕ → Option (List ℕ × Built) → Option (program.Statement × Built)
  after_asserts label o = o >>= (λ asserts. body_form (out-Statement s).body (out-Statement s).at v asserts.1 >>= whole label asserts.0)

  pub statement_form_is : (b between after : Built) (u : Sight) (xs : List Assertion) (label : Option ℕ) (asserts : List ℕ) (body : Body) → xs ≡ (out-Statement s).asserts → label ≡ option_map label_value (out-Statement s).label
      → in_order (assert_form v) xs b ≡ Some (asserts, between) → u ≡ v → body_form (out-Statement s).body (out-Statement s).at u between ≡ Some (body, after)
      → statement_form s v b ≡ Some (roll-Statement (record { at = (out-Statement s).at.start; label = label; asserts = asserts; body = body }), after)
  unfolding whole after_asserts
  statement_form_is b between after u xs label asserts body same named is kept goes =
      statement_form_by s v b
      ∙ ap (λ l. after_asserts l (in_order (assert_form v) (out-Statement s).asserts b)) (sym named)
      ∙ ap (λ ys. after_asserts label (in_order (assert_form v) ys b)) (sym same)
      ∙ ap (after_asserts label) is
      ∙ ap (λ t. body_form (out-Statement s).body (out-Statement s).at t between >>= whole label asserts) (sym kept)
      ∙ ap (λ o. o >>= whole label asserts) goes

-- ---- arms

arm_form_by : (a : Element) (v : Sight) (b : Built)
    → arm_form a v b ≡ (constants_form v (out-Element a).consts >>= (λ consts. statement_form (out-Element a).body v b >>= (λ x. Some (roll-Arm (record { consts = consts; body = x.0 }), x.1))))
unfolding statement_form body_form arm_form
arm_form_by a v b = ap (λ (t : ArmForm). t v b) (fold_out-Element BodyForm ArmForm StatementForm body_step arm_step statement_step a)

module _ (a : Element) (v : Sight) where
  armed : List ℤ → Option (program.Statement × Built) → Option (Arm × Built)
  armed consts o = o >>= (λ x. Some (roll-Arm (record { consts = consts; body = x.0 }), x.1))

  after_consts : Built → Option (List ℤ) → Option (Arm × Built)
  after_consts b o = o >>= (λ consts. armed consts (statement_form (out-Element a).body v b))

  pub arm_form_is : (b before after : Built) (u : Sight) (xs : List Constant) (consts : List ℤ) (body : program.Statement) → xs ≡ (out-Element a).consts → u ≡ v → before ≡ b
      → constants_form u xs ≡ Some consts → statement_form (out-Element a).body u before ≡ Some (body, after) → arm_form a v b ≡ Some (roll-Arm (record { consts = consts; body = body }), after)
  unfolding armed after_consts
  arm_form_is b before after u xs consts body same kept built is goes =
      arm_form_by a v b
      ∙ ap (λ ys. after_consts b (constants_form v ys)) (sym same)
      ∙ ap (λ (t : Sight). after_consts b (constants_form t xs)) (sym kept)
      ∙ ap (after_consts b) is
      ∙ ap (λ (t : Sight). armed consts (statement_form (out-Element a).body t b)) (sym kept)
      ∙ ap (λ c. armed consts (statement_form (out-Element a).body u c)) (sym built)
      ∙ ap (armed consts) goes

-- ---- `case`

module _ (selector : tree_expr.Expr) (arms : List Element) (at : Span) (v : Sight) where
  chosen : Option (Expr × Built) → Option (Body × Built)
  chosen o = o >>= (λ x. arms_form (map arm_form arms) v x.1 >>= (λ xs. Some (body.Case x.0 xs.0, xs.1)))

  with_arms : Expr → Option (List Arm × Built) → Option (Body × Built)
  with_arms x o = o >>= (λ xs. Some (body.Case x xs.0, xs.1))

  case_form_by : (b : Built) → body_form (tree.Case selector arms) at v b ≡ chosen (operand_form (expr_form v selector) b)
  unfolding chosen statement_form body_form arm_form
  case_form_by b = ap (λ (t : BodyForm). t at v b) (ap body_form (sym (tree.rolls-Case selector arms)) ∙ fold-roll-Body BodyForm ArmForm StatementForm body_step arm_step statement_step (Body-F.Case selector arms))

  pub case_form_is : (s : tree_body.Body) (b between after : Built) (x : Expr × Bool) (xs : List Element) (list : List Arm) → s ≡ tree.Case selector arms → xs ≡ arms
      → scalar_form (expr_form v selector) b ≡ Some (x, between) → arms_form (map arm_form xs) v between ≡ Some (list, after) → body_form s at v b ≡ Some (body.Case x.0 list, after)
  unfolding chosen with_arms operand_form
  case_form_is s b between after x xs list so same is goes =
      ap (λ t. body_form t at v b) so ∙ case_form_by b
      ∙ ap (λ (o : Option ((Expr × Bool) × Built)). chosen (o >>= (λ y. Some (y.0.0, y.1)))) is
      ∙ ap (λ ys. with_arms x.0 (arms_form (map arm_form ys) v between)) (sym same)
      ∙ ap (with_arms x.0) goes
