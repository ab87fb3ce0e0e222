-- A weaker rule holds wherever a stronger one does: for lists that have grown, and for a part of a rule.
use Rattle.std.proofs.Common.{◌≡◌, ℕ, ℤ, Bool, true, ◌&&◌, List, [], ◌∷◌, ◌++◌, map, length, refl, sym, ap, subst, ◌∙◌, Option, Some, None}
use Rattle.std.proofs.lemmas.Bool.{and_parts, and_from}
use Rattle.std.proofs.lemmas.List.{length-map}
use Rattle.std.specs.List.{list_all}
use Rattle.std.specs.Option.{option_map}
use Rattle.pas_program.specs.declared.expr.Access.{Access}
use Rattle.pas_program.specs.declared.expr.Actual.{Actual}
use Rattle.pas_program.specs.declared.expr.Actual.TheOpen.{Access-F, Actual-F, ExprForm-F, Expr-F}
use Rattle.pas_program.specs.declared.expr.Actual.TheFolds.{fold-roll-Access, fold-roll-Actual, fold-roll-Expr, fold-roll-ExprForm, ind-Access, ind-Actual, ind-Expr, map-Access, map-Actual, map-Expr, map-ExprForm}
use Rattle.pas_program.specs.declared.expr.Actual.TheViews.{roll-Access, roll-Actual, roll-Expr, roll-ExprForm}
use Rattle.pas_program.specs.declared.expr.Expr.{Expr}
use Rattle.pas_program.specs.declared.expr.ExprForm.{ExprForm}
use Rattle.pas_program.specs.declared.statement.Arm.{Arm}
use Rattle.pas_program.specs.declared.statement.Body.{Body}
use Rattle.pas_program.specs.declared.statement.Body.TheOpen.{Arm-F, Body-F, Statement-F}
use Rattle.pas_program.specs.declared.statement.Body.TheFolds.{fold-roll-Arm, fold-roll-Body, fold-roll-Statement, fold_out-Arm, ind-Statement, map-Arm, map-Body, map-Statement}
use Rattle.pas_program.specs.declared.statement.Body.TheViews.{roll-Arm, roll-Body, roll-Statement, out-Arm}
use Rattle.pas_program.specs.declared.statement.Statement.{Statement}
use Rattle.pas_program.specs.declared.statement.WriteItem.{WriteItem}
use Rattle.pas_program.specs.declared.statement.WriteValue.{WriteValue}
use Rattle.pas_program.specs.declared.statement.WriteValue.TheVariants as written
use Rattle.pas_program.specs.Each.{Rule, all_true, true_if_some, actual_step, form_step, access_step, expr_step, each_access, each_actual, each_expr, each_form, each_item, each_written, each_statement, each_body, each_arm, body_step, arm_step, statement_step, constants, arm_of}

-- u asks no more than q
pub record Weaker (q u : Rule) : Type 0 where
  pub variable : (v : ℕ) → q.variable v ≡ true → u.variable v ≡ true
  pub call : (r slot : ℕ) → q.call r slot ≡ true → u.call r slot ≡ true
  pub invoke : (r : ℕ) → q.invoke r ≡ true → u.invoke r ≡ true
  pub loop : (control bound : ℕ) → q.loop control bound ≡ true → u.loop control bound ≡ true
  pub jump : (r label : ℕ) → q.jump r label ≡ true → u.jump r label ≡ true
  pub assertion : (a : ℕ) → q.assertion a ≡ true → u.assertion a ≡ true
  pub sequence : (n : ℕ) → q.sequence n ≡ true → u.sequence n ≡ true
  pub choice : (constants : List ℤ) → q.choice constants ≡ true → u.choice constants ≡ true

-- ---- one level: what a rule says of a part, from what it says of the parts inside, and the other way round

module _ (q : Rule) where
  pub from_actual : (d : Actual-F Actual ExprForm Access Expr) → actual_step (map-Actual Actual ExprForm Access Expr Bool Bool Bool Bool (each_actual q) (each_form q) (each_access q) (each_expr q) d) ≡ true → each_actual q (roll-Actual d) ≡ true
  from_actual d h = fold-roll-Actual Bool Bool Bool Bool actual_step (form_step q) (access_step q) expr_step d ∙ h

  pub to_actual : (d : Actual-F Actual ExprForm Access Expr) → each_actual q (roll-Actual d) ≡ true → actual_step (map-Actual Actual ExprForm Access Expr Bool Bool Bool Bool (each_actual q) (each_form q) (each_access q) (each_expr q) d) ≡ true
  to_actual d h = sym (fold-roll-Actual Bool Bool Bool Bool actual_step (form_step q) (access_step q) expr_step d) ∙ h

  pub from_form : (d : ExprForm-F Actual ExprForm Access Expr) → form_step q (map-ExprForm Actual ExprForm Access Expr Bool Bool Bool Bool (each_actual q) (each_form q) (each_access q) (each_expr q) d) ≡ true → each_form q (roll-ExprForm d) ≡ true
  from_form d h = fold-roll-ExprForm Bool Bool Bool Bool actual_step (form_step q) (access_step q) expr_step d ∙ h

  pub to_form : (d : ExprForm-F Actual ExprForm Access Expr) → each_form q (roll-ExprForm d) ≡ true → form_step q (map-ExprForm Actual ExprForm Access Expr Bool Bool Bool Bool (each_actual q) (each_form q) (each_access q) (each_expr q) d) ≡ true
  to_form d h = sym (fold-roll-ExprForm Bool Bool Bool Bool actual_step (form_step q) (access_step q) expr_step d) ∙ h

  pub from_access : (d : Access-F Actual ExprForm Access Expr) → (q.variable d.var && all_true (map (each_expr q) d.subscripts)) ≡ true → each_access q (roll-Access d) ≡ true
  from_access d h = fold-roll-Access Bool Bool Bool Bool actual_step (form_step q) (access_step q) expr_step d ∙ h

  pub to_access : (d : Access-F Actual ExprForm Access Expr) → each_access q (roll-Access d) ≡ true → (q.variable d.var && all_true (map (each_expr q) d.subscripts)) ≡ true
  to_access d h = sym (fold-roll-Access Bool Bool Bool Bool actual_step (form_step q) (access_step q) expr_step d) ∙ h

  pub from_expr : (d : Expr-F Actual ExprForm Access Expr) → each_form q d.form ≡ true → each_expr q (roll-Expr d) ≡ true
  from_expr d h = fold-roll-Expr Bool Bool Bool Bool actual_step (form_step q) (access_step q) expr_step d ∙ h

  pub to_expr : (d : Expr-F Actual ExprForm Access Expr) → each_expr q (roll-Expr d) ≡ true → each_form q d.form ≡ true
  to_expr d h = sym (fold-roll-Expr Bool Bool Bool Bool actual_step (form_step q) (access_step q) expr_step d) ∙ h

module _ (q : Rule) where
  pub from_body : (d : Body-F Body Arm Statement) → body_step q (map-Body Body Arm Statement Bool (Bool × List ℤ) Bool (each_body q) (arm_of q) (each_statement q) d) ≡ true → each_body q (roll-Body d) ≡ true
  from_body d h = fold-roll-Body Bool (Bool × List ℤ) Bool (body_step q) arm_step (statement_step q) d ∙ h

  pub to_body : (d : Body-F Body Arm Statement) → each_body q (roll-Body d) ≡ true → body_step q (map-Body Body Arm Statement Bool (Bool × List ℤ) Bool (each_body q) (arm_of q) (each_statement q) d) ≡ true
  to_body d h = sym (fold-roll-Body Bool (Bool × List ℤ) Bool (body_step q) arm_step (statement_step q) d) ∙ h

  pub from_statement : (d : Statement-F Body Arm Statement) → (list_all q.assertion d.asserts && each_body q d.body) ≡ true → each_statement q (roll-Statement d) ≡ true
  from_statement d h = fold-roll-Statement Bool (Bool × List ℤ) Bool (body_step q) arm_step (statement_step q) d ∙ h

  pub to_statement : (d : Statement-F Body Arm Statement) → each_statement q (roll-Statement d) ≡ true → (list_all q.assertion d.asserts && each_body q d.body) ≡ true
  to_statement d h = sym (fold-roll-Statement Bool (Bool × List ℤ) Bool (body_step q) arm_step (statement_step q) d) ∙ h

  pub from_arm : (d : Arm-F Body Arm Statement) → each_statement q d.body ≡ true → each_arm q (roll-Arm d) ≡ true
  from_arm d h = ap (λ a. a.0) (fold-roll-Arm Bool (Bool × List ℤ) Bool (body_step q) arm_step (statement_step q) d) ∙ h

  pub to_arm : (d : Arm-F Body Arm Statement) → each_arm q (roll-Arm d) ≡ true → each_statement q d.body ≡ true
  to_arm d h = sym (ap (λ a. a.0) (fold-roll-Arm Bool (Bool × List ℤ) Bool (body_step q) arm_step (statement_step q) d)) ∙ h

  -- the constants of an arm are those that it has, whatever the rule
  pub arm_constants : (a : Arm) → (arm_of q a).1 ≡ (out-Arm a).consts
  arm_constants a = ap (λ b. b.1) (fold_out-Arm Bool (Bool × List ℤ) Bool (body_step q) arm_step (statement_step q) a)

-- a value, with the proof that one test of it brings another
abbrev pub Along : {A : Type 0} → (A → Bool) → (A → Bool) → A → Type 0
Along f g x = f x ≡ true → g x ≡ true

abbrev pub With : {A : Type 0} → (A → Type 0) → Type 0
With {A} P = (x : A) × P x

pub all_mapped : {A : Type 0} (f g : A → Bool) → ((x : A) → f x ≡ true → g x ≡ true) → (xs : List A) → all_true (map f xs) ≡ true → all_true (map g xs) ≡ true
all_mapped f g w [] h = refl
all_mapped f g w (x ∷ xs) h = let p = and_parts (f x) _ h in and_from _ _ (w x p.0) (all_mapped f g w xs p.1)

pub list_all_weaker : {A : Type 0} (f g : A → Bool) → ((x : A) → f x ≡ true → g x ≡ true) → (xs : List A) → list_all f xs ≡ true → list_all g xs ≡ true
list_all_weaker f g w [] h = refl
list_all_weaker f g w (x ∷ xs) h = let p = and_parts (f x) _ h in and_from _ _ (w x p.0) (list_all_weaker f g w xs p.1)

pub all_along : {A : Type 0} (f g : A → Bool) (ys : List (With (Along f g))) → all_true (map f (map (λ (y : With (Along f g)). y.0) ys)) ≡ true → all_true (map g (map (λ (y : With (Along f g)). y.0) ys)) ≡ true
all_along f g [] h = refl
all_along f g (y ∷ ys) h = let p = and_parts (f y.0) _ h in and_from _ _ (y.1 p.0) (all_along f g ys p.1)

module _ (q u : Rule) (w : Weaker q u) where
  abbrev OfActual : Actual → Type 0
  OfActual = Along (each_actual q) (each_actual u)

  abbrev OfForm : ExprForm → Type 0
  OfForm = Along (each_form q) (each_form u)

  abbrev OfAccess : Access → Type 0
  OfAccess = Along (each_access q) (each_access u)

  abbrev OfExpr : Expr → Type 0
  OfExpr = Along (each_expr q) (each_expr u)

  of_actual : (y : Actual-F (With OfActual) (With OfForm) (With OfAccess) (With OfExpr)) → OfActual (roll-Actual (map-Actual (With OfActual) (With OfForm) (With OfAccess) (With OfExpr) Actual ExprForm Access Expr (λ e. e.0) (λ e. e.0) (λ e. e.0) (λ e. e.0) y))
  of_actual (Actual-F.«Actual::Value» e) h = from_actual u _ (e.1 (to_actual q (Actual-F.«Actual::Value» e.0) h))
  of_actual (Actual-F.Whole a) h = from_actual u _ (a.1 (to_actual q (Actual-F.Whole a.0) h))
  of_actual (Actual-F.Var a) h = from_actual u _ (a.1 (to_actual q (Actual-F.Var a.0) h))

  of_form : (y : ExprForm-F (With OfActual) (With OfForm) (With OfAccess) (With OfExpr)) → OfForm (roll-ExprForm (map-ExprForm (With OfActual) (With OfForm) (With OfAccess) (With OfExpr) Actual ExprForm Access Expr (λ e. e.0) (λ e. e.0) (λ e. e.0) (λ e. e.0) y))
  of_form (ExprForm-F.Const boolean value) h = from_form u _ refl
  of_form (ExprForm-F.«ExprForm::Value» a) h = from_form u _ (a.1 (to_form q (ExprForm-F.«ExprForm::Value» a.0) h))
  of_form (ExprForm-F.Unary op e at) h = from_form u _ (e.1 (to_form q (ExprForm-F.Unary op e.0 at) h))
  of_form (ExprForm-F.Binary op l r at) h =
      let p = and_parts (each_expr q l.0) _ (to_form q (ExprForm-F.Binary op l.0 r.0 at) h) in
      from_form u (ExprForm-F.Binary op l.0 r.0 at) (and_from _ _ (l.1 p.0) (r.1 p.1))
  of_form (ExprForm-F.Call routine actuals slot at) h =
      let p = and_parts (q.call routine slot) _ (to_form q (ExprForm-F.Call routine (map (λ e. e.0) actuals) slot at) h) in
      from_form u (ExprForm-F.Call routine (map (λ e. e.0) actuals) slot at) (and_from _ _ (w.call routine slot p.0) (all_along (each_actual q) (each_actual u) actuals p.1))

  of_access : (y : Access-F (With OfActual) (With OfForm) (With OfAccess) (With OfExpr)) → OfAccess (roll-Access (map-Access (With OfActual) (With OfForm) (With OfAccess) (With OfExpr) Actual ExprForm Access Expr (λ e. e.0) (λ e. e.0) (λ e. e.0) (λ e. e.0) y))
  of_access y h =
      let p = and_parts (q.variable y.var) _ (to_access q _ h) in
      from_access u _ (and_from _ _ (w.variable y.var p.0) (all_along (each_expr q) (each_expr u) y.subscripts p.1))

  of_expr : (y : Expr-F (With OfActual) (With OfForm) (With OfAccess) (With OfExpr)) → OfExpr (roll-Expr (map-Expr (With OfActual) (With OfForm) (With OfAccess) (With OfExpr) Actual ExprForm Access Expr (λ e. e.0) (λ e. e.0) (λ e. e.0) (λ e. e.0) y))
  of_expr y h = from_expr u _ (y.form.1 (to_expr q _ h))

  by_actual : (x : Actual-F Actual ExprForm Access Expr) (y : Actual-F (With OfActual) (With OfForm) (With OfAccess) (With OfExpr)) → map-Actual (With OfActual) (With OfForm) (With OfAccess) (With OfExpr) Actual ExprForm Access Expr (λ e. e.0) (λ e. e.0) (λ e. e.0) (λ e. e.0) y ≡ x → OfActual (roll-Actual x)
  by_actual x y is = subst (λ z. OfActual (roll-Actual z)) is (of_actual y)

  by_form : (x : ExprForm-F Actual ExprForm Access Expr) (y : ExprForm-F (With OfActual) (With OfForm) (With OfAccess) (With OfExpr)) → map-ExprForm (With OfActual) (With OfForm) (With OfAccess) (With OfExpr) Actual ExprForm Access Expr (λ e. e.0) (λ e. e.0) (λ e. e.0) (λ e. e.0) y ≡ x → OfForm (roll-ExprForm x)
  by_form x y is = subst (λ z. OfForm (roll-ExprForm z)) is (of_form y)

  by_access : (x : Access-F Actual ExprForm Access Expr) (y : Access-F (With OfActual) (With OfForm) (With OfAccess) (With OfExpr)) → map-Access (With OfActual) (With OfForm) (With OfAccess) (With OfExpr) Actual ExprForm Access Expr (λ e. e.0) (λ e. e.0) (λ e. e.0) (λ e. e.0) y ≡ x → OfAccess (roll-Access x)
  by_access x y is = subst (λ z. OfAccess (roll-Access z)) is (of_access y)

  by_expr : (x : Expr-F Actual ExprForm Access Expr) (y : Expr-F (With OfActual) (With OfForm) (With OfAccess) (With OfExpr)) → map-Expr (With OfActual) (With OfForm) (With OfAccess) (With OfExpr) Actual ExprForm Access Expr (λ e. e.0) (λ e. e.0) (λ e. e.0) (λ e. e.0) y ≡ x → OfExpr (roll-Expr x)
  by_expr x y is = subst (λ z. OfExpr (roll-Expr z)) is (of_expr y)

  pub expr_weaker : (e : Expr) → each_expr q e ≡ true → each_expr u e ≡ true
  expr_weaker = ind-Expr OfActual OfForm OfAccess OfExpr by_actual by_form by_access by_expr

  pub access_weaker : (a : Access) → each_access q a ≡ true → each_access u a ≡ true
  access_weaker = ind-Access OfActual OfForm OfAccess OfExpr by_actual by_form by_access by_expr

  pub actual_weaker : (a : Actual) → each_actual q a ≡ true → each_actual u a ≡ true
  actual_weaker = ind-Actual OfActual OfForm OfAccess OfExpr by_actual by_form by_access by_expr

  written_weaker : (value : WriteValue) → each_written q value ≡ true → each_written u value ≡ true
  written_weaker (written.Value e) h = expr_weaker e h
  written_weaker (written.Text bytes at) h = refl

  width_weaker : (width : Option Expr) → true_if_some (option_map (each_expr q) width) ≡ true → true_if_some (option_map (each_expr u) width) ≡ true
  width_weaker None h = refl
  width_weaker (Some e) h = expr_weaker e h

  item_weaker : (item : WriteItem) → each_item q item ≡ true → each_item u item ≡ true
  item_weaker item h =
      let p = and_parts (each_written q item.value) _ h in
      and_from _ _ (written_weaker item.value p.0) (width_weaker item.width p.1)

  accesses_weaker : (xs : List Access) → all_true (map (each_access q) xs) ≡ true → all_true (map (each_access u) xs) ≡ true
  accesses_weaker = all_mapped (each_access q) (each_access u) access_weaker

  -- ---- statements

  abbrev OfBody : Body → Type 0
  OfBody = Along (each_body q) (each_body u)

  abbrev OfArm : Arm → Type 0
  OfArm = Along (each_arm q) (each_arm u)

  abbrev OfStatement : Statement → Type 0
  OfStatement = Along (each_statement q) (each_statement u)

  same_constants : (arms : List Arm) → constants (map (arm_of q) arms) ≡ constants (map (arm_of u) arms)
  same_constants [] = refl
  same_constants (a ∷ arms) = ap (λ zs. zs ++ constants (map (arm_of q) arms)) (arm_constants q a ∙ sym (arm_constants u a)) ∙ ap (λ zs. (arm_of u a).1 ++ zs) (same_constants arms)

  sequence_weaker : (ys : List (With OfStatement)) → (q.sequence (length (map (each_statement q) (map (λ (y : With OfStatement). y.0) ys))) && all_true (map (each_statement q) (map (λ (y : With OfStatement). y.0) ys))) ≡ true
      → (u.sequence (length (map (each_statement u) (map (λ (y : With OfStatement). y.0) ys))) && all_true (map (each_statement u) (map (λ (y : With OfStatement). y.0) ys))) ≡ true
  sequence_weaker ys h =
      let old = map (λ (y : With OfStatement). y.0) ys in
      let p = and_parts (q.sequence (length (map (each_statement q) old))) _ h in
      let n = length-map old (each_statement q) ∙ sym (length-map old (each_statement u)) in
      and_from _ _ (subst (λ k. u.sequence k ≡ true) n (w.sequence _ p.0)) (all_along (each_statement q) (each_statement u) ys p.1)

  arms_weaker : (arms : List (With OfArm)) → all_true (map (λ (a : Bool × List ℤ). a.0) (map (arm_of q) (map (λ (y : With OfArm). y.0) arms))) ≡ true → all_true (map (λ (a : Bool × List ℤ). a.0) (map (arm_of u) (map (λ (y : With OfArm). y.0) arms))) ≡ true
  arms_weaker [] h = refl
  arms_weaker (y ∷ arms) h = let p = and_parts (each_arm q y.0) _ h in and_from _ _ (y.1 p.0) (arms_weaker arms p.1)

  of_body : (y : Body-F (With OfBody) (With OfArm) (With OfStatement)) → OfBody (roll-Body (map-Body (With OfBody) (With OfArm) (With OfStatement) Body Arm Statement (λ e. e.0) (λ e. e.0) (λ e. e.0) y))
  of_body Body-F.Empty h = from_body u Body-F.Empty refl
  of_body (Body-F.Assign target value) h =
      let p = and_parts (each_access q target) _ (to_body q (Body-F.Assign target value) h) in
      from_body u (Body-F.Assign target value) (and_from _ _ (access_weaker target p.0) (expr_weaker value p.1))
  of_body (Body-F.Copy target source) h =
      let p = and_parts (each_access q target) _ (to_body q (Body-F.Copy target source) h) in
      from_body u (Body-F.Copy target source) (and_from _ _ (access_weaker target p.0) (access_weaker source p.1))
  of_body (Body-F.Call routine actuals at) h =
      let p = and_parts (q.invoke routine) _ (to_body q (Body-F.Call routine actuals at) h) in
      from_body u (Body-F.Call routine actuals at) (and_from _ _ (w.invoke routine p.0) (all_mapped (each_actual q) (each_actual u) actual_weaker actuals p.1))
  of_body (Body-F.Read targets line) h = from_body u (Body-F.Read targets line) (all_mapped (each_access q) (each_access u) access_weaker targets (to_body q (Body-F.Read targets line) h))
  of_body (Body-F.Write items line) h = from_body u (Body-F.Write items line) (all_mapped (each_item q) (each_item u) item_weaker items (to_body q (Body-F.Write items line) h))
  of_body (Body-F.Goto routine label) h = from_body u (Body-F.Goto routine label) (w.jump routine label (to_body q (Body-F.Goto routine label) h))
  of_body (Body-F.Begin body end) h =
      let old = map (λ (y : With OfStatement). y.0) body in
      from_body u (Body-F.Begin old end) (sequence_weaker body (to_body q (Body-F.Begin old end) h))
  of_body (Body-F.If test first None) h =
      let p = and_parts (each_expr q test) _ (to_body q (Body-F.If test first.0 None) h) in
      let r = and_parts (each_statement q first.0) _ p.1 in
      from_body u (Body-F.If test first.0 None) (and_from _ _ (expr_weaker test p.0) (and_from _ _ (first.1 r.0) refl))
  of_body (Body-F.If test first (Some second)) h =
      let p = and_parts (each_expr q test) _ (to_body q (Body-F.If test first.0 (Some second.0)) h) in
      let r = and_parts (each_statement q first.0) _ p.1 in
      from_body u (Body-F.If test first.0 (Some second.0)) (and_from _ _ (expr_weaker test p.0) (and_from _ _ (first.1 r.0) (second.1 r.1)))
  of_body (Body-F.Case selector arms) h =
      let old = map (λ (y : With OfArm). y.0) arms in
      let p = and_parts (each_expr q selector) _ (to_body q (Body-F.Case selector old) h) in
      let r = and_parts (q.choice (constants (map (arm_of q) old))) _ p.1 in
      from_body u (Body-F.Case selector old) (and_from _ _ (expr_weaker selector p.0) (and_from _ _ (subst (λ zs. u.choice zs ≡ true) (same_constants old) (w.choice _ r.0)) (arms_weaker arms r.1)))
  of_body (Body-F.While test body) h =
      let p = and_parts (each_expr q test) _ (to_body q (Body-F.While test body.0) h) in
      from_body u (Body-F.While test body.0) (and_from _ _ (expr_weaker test p.0) (body.1 p.1))
  of_body (Body-F.Repeat body at test) h =
      let old = map (λ (y : With OfStatement). y.0) body in
      let p = and_parts (q.sequence (length (map (each_statement q) old)) && all_true (map (each_statement q) old)) _ (to_body q (Body-F.Repeat old at test) h) in
      from_body u (Body-F.Repeat old at test) (and_from _ _ (sequence_weaker body p.0) (expr_weaker test p.1))
  of_body (Body-F.For control bound first down last body) h =
      let p = and_parts (q.loop control bound) _ (to_body q (Body-F.For control bound first down last body.0) h) in
      let r = and_parts (each_expr q first) _ p.1 in
      let s = and_parts (each_expr q last) _ r.1 in
      from_body u (Body-F.For control bound first down last body.0) (and_from _ _ (w.loop control bound p.0) (and_from _ _ (expr_weaker first r.0) (and_from _ _ (expr_weaker last s.0) (body.1 s.1))))

  of_arm : (y : Arm-F (With OfBody) (With OfArm) (With OfStatement)) → OfArm (roll-Arm (map-Arm (With OfBody) (With OfArm) (With OfStatement) Body Arm Statement (λ e. e.0) (λ e. e.0) (λ e. e.0) y))
  of_arm y h = from_arm u _ (y.body.1 (to_arm q _ h))

  of_statement : (y : Statement-F (With OfBody) (With OfArm) (With OfStatement)) → OfStatement (roll-Statement (map-Statement (With OfBody) (With OfArm) (With OfStatement) Body Arm Statement (λ e. e.0) (λ e. e.0) (λ e. e.0) y))
  of_statement y h =
      let p = and_parts (list_all q.assertion y.asserts) _ (to_statement q _ h) in
      from_statement u _ (and_from _ _ (list_all_weaker q.assertion u.assertion w.assertion y.asserts p.0) (y.body.1 p.1))

  pub statement_weaker : (s : Statement) → each_statement q s ≡ true → each_statement u s ≡ true
  statement_weaker =
      ind-Statement OfBody OfArm OfStatement
      (λ x y is. subst (λ z. OfBody (roll-Body z)) is (of_body y))
      (λ x y is. subst (λ z. OfArm (roll-Arm z)) is (of_arm y))
      (λ x y is. subst (λ z. OfStatement (roll-Statement z)) is (of_statement y))
