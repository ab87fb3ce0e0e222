-- How many statements have a label, and the path of the one that has it.
use Rattle.std.proofs.Common.{◌≡◌, inl, inr, ℕ, suc, ◌+◌, ◌≤◌, cond, if◌then◌else◌, List, [], ◌∷◌, ◌++◌, map, refl, sym, ap, subst, ◌∙◌, Option, Some, None, nat_eq, arith}
use Rattle.std.proofs.lemmas.Bool.{cases_Bool, cond-false}
use Rattle.std.proofs.lemmas.List.Sums.{sum_by-cons}
use Rattle.std.specs.List.{sum}
use Rattle.pas_program.proofs.Weaker.{With}
use Rattle.pas_program.specs.declared.statement.Arm.{Arm}
use Rattle.pas_program.specs.declared.statement.Body.{Body}
use Rattle.pas_program.specs.declared.statement.Body.TheOpen.{Arm-F, Body-F, Statement-F}
use Rattle.pas_program.specs.declared.statement.Body.TheFolds.{fold-Arm, fold-Body, fold-roll-Arm, fold-roll-Body, fold-roll-Statement, ind-Statement, map-Arm, map-Body, map-Statement}
use Rattle.pas_program.specs.declared.statement.Body.TheViews.{roll-Arm, roll-Body, roll-Statement}
use Rattle.pas_program.specs.declared.statement.Statement.{Statement}
use Rattle.pas_program.specs.Labels.{count_labelled}
use Rattle.pas_program.specs.Scopes.{is_the}
use Rattle.pas_program.specs.Size.{Inner, Worth, arm_sum_step, body_sum_step, statement_sum_step}
use Rattle.control_points.specs.Sites.{Labels, Path, body_labels, labels_in, own_label, path_of, statement_labels}
use Rattle.control_points.proofs.PathsLevels.{arm_labels, arm_labels_opened, body_labels_opened, labels_inside, statement_labels_opened}
use Rattle.control_points.proofs.PathsLists.{bit, times, times_both}
use Rattle.control_points.proofs.PathsMarked.{first_of, nat_eq_turned}

-- how often a label stands in a list of labels
abbrev pub labelled : ℕ → Labels → ℕ
labelled n labels = times (λ (l : ℕ × Path). nat_eq l.0 n) labels

-- a label that stands there has a path
pub labels_lead : (labels : Labels) (n : ℕ) → 1 ≤ labelled n labels → first_of labels n ≡ Some (path_of labels n)
labels_lead [] n h = absurd (omega arith)
labels_lead (l ∷ labels) n h =
    elim (cases_Bool (nat_eq l.0 n)) [
      | inl e ↦ ap (λ b. cond b (Some l.1) (first_of labels n)) e ∙ ap Some (sym (ap (λ b. if b then l.1 else path_of labels n) e))
      | inr e ↦
          let none : bit (nat_eq l.0 n) ≡ 0 = cond-false (nat_eq l.0 n) 1 0 e in
          let some : 1 ≤ labelled n labels = omega (arith, h, none) in
          ap (λ b. cond b (Some l.1) (first_of labels n)) e ∙ labels_lead labels n some ∙ ap Some (sym (ap (λ b. if b then l.1 else path_of labels n) e))
    ]

module _ (n : ℕ) where
  abbrev worth : Worth
  worth label asserts parts = if is_the n label then 1 else 0

  abbrev body_count : Body → Inner
  body_count = fold-Body Inner ℕ ℕ body_sum_step arm_sum_step (statement_sum_step worth)

  abbrev arm_count : Arm → ℕ
  arm_count = fold-Arm Inner ℕ ℕ body_sum_step arm_sum_step (statement_sum_step worth)

  abbrev OfBody : Body → Type 0
  OfBody b = (path : Path) → (body_count b).total ≡ labelled n (labels_inside b path)

  abbrev OfArm : Arm → Type 0
  OfArm a = (path : Path) → arm_count a ≡ labelled n (arm_labels a path)

  abbrev OfStatement : Statement → Type 0
  OfStatement s = (path : Path) → count_labelled n s ≡ labelled n (statement_labels s path)

  abbrev statements : List (With OfStatement) → List Statement
  statements ys = map (λ (y : With OfStatement). y.0) ys

  abbrev arms_in : List (With OfArm) → List Arm
  arms_in ys = map (λ (y : With OfArm). y.0) ys

  both_counted : (xs ys : Labels) (a b : ℕ) → a ≡ labelled n xs → b ≡ labelled n ys → a + b ≡ labelled n (xs ++ ys)
  both_counted xs ys a b e f = omega (arith, e, f, times_both (λ (l : ℕ × Path). nat_eq l.0 n) xs ys)

  order_counted : (k : ℕ) (ys : List (With OfStatement)) (path : Path) → sum (map (count_labelled n) (statements ys)) ≡ labelled n (labels_in k (map statement_labels (statements ys)) path)
  order_counted k [] path = refl
  order_counted k (y ∷ ys) path =
      sum_by-cons (λ x. x) (count_labelled n y.0) (map (count_labelled n) (statements ys))
      ∙ both_counted (statement_labels y.0 (path ++ k ∷ [])) (labels_in (suc k) (map statement_labels (statements ys)) path) _ _ (y.1 (path ++ k ∷ [])) (order_counted (suc k) ys path)

  arms_counted : (k : ℕ) (ys : List (With OfArm)) (path : Path) → sum (map arm_count (arms_in ys)) ≡ labelled n (labels_in k (map arm_labels (arms_in ys)) path)
  arms_counted k [] path = refl
  arms_counted k (y ∷ ys) path =
      sum_by-cons (λ x. x) (arm_count y.0) (map arm_count (arms_in ys))
      ∙ both_counted (arm_labels y.0 (path ++ k ∷ [])) (labels_in (suc k) (map arm_labels (arms_in ys)) path) _ _ (y.1 (path ++ k ∷ [])) (arms_counted (suc k) ys path)

  own_counted : (label : Option ℕ) (path : Path) → (if is_the n label then 1 else 0) ≡ labelled n (own_label label path)
  own_counted None path = refl
  own_counted (Some m) path = ap bit (nat_eq_turned n m) ∙ omega arith

  from_body : (d : Body-F Body Arm Statement) (path : Path)
      → (body_sum_step (map-Body Body Arm Statement Inner ℕ ℕ body_count arm_count (count_labelled n) d)).total ≡ labelled n (body_labels (map-Body Body Arm Statement (Path → Labels) (Path → Labels) (Path → Labels) labels_inside arm_labels statement_labels d) path)
      → (body_count (roll-Body d)).total ≡ labelled n (labels_inside (roll-Body d) path)
  from_body d path e = ap (λ (x : Inner). x.total) (fold-roll-Body Inner ℕ ℕ body_sum_step arm_sum_step (statement_sum_step worth) d) ∙ e ∙ ap (labelled n) (sym (body_labels_opened d path))

  of_body : (y : Body-F (With OfBody) (With OfArm) (With OfStatement)) → OfBody (roll-Body (map-Body (With OfBody) (With OfArm) (With OfStatement) Body Arm Statement (λ e. e.0) (λ e. e.0) (λ e. e.0) y))
  of_body Body-F.Empty path = from_body Body-F.Empty path refl
  of_body (Body-F.Assign target value) path = from_body (Body-F.Assign target value) path refl
  of_body (Body-F.Copy target source) path = from_body (Body-F.Copy target source) path refl
  of_body (Body-F.Call routine actuals at) path = from_body (Body-F.Call routine actuals at) path refl
  of_body (Body-F.Read targets line) path = from_body (Body-F.Read targets line) path refl
  of_body (Body-F.Write items line) path = from_body (Body-F.Write items line) path refl
  of_body (Body-F.Goto routine number) path = from_body (Body-F.Goto routine number) path refl
  of_body (Body-F.Begin body end) path = from_body (Body-F.Begin (statements body) end) path (order_counted 0 body path)
  of_body (Body-F.If cond first None) path = from_body (Body-F.If cond first.0 None) path (both_counted (statement_labels first.0 (path ++ 0 ∷ [])) [] _ 0 (first.1 (path ++ 0 ∷ [])) refl)
  of_body (Body-F.If cond first (Some second)) path =
      from_body (Body-F.If cond first.0 (Some second.0)) path
      (both_counted (statement_labels first.0 (path ++ 0 ∷ [])) _ _ _ (first.1 (path ++ 0 ∷ [])) (one_part second.0 (path ++ 1 ∷ []) (second.1 (path ++ 1 ∷ []))))
    where
      one_part : (s : Statement) (path : Path) → count_labelled n s ≡ labelled n (statement_labels s path) → count_labelled n s ≡ labelled n (statement_labels s path ++ [])
      one_part s path e = omega (arith, e, times_both (λ (l : ℕ × Path). nat_eq l.0 n) (statement_labels s path) [])
  of_body (Body-F.Case selector arms) path = from_body (Body-F.Case selector (arms_in arms)) path (arms_counted 0 arms path)
  of_body (Body-F.While cond body) path = from_body (Body-F.While cond body.0) path (omega (arith, body.1 (path ++ 0 ∷ []), times_both (λ (l : ℕ × Path). nat_eq l.0 n) (statement_labels body.0 (path ++ 0 ∷ [])) []))
  of_body (Body-F.Repeat body at cond) path = from_body (Body-F.Repeat (statements body) at cond) path (order_counted 0 body path)
  of_body (Body-F.For control bound first down final body) path = from_body (Body-F.For control bound first down final body.0) path (omega (arith, body.1 (path ++ 0 ∷ []), times_both (λ (l : ℕ × Path). nat_eq l.0 n) (statement_labels body.0 (path ++ 0 ∷ [])) []))

  of_arm : (y : Arm-F (With OfBody) (With OfArm) (With OfStatement)) → OfArm (roll-Arm (map-Arm (With OfBody) (With OfArm) (With OfStatement) Body Arm Statement (λ e. e.0) (λ e. e.0) (λ e. e.0) y))
  of_arm y path =
      let d = map-Arm (With OfBody) (With OfArm) (With OfStatement) Body Arm Statement (λ e. e.0) (λ e. e.0) (λ e. e.0) y in
      fold-roll-Arm Inner ℕ ℕ body_sum_step arm_sum_step (statement_sum_step worth) d ∙ y.body.1 path ∙ ap (labelled n) (sym (arm_labels_opened d path))

  of_statement : (y : Statement-F (With OfBody) (With OfArm) (With OfStatement)) → OfStatement (roll-Statement (map-Statement (With OfBody) (With OfArm) (With OfStatement) Body Arm Statement (λ e. e.0) (λ e. e.0) (λ e. e.0) y))
  of_statement y path =
      let d = map-Statement (With OfBody) (With OfArm) (With OfStatement) Body Arm Statement (λ e. e.0) (λ e. e.0) (λ e. e.0) y in
      fold-roll-Statement Inner ℕ ℕ body_sum_step arm_sum_step (statement_sum_step worth) d
      ∙ both_counted (own_label y.label path) (labels_inside y.body.0 path) _ _ (own_counted y.label path) (y.body.1 path)
      ∙ ap (labelled n) (sym (statement_labels_opened d path))

  pub labels_counted : (s : Statement) → OfStatement s
  labels_counted =
      ind-Statement OfBody OfArm OfStatement
      (λ x y is. subst (λ z. OfBody (roll-Body z)) is (of_body y))
      (λ x y is. subst (λ z. OfArm (roll-Arm z)) is (of_arm y))
      (λ x y is. subst (λ z. OfStatement (roll-Statement z)) is (of_statement y))
