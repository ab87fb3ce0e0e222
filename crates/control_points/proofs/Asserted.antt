-- The assertions of the points of a statement are those of its statements.
use Rattle.std.proofs.Common.{◌≡◌, ℕ, ℤ, suc, zero, Bool, true, List, [], ◌∷◌, ◌++◌, map, refl, sym, ap, subst, ◌∙◌, Some, None}
use Rattle.std.proofs.lemmas.Bool.{and_parts, and_from}
use Rattle.std.proofs.lemmas.List.Folds.{list_all-append}
use Rattle.std.proofs.lemmas.Option.{none-some}
use Rattle.std.specs.List.{list_all, flat_map, slice_get}
use Rattle.pas_program.proofs.Weaker.{With, to_arm, to_body, to_statement}
use Rattle.pas_program.specs.declared.expr.Access.{Access}
use Rattle.pas_program.specs.declared.routine.Routine.{Routine}
use Rattle.pas_program.specs.declared.statement.Arm.{Arm}
use Rattle.pas_program.specs.declared.statement.Body.{Body}
use Rattle.pas_program.specs.declared.statement.Body.TheOpen.{Arm-F, Body-F, Statement-F}
use Rattle.pas_program.specs.declared.statement.Body.TheFolds.{fold-roll-Arm, fold-roll-Body, fold-roll-Statement, ind-Statement, map-Arm, map-Body, map-Statement}
use Rattle.pas_program.specs.declared.statement.Body.TheViews.{out-Body, out-Statement, roll-Arm, roll-Body, roll-Statement, roll-out-Body, roll-out-Statement}
use Rattle.pas_program.specs.declared.statement.Statement.{Statement}
use Rattle.pas_program.specs.declared.statement.WriteItem.{WriteItem}
use Rattle.pas_program.specs.Each.{Rule, all_true, arm_of, each_arm, each_body, each_expr, each_statement}
use Rattle.control_points.specs.declared.numbering.Mark.{Mark}
use Rattle.control_points.specs.Called.{calls_of}
use Rattle.control_points.specs.Calls.{Sites, access_calls, expr_calls, item_calls}
use Rattle.control_points.proofs.Listed.{same_some}
use Rattle.control_points.specs.Marks.{Marks, joined, call_marks, read_marks, write_marks, body_marks_step, statement_marks_step, arm_marks, body_marks, statement_marks, statements_marks, part_marks, routine_marks, routines_marks}

pub asserts_pass : Rule → Mark → Bool
asserts_pass q m = list_all q.assertion m.asserts

module _ (q : Rule) where
  abbrev pub AllPass : Marks → Type 0
  AllPass ms = list_all (asserts_pass q) ms ≡ true

  both_pass : (xs ys : Marks) → AllPass xs → AllPass ys → AllPass (xs ++ ys)
  both_pass xs ys x y = list_all-append (asserts_pass q) xs ys ∙ and_from _ _ x y

  -- a point without assertions
  one_passes : (m : Mark) (ms : Marks) → asserts_pass q m ≡ true → AllPass ms → AllPass (m ∷ ms)
  one_passes m ms i h = and_from _ _ i h

  plain : (m : Mark) → m.asserts ≡ [] → asserts_pass q m ≡ true
  unfolding asserts_pass
  plain m e = ap (list_all q.assertion) e

  own : (m : Mark) → list_all q.assertion m.asserts ≡ true → asserts_pass q m ≡ true
  unfolding asserts_pass
  own m h = h

  calls_pass : (r : ℕ) (sites : Sites) → AllPass (call_marks r sites)
  calls_pass r [] = refl
  calls_pass r (c ∷ sites) = one_passes _ _ (plain _ refl) (calls_pass r sites)

  reads_pass : (r : ℕ) (targets : List Access) → AllPass (flat_map (read_marks r) targets)
  reads_pass r [] = refl
  reads_pass r (a ∷ targets) = both_pass (read_marks r a) _ (both_pass _ _ (calls_pass r (access_calls a)) (one_passes _ [] (plain _ refl) refl)) (reads_pass r targets)

  writes_pass : (r : ℕ) (items : List WriteItem) → AllPass (flat_map (write_marks r) items)
  writes_pass r [] = refl
  writes_pass r (item ∷ items) = both_pass (write_marks r item) _ (both_pass _ _ (calls_pass r (item_calls item)) (one_passes _ [] (plain _ refl) refl)) (writes_pass r items)

  abbrev OfBody : Body → Type 0
  OfBody b = each_body q b ≡ true → (r at : ℕ) → AllPass (body_marks r b at)

  abbrev OfArm : Arm → Type 0
  OfArm a = each_arm q a ≡ true → (r : ℕ) → AllPass (arm_marks r a)

  abbrev OfStatement : Statement → Type 0
  OfStatement s = each_statement q s ≡ true → (r : ℕ) → AllPass (statement_marks r s)

  abbrev statements : List (With OfStatement) → List Statement
  statements ys = map (λ (y : With OfStatement). y.0) ys

  abbrev arms_in : List (With OfArm) → List Arm
  arms_in ys = map (λ (y : With OfArm). y.0) ys

  in_order : (r : ℕ) (ys : List (With OfStatement)) → all_true (map (each_statement q) (statements ys)) ≡ true → AllPass (statements_marks r (statements ys))
  in_order r [] h = refl
  in_order r (y ∷ ys) h = let p = and_parts (each_statement q y.0) _ h in both_pass _ _ (y.1 p.0 r) (in_order r ys p.1)

  arms_in_order : (r : ℕ) (ys : List (With OfArm)) → all_true (map (λ (a : Bool × List ℤ). a.0) (map (arm_of q) (arms_in ys))) ≡ true → AllPass (joined (map (arm_marks r) (arms_in ys)))
  arms_in_order r [] h = refl
  arms_in_order r (y ∷ ys) h = let p = and_parts (each_arm q y.0) _ h in both_pass _ _ (y.1 p.0 r) (arms_in_order r ys p.1)

  from_body : (d : Body-F Body Arm Statement) (r at : ℕ) → AllPass (body_marks_step r (map-Body Body Arm Statement (ℕ → Marks) Marks Marks (body_marks r) (arm_marks r) (statement_marks r) d) at) → AllPass (body_marks r (roll-Body d) at)
  from_body d r at h = subst AllPass (sym (ap (λ f. f at) (fold-roll-Body (ℕ → Marks) Marks Marks (body_marks_step r) (λ a. a.body) (statement_marks_step r) d))) h

  behind : (r : ℕ) (sites : Sites) (inner : Marks) → AllPass inner → AllPass (call_marks r sites ++ inner)
  behind r sites inner h = both_pass _ _ (calls_pass r sites) h

  of_body : (y : Body-F (With OfBody) (With OfArm) (With OfStatement)) → OfBody (roll-Body (map-Body (With OfBody) (With OfArm) (With OfStatement) Body Arm Statement (λ e. e.0) (λ e. e.0) (λ e. e.0) y))
  of_body Body-F.Empty h r at = from_body Body-F.Empty r at (behind r [] [] refl)
  of_body (Body-F.Assign target value) h r at = from_body (Body-F.Assign target value) r at (behind r (access_calls target ++ expr_calls value) [] refl)
  of_body (Body-F.Copy target source) h r at = from_body (Body-F.Copy target source) r at (behind r (access_calls target ++ access_calls source) [] refl)
  of_body (Body-F.Call routine actuals name) h r at = from_body (Body-F.Call routine actuals name) r at (behind r (calls_of {A = Body} {B = Arm} {C = Statement} (Body-F.Call routine actuals name)) [] refl)
  of_body (Body-F.Read targets line) h r at = from_body (Body-F.Read targets line) r at (behind r [] _ (reads_pass r targets))
  of_body (Body-F.Write items line) h r at = from_body (Body-F.Write items line) r at (behind r [] _ (writes_pass r items))
  of_body (Body-F.Goto routine label) h r at = from_body (Body-F.Goto routine label) r at (behind r [] [] refl)
  of_body (Body-F.Begin body end) h r at =
      let p = and_parts _ _ (to_body q (Body-F.Begin (statements body) end) h) in
      from_body (Body-F.Begin (statements body) end) r at (behind r [] _ (in_order r body p.1))
  of_body (Body-F.If cond first None) h r at =
      let p = and_parts (each_expr q cond) _ (to_body q (Body-F.If cond first.0 None) h) in
      let s = and_parts (each_statement q first.0) _ p.1 in
      from_body (Body-F.If cond first.0 None) r at (behind r (expr_calls cond) _ (both_pass _ [] (first.1 s.0 r) refl))
  of_body (Body-F.If cond first (Some second)) h r at =
      let p = and_parts (each_expr q cond) _ (to_body q (Body-F.If cond first.0 (Some second.0)) h) in
      let s = and_parts (each_statement q first.0) _ p.1 in
      from_body (Body-F.If cond first.0 (Some second.0)) r at (behind r (expr_calls cond) _ (both_pass _ _ (first.1 s.0 r) (second.1 s.1 r)))
  of_body (Body-F.Case selector arms) h r at =
      let p = and_parts (each_expr q selector) _ (to_body q (Body-F.Case selector (arms_in arms)) h) in
      let s = and_parts _ _ p.1 in
      from_body (Body-F.Case selector (arms_in arms)) r at (behind r (expr_calls selector) _ (arms_in_order r arms s.1))
  of_body (Body-F.While cond body) h r at =
      let p = and_parts (each_expr q cond) _ (to_body q (Body-F.While cond body.0) h) in
      from_body (Body-F.While cond body.0) r at (behind r (expr_calls cond) _ (body.1 p.1 r))
  of_body (Body-F.Repeat body until cond) h r at =
      let p = and_parts _ _ (to_body q (Body-F.Repeat (statements body) until cond) h) in
      let s = and_parts _ _ p.0 in
      from_body (Body-F.Repeat (statements body) until cond) r at (behind r [] _ (both_pass _ _ (in_order r body s.1) (one_passes _ _ (plain _ refl) (calls_pass r (expr_calls cond)))))
  of_body (Body-F.For control bound first down last body) h r at =
      let p = and_parts (q.loop control bound) _ (to_body q (Body-F.For control bound first down last body.0) h) in
      let s = and_parts (each_expr q first) _ p.1 in
      let u = and_parts (each_expr q last) _ s.1 in
      from_body (Body-F.For control bound first down last body.0) r at (behind r (expr_calls first ++ expr_calls last) _ (both_pass _ _ (body.1 u.1 r) (one_passes _ [] (plain _ refl) refl)))

  of_arm : (y : Arm-F (With OfBody) (With OfArm) (With OfStatement)) → OfArm (roll-Arm (map-Arm (With OfBody) (With OfArm) (With OfStatement) Body Arm Statement (λ e. e.0) (λ e. e.0) (λ e. e.0) y))
  of_arm y h r =
      let d = map-Arm (With OfBody) (With OfArm) (With OfStatement) Body Arm Statement (λ e. e.0) (λ e. e.0) (λ e. e.0) y in
      subst AllPass (sym (fold-roll-Arm (ℕ → Marks) Marks Marks (body_marks_step r) (λ a. a.body) (statement_marks_step r) d)) (y.body.1 (to_arm q d h) r)

  of_statement : (y : Statement-F (With OfBody) (With OfArm) (With OfStatement)) → OfStatement (roll-Statement (map-Statement (With OfBody) (With OfArm) (With OfStatement) Body Arm Statement (λ e. e.0) (λ e. e.0) (λ e. e.0) y))
  of_statement y h r =
      let d = map-Statement (With OfBody) (With OfArm) (With OfStatement) Body Arm Statement (λ e. e.0) (λ e. e.0) (λ e. e.0) y in
      let p = and_parts (list_all q.assertion y.asserts) _ (to_statement q d h) in
      subst AllPass (sym (fold-roll-Statement (ℕ → Marks) Marks Marks (body_marks_step r) (λ a. a.body) (statement_marks_step r) d)) (one_passes _ _ (own _ p.0) (y.body.1 p.1 r y.at))

  pub statement_passes : (s : Statement) → OfStatement s
  statement_passes =
      ind-Statement OfBody OfArm OfStatement
      (λ x y is. subst (λ z. OfBody (roll-Body z)) is (of_body y))
      (λ x y is. subst (λ z. OfArm (roll-Arm z)) is (of_arm y))
      (λ x y is. subst (λ z. OfStatement (roll-Statement z)) is (of_statement y))

  statements_pass : (body : List Statement) → all_true (map (each_statement q) body) ≡ true → (r : ℕ) → AllPass (statements_marks r body)
  statements_pass [] h r = refl
  statements_pass (s ∷ body) h r = let p = and_parts (each_statement q s) _ h in both_pass _ _ (statement_passes s p.0 r) (statements_pass body p.1 r)

  -- the statement part of a routine
  part_passes : (r at : ℕ) (d : Body-F Body Arm Statement) → each_body q (roll-Body d) ≡ true → AllPass (part_marks r at d)
  part_passes r at (Body-F.Begin body end) h =
      let p = and_parts _ _ (to_body q (Body-F.Begin body end) h) in
      one_passes _ _ (plain _ refl) (both_pass _ _ (statements_pass body p.1 r) (one_passes _ [] (plain _ refl) refl))
  part_passes r at Body-F.Empty h = refl
  part_passes r at (Body-F.Assign target value) h = refl
  part_passes r at (Body-F.Copy target source) h = refl
  part_passes r at (Body-F.Call routine actuals name) h = refl
  part_passes r at (Body-F.Read targets line) h = refl
  part_passes r at (Body-F.Write items line) h = refl
  part_passes r at (Body-F.Goto routine label) h = refl
  part_passes r at (Body-F.If cond first second) h = refl
  part_passes r at (Body-F.Case selector arms) h = refl
  part_passes r at (Body-F.While cond body) h = refl
  part_passes r at (Body-F.Repeat body until cond) h = refl
  part_passes r at (Body-F.For control bound first down last body) h = refl

  pub routine_passes : (r : ℕ) (d : Routine) → each_statement q d.body ≡ true → AllPass (routine_marks r d)
  routine_passes r d h =
      let p = and_parts (list_all q.assertion (out-Statement d.body).asserts) _ (to_statement q (out-Statement d.body) (ap (each_statement q) (roll-out-Statement d.body) ∙ h)) in
      part_passes r (out-Statement d.body).at (out-Body (out-Statement d.body).body) (ap (each_body q) (roll-out-Body (out-Statement d.body).body) ∙ p.1)

  pub routines_pass : (first : ℕ) (routines : List Routine) → ((k : ℕ) (d : Routine) → slice_get routines k ≡ Some d → each_statement q d.body ≡ true) → AllPass (routines_marks first routines)
  routines_pass first [] h = refl
  routines_pass first (d ∷ routines) h = both_pass _ _ (routine_passes first d (h 0 d refl)) (routines_pass (suc first) routines (λ k x e. h (suc k) x e))

-- what passes at a point
pub asserts_at : (q : Rule) (ms : Marks) (p : ℕ) (m : Mark) → slice_get ms p ≡ Some m → list_all (asserts_pass q) ms ≡ true → list_all q.assertion m.asserts ≡ true
unfolding asserts_pass
asserts_at q [] p m h a = absurd (none-some m h)
asserts_at q (x ∷ ms) zero m h a = ap (λ (n : Mark). list_all q.assertion n.asserts) (sym (same_some h)) ∙ (and_parts (asserts_pass q x) _ a).0
asserts_at q (x ∷ ms) (suc p) m h a = asserts_at q ms p m h (and_parts (asserts_pass q x) _ a).1
