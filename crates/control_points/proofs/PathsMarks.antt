-- The points of a statement by paths are those by numbers, and its labels stand at the same places.
use Rattle.std.proofs.Common.{◌≡◌, ℕ, ℤ, suc, true, false, List, [], ◌∷◌, ◌++◌, map, append-nil, append_assoc, refl, sym, ap, subst, ◌∙◌, Some, None}
use Rattle.std.specs.List.{flat_map}
use Rattle.pas_program.proofs.Weaker.{With}
use Rattle.pas_program.specs.declared.expr.Access.{Access}
use Rattle.pas_program.specs.declared.expr.Actual.TheViews.{out-Access}
use Rattle.pas_program.specs.declared.expr.Expr.{Expr}
use Rattle.pas_program.specs.declared.routine.Assert.{Assert}
use Rattle.pas_program.specs.declared.statement.Arm.{Arm}
use Rattle.pas_program.specs.declared.statement.Body.{Body}
use Rattle.pas_program.specs.declared.statement.Body.TheOpen.{Arm-F, Body-F, Statement-F}
use Rattle.pas_program.specs.declared.statement.Body.TheFolds.{fold-roll-Arm, fold-roll-Body, fold-roll-Statement, ind-Statement, map-Arm, map-Body, map-Statement}
use Rattle.pas_program.specs.declared.statement.Body.TheViews.{roll-Arm, roll-Body, roll-Statement}
use Rattle.pas_program.specs.declared.statement.Statement.{Statement}
use Rattle.pas_program.specs.declared.statement.WriteItem.{WriteItem}
use Rattle.pas_program.specs.declared.statement.WriteValue.{WriteValue}
use Rattle.pas_program.specs.declared.statement.WriteValue.TheVariants as written
use Rattle.pas_program.specs.Tables.{Tables}
use Rattle.control_points.specs.declared.edge.Act.{Act}
use Rattle.control_points.specs.declared.edge.Act.TheVariants as act
use Rattle.control_points.specs.declared.point.PointKind.TheVariants as kind
use Rattle.control_points.specs.Calls.{Sites, access_calls, actuals_calls, expr_calls, item_calls}
use Rattle.control_points.specs.Checking.{Faults, bounds_checks, expr_checks}
use Rattle.control_points.specs.Evaluation.{var_type}
use Rattle.control_points.specs.Marks.{Marks, arm_marks, body_marks, body_marks_step, call_marks, joined, mark, read_marks, statement_marks, statement_marks_step, write_marks}
use Rattle.control_points.specs.Marks as marks
use Rattle.control_points.specs.Sites.{Labels, Path, Piece, Placing, Site, action, arms_from, body_labels, body_step, call_checks, call_links, in_order, labels_in, line_act, loop_piece, made, no_arms, reads, statement_labels, way, writes}
use Rattle.control_points.specs.Sites as sites
use Rattle.control_points.proofs.PathsLevels.{arm_labels, arm_labels_opened, arm_opened, body_labels_opened, body_opened, labels_inside, placed, placed_arm, placed_body, placed_in, statement_labels_opened, statement_opened}
use Rattle.control_points.proofs.PathsMarked.{IsMarked, made_marked, marked_both, marked_like, marked_then, none_marked, one_marked, statement_marked}

-- the two ways of a condition
abbrev both_ways : Expr → Site → Site → Site → Piece
both_ways cond here held failed = sites.both (way here (act.Test cond true) held) (way here (act.Test cond false) failed)

module _ (t : Tables) (asserts : List Assert) (r : ℕ) (label : ℕ → ℕ → Site) where
  same_place : (value : WriteValue) → sites.place_of_written t asserts r value ≡ marks.place_of_written value
  same_place (written.Value e) = refl
  same_place (written.Text bytes at) = refl

  -- an action without points of its own
  action_marked : (path : Path) (source : Site) (calls : Sites) (faults : Faults) (rest : Site → Piece) → ((here : Site) → (rest here).points ≡ []) → IsMarked r (action t asserts r path source calls faults rest).points (call_marks r calls) []
  action_marked path source calls faults rest none =
      let m = made t r path 0 source calls in
      marked_like r m.piece.points _ (call_marks r calls) _ [] [] (sym (append-nil m.piece.points) ∙ ap (λ xs. m.piece.points ++ xs) (sym (none m.here))) refl refl (made_marked r t path 0 source calls)

  reads_marked : (path : Path) (n k : ℕ) (source : Site) (end : Act) (targets : List Access) (next : Site) → IsMarked r (reads t asserts r path n k source end targets next).points (flat_map (read_marks r) targets) []
  reads_marked path n k source end [] next = none_marked r
  reads_marked path n k source end (a ∷ targets) next =
      let m = made t r path k source (access_calls a) in
      let past : Site = record { routine = r; path = path; kind = kind.AfterRead; number = n } in
      let more = flat_map (read_marks r) targets in
      let one = mark r kind.AfterRead (out-Access a).at in
      marked_like r _ _ (call_marks r (access_calls a) ++ (one ∷ more)) _ [] [] refl (sym (append_assoc (call_marks r (access_calls a)) (one ∷ []) more)) refl
      (marked_then r _ _ _ _ [] (made_marked r t path k source (access_calls a))
      (marked_then r _ _ (one ∷ []) more [] (one_marked r path kind.AfterRead n (out-Access a).at) (reads_marked path (suc n) m.number past end targets next)))

  writes_marked : (path : Path) (n k : ℕ) (source : Site) (end : Act) (items : List WriteItem) (next : Site) → IsMarked r (writes t asserts r path n k source end items next).points (flat_map (write_marks r) items) []
  writes_marked path n k source end [] next = none_marked r
  writes_marked path n k source end (item ∷ items) next =
      let m = made t r path k source (item_calls item) in
      let past : Site = record { routine = r; path = path; kind = kind.AfterWrite; number = n } in
      let more = flat_map (write_marks r) items in
      let at = sites.place_of_written t asserts r item.value in
      let one = mark r kind.AfterWrite at in
      marked_like r _ _ (call_marks r (item_calls item) ++ (one ∷ more)) _ [] [] refl
      (sym (append_assoc (call_marks r (item_calls item)) (one ∷ []) more) ∙ ap (λ n. (call_marks r (item_calls item) ++ mark r kind.AfterWrite n ∷ []) ++ more) (same_place item.value)) refl
      (marked_then r _ _ _ _ [] (made_marked r t path k source (item_calls item))
      (marked_then r _ _ (one ∷ []) more [] (one_marked r path kind.AfterWrite n at) (writes_marked path (suc n) m.number past end items next)))

  -- ---- statements

  abbrev OfBody : Body → Type 0
  OfBody b = (at : ℕ) (path : Path) (next : Site) → IsMarked r (placed_body t asserts r label b at path next).points (body_marks r b at) (labels_inside b path)

  abbrev OfArm : Arm → Type 0
  OfArm a = (path : Path) (next : Site) → IsMarked r ((placed_arm t asserts r label a).1 path next).points (arm_marks r a) (arm_labels a path)

  abbrev OfStatement : Statement → Type 0
  OfStatement s = (path : Path) (next : Site) → IsMarked r (placed t asserts r label s path next).points (statement_marks r s) (statement_labels s path)

  abbrev statements : List (With OfStatement) → List Statement
  statements ys = map (λ (y : With OfStatement). y.0) ys

  abbrev arms_in : List (With OfArm) → List Arm
  arms_in ys = map (λ (y : With OfArm). y.0) ys

  order_marked : (n : ℕ) (ys : List (With OfStatement)) (path : Path) (next : Site)
      → IsMarked r (in_order t asserts r n (map (placed t asserts r label) (statements ys)) path next).points (joined (map (statement_marks r) (statements ys))) (labels_in n (map statement_labels (statements ys)) path)
  order_marked n [] path next = none_marked r
  order_marked n (y ∷ []) path next =
      marked_like r _ _ _ _ _ _ (append-nil (placed t asserts r label y.0 (path ++ n ∷ []) next).points) refl refl
      (marked_both r _ [] _ [] _ [] (y.1 (path ++ n ∷ []) next) (none_marked r))
  order_marked n (y ∷ u ∷ ys) path next =
      marked_both r _ _ _ _ _ _ (y.1 (path ++ n ∷ []) (record { routine = r; path = path ++ suc n ∷ []; kind = kind.Before; number = 0 })) (order_marked (suc n) (u ∷ ys) path next)

  arms_marked : (n : ℕ) (selector : Expr) (source : Site) (ys : List (With OfArm)) (path : Path) (next : Site)
      → IsMarked r (arms_from t asserts r n selector source (map (placed_arm t asserts r label) (arms_in ys)) path next).points (joined (map (arm_marks r) (arms_in ys))) (labels_in n (map arm_labels (arms_in ys)) path)
  arms_marked n selector source [] path next = none_marked r
  arms_marked n selector source (y ∷ ys) path next = marked_both r _ _ _ _ _ _ (y.1 (path ++ n ∷ []) next) (arms_marked (suc n) selector source ys path next)

  no_arms_points : (arms : List (List ℤ × Placing)) (selector : Expr) (source next : Site) → (no_arms t asserts r arms selector source next).points ≡ []
  no_arms_points [] selector source next = refl
  no_arms_points (arm ∷ arms) selector source next = refl

  -- one level
  from_body : (d : Body-F Body Arm Statement) (at : ℕ) (path : Path) (next : Site)
      → IsMarked r (body_step t asserts r label (placed_in t asserts r label d) at path next).points
      (body_marks_step r (map-Body Body Arm Statement (ℕ → Marks) Marks Marks (body_marks r) (arm_marks r) (statement_marks r) d) at)
      (body_labels (map-Body Body Arm Statement (Path → Labels) (Path → Labels) (Path → Labels) labels_inside arm_labels statement_labels d) path)
      → IsMarked r (placed_body t asserts r label (roll-Body d) at path next).points (body_marks r (roll-Body d) at) (labels_inside (roll-Body d) path)
  from_body d at path next h =
      marked_like r _ _ _ _ _ _
      (ap (λ (p : Piece). p.points) (sym (body_opened t asserts r label d at path next)))
      (sym (ap (λ (f : ℕ → Marks). f at) (fold-roll-Body (ℕ → Marks) Marks Marks (body_marks_step r) (λ a. a.body) (statement_marks_step r) d)))
      (sym (body_labels_opened d path)) h

  of_body : (y : Body-F (With OfBody) (With OfArm) (With OfStatement)) → OfBody (roll-Body (map-Body (With OfBody) (With OfArm) (With OfStatement) Body Arm Statement (λ e. e.0) (λ e. e.0) (λ e. e.0) y))
  of_body Body-F.Empty at path next = from_body Body-F.Empty at path next (none_marked r)
  of_body (Body-F.Assign target value) at path next =
      from_body (Body-F.Assign target value) at path next
      (marked_then r _ [] _ [] [] (made_marked r t path 0 (sites.before t asserts r path) (access_calls target ++ expr_calls value)) (none_marked r))
  of_body (Body-F.Copy target source) at path next =
      from_body (Body-F.Copy target source) at path next
      (marked_then r _ [] _ [] [] (made_marked r t path 0 (sites.before t asserts r path) (access_calls target ++ access_calls source)) (none_marked r))
  of_body (Body-F.Call routine actuals name) at path next =
      from_body (Body-F.Call routine actuals name) at path next
      (marked_then r _ [] _ [] [] (made_marked r t path 0 (sites.before t asserts r path) (actuals_calls actuals)) (none_marked r))
  of_body (Body-F.Read targets line) at path next = from_body (Body-F.Read targets line) at path next (reads_marked path 0 0 (sites.before t asserts r path) (line_act t asserts r line act.DropLine) targets next)
  of_body (Body-F.Write items line) at path next = from_body (Body-F.Write items line) at path next (writes_marked path 0 0 (sites.before t asserts r path) (line_act t asserts r line act.EndLine) items next)
  of_body (Body-F.Goto routine number) at path next = from_body (Body-F.Goto routine number) at path next (none_marked r)
  of_body (Body-F.Begin body end) at path next = from_body (Body-F.Begin (statements body) end) at path next (order_marked 0 body path next)
  of_body (Body-F.If cond first None) at path next =
      from_body (Body-F.If cond first.0 None) at path next
      (marked_both r _ _ _ _ [] _ (action_marked path (sites.before t asserts r path) (expr_calls cond) (expr_checks t cond) (λ here. both_ways cond here (sites.before t asserts r (path ++ 0 ∷ [])) next) (λ here. refl))
      (marked_both r _ [] _ [] _ [] (first.1 (path ++ 0 ∷ []) next) (none_marked r)))
  of_body (Body-F.If cond first (Some second)) at path next =
      from_body (Body-F.If cond first.0 (Some second.0)) at path next
      (marked_both r _ _ _ _ [] _ (action_marked path (sites.before t asserts r path) (expr_calls cond) (expr_checks t cond) (λ here. both_ways cond here (sites.before t asserts r (path ++ 0 ∷ [])) (sites.before t asserts r (path ++ 1 ∷ []))) (λ here. refl))
      (marked_both r _ _ _ _ _ _ (first.1 (path ++ 0 ∷ []) next)
      (marked_like r _ _ _ _ _ _ refl refl (sym (append-nil (statement_labels second.0 (path ++ 1 ∷ [])))) (second.1 (path ++ 1 ∷ []) next))))
  of_body (Body-F.Case selector arms) at path next =
      let m = made t r path 0 (sites.before t asserts r path) (expr_calls selector) in
      from_body (Body-F.Case selector (arms_in arms)) at path next
      (marked_both r m.piece.points _ _ _ [] _ (made_marked r t path 0 (sites.before t asserts r path) (expr_calls selector))
      (marked_like r _ _ _ _ _ _ (ap (λ xs. xs ++ (arms_from t asserts r 0 selector m.here (map (placed_arm t asserts r label) (arms_in arms)) path next).points) (sym (no_arms_points (map (placed_arm t asserts r label) (arms_in arms)) selector m.here next))) refl refl
      (arms_marked 0 selector m.here arms path next)))
  of_body (Body-F.While cond body) at path next =
      from_body (Body-F.While cond body.0) at path next
      (marked_both r _ _ _ _ [] _ (action_marked path (sites.before t asserts r path) (expr_calls cond) (expr_checks t cond) (λ here. both_ways cond here (sites.before t asserts r (path ++ 0 ∷ [])) next) (λ here. refl))
      (marked_like r _ _ _ _ _ _ refl refl (sym (append-nil (statement_labels body.0 (path ++ 0 ∷ [])))) (body.1 (path ++ 0 ∷ []) (sites.before t asserts r path))))
  of_body (Body-F.Repeat body until cond) at path next =
      let last : Site = record { routine = r; path = path; kind = kind.Until; number = 0 } in
      from_body (Body-F.Repeat (statements body) until cond) at path next
      (marked_then r _ _ _ _ _ (order_marked 0 body path last)
      (marked_then r _ _ _ _ [] (one_marked r path kind.Until 0 until)
      (action_marked path last (expr_calls cond) (expr_checks t cond) (λ here. both_ways cond here next (sites.before t asserts r (path ++ 0 ∷ []))) (λ here. refl))))
  of_body (Body-F.For control bound first down final body) at path next =
      let inside = sites.before t asserts r (path ++ 0 ∷ []) in
      let step : Site = record { routine = r; path = path; kind = kind.Step; number = 0 } in
      from_body (Body-F.For control bound first down final body.0) at path next
      (marked_both r _ _ _ _ [] _
      (action_marked path (sites.before t asserts r path) (expr_calls first ++ expr_calls final) (bounds_checks t (var_type t control) first final)
      (λ here. sites.both (way here (act.Enter control bound first down final) inside) (way here (act.Bypass control bound first down final) next)) (λ here. refl))
      (marked_then r _ _ _ _ _ (marked_like r _ _ _ _ _ _ refl refl (sym (append-nil (statement_labels body.0 (path ++ 0 ∷ [])))) (body.1 (path ++ 0 ∷ []) step))
      (one_marked r path kind.Step 0 at)))

  of_arm : (y : Arm-F (With OfBody) (With OfArm) (With OfStatement)) → OfArm (roll-Arm (map-Arm (With OfBody) (With OfArm) (With OfStatement) Body Arm Statement (λ e. e.0) (λ e. e.0) (λ e. e.0) y))
  of_arm y path next =
      let d = map-Arm (With OfBody) (With OfArm) (With OfStatement) Body Arm Statement (λ e. e.0) (λ e. e.0) (λ e. e.0) y in
      marked_like r _ _ _ _ _ _
      (ap (λ (p : List ℤ × Placing). (p.1 path next).points) (sym (arm_opened t asserts r label d)))
      (sym (fold-roll-Arm (ℕ → Marks) Marks Marks (body_marks_step r) (λ a. a.body) (statement_marks_step r) d))
      (sym (arm_labels_opened d path)) (y.body.1 path next)

  of_statement : (y : Statement-F (With OfBody) (With OfArm) (With OfStatement)) → OfStatement (roll-Statement (map-Statement (With OfBody) (With OfArm) (With OfStatement) Body Arm Statement (λ e. e.0) (λ e. e.0) (λ e. e.0) y))
  of_statement y path next =
      let d = map-Statement (With OfBody) (With OfArm) (With OfStatement) Body Arm Statement (λ e. e.0) (λ e. e.0) (λ e. e.0) y in
      marked_like r _ _ _ _ _ _
      (ap (λ (p : Piece). p.points) (sym (statement_opened t asserts r label d path next)))
      (sym (fold-roll-Statement (ℕ → Marks) Marks Marks (body_marks_step r) (λ a. a.body) (statement_marks_step r) d))
      (sym (statement_labels_opened d path))
      (statement_marked r path y.at y.asserts y.label _ _ _ (y.body.1 y.at path next))

  pub statement_marks_are : (s : Statement) → OfStatement s
  statement_marks_are =
      ind-Statement OfBody OfArm OfStatement
      (λ x y is. subst (λ z. OfBody (roll-Body z)) is (of_body y))
      (λ x y is. subst (λ z. OfArm (roll-Arm z)) is (of_arm y))
      (λ x y is. subst (λ z. OfStatement (roll-Statement z)) is (of_statement y))

  abbrev with_all : List Statement → List (With OfStatement)
  with_all body = map (λ s. (s, statement_marks_are s)) body

  with_all_same : (body : List Statement) → statements (with_all body) ≡ body
  with_all_same [] = refl
  with_all_same (s ∷ body) = ap (λ xs. s ∷ xs) (with_all_same body)

  pub statements_marks_are : (n : ℕ) (body : List Statement) (path : Path) (next : Site)
      → IsMarked r (in_order t asserts r n (map (placed t asserts r label) body) path next).points (joined (map (statement_marks r) body)) (labels_in n (map statement_labels body) path)
  statements_marks_are n body path next =
      subst (λ xs. IsMarked r (in_order t asserts r n (map (placed t asserts r label) xs) path next).points (joined (map (statement_marks r) xs)) (labels_in n (map statement_labels xs) path))
      (with_all_same body) (order_marked n (with_all body) path next)
