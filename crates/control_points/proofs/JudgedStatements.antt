-- The pieces of statements: their checks are those of their points, one point after another.
use Rattle.std.proofs.Common.{◌≡◌, ℕ, suc, ◌+◌, Bool, true, false, List, [], ◌∷◌, ◌++◌, map, length, refl, sym, ap, subst, ◌∙◌, Some, None, arith}
use Rattle.std.proofs.lemmas.List.{append-nil, length-map, map-append}
use Rattle.std.specs.List.{flat_map}
use Rattle.pas_program.proofs.Weaker.{With}
use Rattle.pas_program.specs.declared.expr.Access.{Access}
use Rattle.pas_program.specs.declared.expr.Actual.TheViews.{out-Access}
use Rattle.pas_program.specs.declared.expr.Expr.{Expr}
use Rattle.pas_program.specs.declared.statement.Arm.{Arm}
use Rattle.pas_program.specs.declared.statement.Body.{Body}
use Rattle.pas_program.specs.declared.statement.Body.TheOpen.{Arm-F, Body-F, Statement-F}
use Rattle.pas_program.specs.declared.statement.Body.TheFolds.{fold-roll-Arm, fold-roll-Body, fold-roll-Statement, fold_out-Arm, ind-Statement, map-Arm, map-Body, map-Statement, para-roll-Arm, para-roll-Body, para-roll-Statement}
use Rattle.pas_program.specs.declared.statement.Body.TheViews.{out-Arm, roll-Arm, roll-Body, roll-Statement}
use Rattle.pas_program.specs.declared.statement.Statement.{Statement}
use Rattle.pas_program.specs.declared.statement.WriteItem.{WriteItem}
use Rattle.control_points.specs.declared.edge.Act.{Act}
use Rattle.control_points.specs.declared.edge.Act.TheVariants as act
use Rattle.control_points.specs.declared.numbering.Mark.{Mark}
use Rattle.control_points.specs.declared.point.PointKind.TheVariants as kind
use Rattle.control_points.specs.Called.{calls_of}
use Rattle.control_points.specs.Calls.{Sites, access_calls, expr_calls, item_calls}
use Rattle.control_points.specs.Edges.{Placing, arm_piece, arms_from, body_piece, body_step, in_order, inner_piece, laid_arm, laid_body, laid_statement, own_piece, points_of, statement_piece, statement_step}
use Rattle.control_points.specs.Extents.{Extent, arm_extent, body_extent_step, read_points, statement_extent, statement_extent_step, statements_extent, total, write_points}
use Rattle.control_points.specs.Judgements.{selector_judgements}
use Rattle.control_points.specs.Marks.{Marks, arm_marks, body_marks, body_marks_step, call_marks, inner_marks, joined, mark, place_of_written, read_marks, statement_marks, statement_marks_step, statements_marks, write_marks}
use Rattle.control_points.specs.Pieces.{Piece, Plan, both, judged, line_act, nothing, procedure_call, way}
use Rattle.control_points.specs.Pieces as pieces
use Rattle.control_points.specs.Wired.{asserts_of}
use Rattle.control_points.proofs.Inside.{statement_inside, statements_inside}
use Rattle.control_points.proofs.JudgedParts.{act_faults, selector_faults}
use Rattle.control_points.proofs.JudgedPieces.{Judges, JudgesArms, arms_more, arms_nothing, blank_first, blanks, blanks_both, chart_in, judges_act, judges_as, judges_asserted, judges_both, judges_call, judges_calls, judges_nothing, judges_two, judges_way, judges_ways, length-blanks, own_of, under_selector}
use Rattle.control_points.proofs.Laying.{points_of_laid}
use Rattle.control_points.proofs.OwnCalls.{calls_mapped}

-- ---- assertions of marks

asserts_both : (xs ys : Marks) → asserts_of (xs ++ ys) ≡ asserts_of xs ++ asserts_of ys
asserts_both xs ys = map-append (λ (m : Mark). m.asserts) xs ys

asserts_long : (ms : Marks) → length (asserts_of ms) ≡ length ms
asserts_long ms = length-map ms (λ (m : Mark). m.asserts)

module _ (r : ℕ) where
  calls_blank : (sites : Sites) → asserts_of (call_marks r sites) ≡ blanks (length sites)
  calls_blank [] = refl
  calls_blank (c ∷ sites) = ap (λ ls. [] ∷ ls) (calls_blank sites)

  -- calls, and a point behind them
  behind_blank : (sites : Sites) (m : Mark) → m.asserts ≡ [] → asserts_of (call_marks r sites ++ m ∷ []) ≡ blanks (suc (length sites))
  behind_blank sites m h =
      let n : length sites + 1 ≡ suc (length sites) = omega arith in
      asserts_both (call_marks r sites) (m ∷ []) ∙ ap (λ ls. ls ++ m.asserts ∷ []) (calls_blank sites) ∙ ap (λ l. blanks (length sites) ++ l ∷ []) h ∙ blanks_both (length sites) 1 ∙ ap blanks n

  reads_blank : (targets : List Access) → asserts_of (flat_map (read_marks r) targets) ≡ blanks (total (map read_points targets))
  reads_blank [] = refl
  reads_blank (a ∷ targets) =
      asserts_both (read_marks r a) (flat_map (read_marks r) targets)
      ∙ ap (λ ls. ls ++ asserts_of (flat_map (read_marks r) targets)) (behind_blank (access_calls a) (mark r kind.AfterRead (out-Access a).at) refl)
      ∙ ap (λ ls. blanks (read_points a) ++ ls) (reads_blank targets)
      ∙ blanks_both (read_points a) (total (map read_points targets))

  writes_blank : (items : List WriteItem) → asserts_of (flat_map (write_marks r) items) ≡ blanks (total (map write_points items))
  writes_blank [] = refl
  writes_blank (item ∷ items) =
      asserts_both (write_marks r item) (flat_map (write_marks r) items)
      ∙ ap (λ ls. ls ++ asserts_of (flat_map (write_marks r) items)) (behind_blank (item_calls item) (mark r kind.AfterWrite (place_of_written item.value)) refl)
      ∙ ap (λ ls. blanks (write_points item) ++ ls) (writes_blank items)
      ∙ blanks_both (write_points item) (total (map write_points items))

  -- ---- as many points as the extent says

  statement_long : (s : Statement) → length (asserts_of (statement_marks r s)) ≡ (statement_extent s).points
  statement_long s = asserts_long (statement_marks r s) ∙ (statement_inside s r).count

  statements_long : (body : List Statement) → length (asserts_of (statements_marks r body)) ≡ (statements_extent body).points
  statements_long body = asserts_long (statements_marks r body) ∙ (statements_inside r body).count

  arm_long : (a : Arm) → length (asserts_of (arm_marks r a)) ≡ (arm_extent a).points
  arm_long a =
      ap (λ ms. length (asserts_of ms)) (fold_out-Arm (ℕ → Marks) Marks Marks (body_marks_step r) (λ x. x.body) (statement_marks_step r) a)
      ∙ statement_long (out-Arm a).body
      ∙ sym (ap (λ (x : Extent). x.points) (fold_out-Arm Extent Extent Extent body_extent_step (λ x. x.body) statement_extent_step a))

module _ (plan : Plan) (r : ℕ) where
  -- ---- the parameters of `read` and `write`

  judges_read : (a : Access) (source : ℕ) → Judges plan (pieces.read plan a source) source (blanks (read_points a))
  judges_read a source =
      let here = source + length (access_calls a) in
      let start : here ≡ source + length (blanks (length (access_calls a))) = omega (arith, length-blanks (length (access_calls a))) in
      let many : length (access_calls a) + 1 ≡ read_points a = omega arith in
      judges_as plan _ source _ _ (blanks_both (length (access_calls a)) 1 ∙ ap blanks many)
      (judges_both plan (pieces.calls plan (access_calls a) source) _ source here (blanks (length (access_calls a))) (blanks 1) start
      (judges_calls plan (access_calls a) source)
      (judges_act plan here (act.Read a) _ (act_faults (chart_in plan) 0 (act.Read a)) (here + 1)))

  judges_reads : (targets : List Access) (end : Act) (source next : ℕ) → own_of plan end ≡ [] → Judges plan (pieces.reads plan targets end source next) source (blanks (suc (total (map read_points targets))))
  judges_reads [] end source next none = judges_way plan source next end none
  judges_reads (a ∷ targets) end source next none =
      let behind = source + read_points a in
      let rest = suc (total (map read_points targets)) in
      let start : behind ≡ source + length (blanks (read_points a)) = omega (arith, length-blanks (read_points a)) in
      let many : read_points a + rest ≡ suc (total (map read_points (a ∷ targets))) = omega arith in
      judges_as plan _ source _ _ (blanks_both (read_points a) rest ∙ ap blanks many)
      (judges_both plan (pieces.read plan a source) (pieces.reads plan targets end behind next) source behind (blanks (read_points a)) (blanks rest) start (judges_read a source) (judges_reads targets end behind next none))

  judges_write : (item : WriteItem) (source : ℕ) → Judges plan (pieces.write plan item source) source (blanks (write_points item))
  judges_write item source =
      let here = source + length (item_calls item) in
      let start : here ≡ source + length (blanks (length (item_calls item))) = omega (arith, length-blanks (length (item_calls item))) in
      let many : length (item_calls item) + 1 ≡ write_points item = omega arith in
      judges_as plan _ source _ _ (blanks_both (length (item_calls item)) 1 ∙ ap blanks many)
      (judges_both plan (pieces.calls plan (item_calls item) source) _ source here (blanks (length (item_calls item))) (blanks 1) start
      (judges_calls plan (item_calls item) source)
      (judges_act plan here (act.Write item) _ (act_faults (chart_in plan) 0 (act.Write item)) (here + 1)))

  judges_writes : (items : List WriteItem) (end : Act) (source next : ℕ) → own_of plan end ≡ [] → Judges plan (pieces.writes plan items end source next) source (blanks (suc (total (map write_points items))))
  judges_writes [] end source next none = judges_way plan source next end none
  judges_writes (item ∷ items) end source next none =
      let behind = source + write_points item in
      let rest = suc (total (map write_points items)) in
      let start : behind ≡ source + length (blanks (write_points item)) = omega (arith, length-blanks (write_points item)) in
      let many : write_points item + rest ≡ suc (total (map write_points (item ∷ items))) = omega arith in
      judges_as plan _ source _ _ (blanks_both (write_points item) rest ∙ ap blanks many)
      (judges_both plan (pieces.write plan item source) (pieces.writes plan items end behind next) source behind (blanks (write_points item)) (blanks rest) start (judges_write item source) (judges_writes items end behind next none))

  line_judges : (line : Bool) (a : Act) → own_of plan a ≡ [] → own_of plan (line_act line a) ≡ []
  line_judges true a h = h
  line_judges false a h = refl

  judges_condition : (cond : Expr) (here held failed : ℕ) → Judges plan (pieces.condition plan cond here held failed) here (blanks 1)
  judges_condition cond here held failed = judges_two plan here (act.Test cond true) _ (act_faults (chart_in plan) 0 (act.Test cond true)) (act.Test cond false) refl held failed

  -- ---- statements

  abbrev OfBody : Body → Type 0
  OfBody b = (at here next : ℕ) → Judges plan (body_piece plan b here next) here ([] ∷ asserts_of (body_marks r b at))

  abbrev OfArm : Arm → Type 0
  OfArm a = (here next : ℕ) → Judges plan (arm_piece plan a here next) here (asserts_of (arm_marks r a))

  abbrev OfStatement : Statement → Type 0
  OfStatement s = (here next : ℕ) → Judges plan (statement_piece plan s here next) here (asserts_of (statement_marks r s))

  abbrev statements : List (With OfStatement) → List Statement
  statements ys = map (λ (y : With OfStatement). y.0) ys

  abbrev arms_in : List (With OfArm) → List Arm
  arms_in ys = map (λ (y : With OfArm). y.0) ys

  judges_in_order : (ys : List (With OfStatement)) (here next : ℕ) → Judges plan (in_order plan (map (laid_statement plan) (statements ys)) here next) here (asserts_of (statements_marks r (statements ys)))
  judges_in_order [] here next = judges_nothing plan here
  judges_in_order (y ∷ ys) here next =
      let behind = here + (statement_extent (y.0)).points in
      judges_as plan _ here _ _ (sym (asserts_both (statement_marks r (y.0)) (statements_marks r (statements ys))))
      (judges_both plan _ (in_order plan (map (laid_statement plan) (statements ys)) behind next) here behind (asserts_of (statement_marks r (y.0))) (asserts_of (statements_marks r (statements ys))) (omega (arith, statement_long r (y.0)))
      (y.1 here _) (judges_in_order ys behind next))

  abbrev marks_of_arms : List (With OfArm) → Marks
  marks_of_arms ys = joined (map (arm_marks r) (arms_in ys))

  judges_arms : (selector : Expr) (source : ℕ) (ys : List (With OfArm)) (here next : ℕ)
      → JudgesArms plan (arms_from plan selector source (map (laid_arm plan) (arms_in ys)) here next) source here (selector_judgements plan.tables selector) (asserts_of (marks_of_arms ys))
  judges_arms selector source [] here next = arms_nothing plan source here (selector_judgements plan.tables selector)
  judges_arms selector source (y ∷ ys) here next =
      let behind = here + (arm_extent (y.0)).points in
      let a = act.Arm selector (out-Arm (y.0)).consts in
      subst (JudgesArms plan _ source here (selector_judgements plan.tables selector)) (sym (asserts_both (arm_marks r (y.0)) (marks_of_arms ys)))
      (arms_more plan source here behind here a (arm_piece plan (y.0) here next) (arms_from plan selector source (map (laid_arm plan) (arms_in ys)) behind next) (asserts_of (arm_marks r (y.0))) (asserts_of (marks_of_arms ys)) (omega (arith, arm_long r (y.0)))
      (y.1 here next) (judges_arms selector source ys behind next))

  abbrev marks_in : Body-F Body Arm Statement → Body-F (ℕ → Marks) Marks Marks
  marks_in = map-Body Body Arm Statement (ℕ → Marks) Marks Marks (body_marks r) (arm_marks r) (statement_marks r)

  -- the action of a statement, and what stands inside
  abbrev within : Body-F Body Arm Statement → ℕ → Placing
  within d source here next = both (own_piece plan (laid_body plan d) source next) (inner_piece plan (laid_body plan d) source here next)

  from_body : (d : Body-F Body Arm Statement) (at here next : ℕ)
      → ((source : ℕ) → source ≡ here + length (calls_of (laid_body plan d)) → Judges plan (within d source here next) source ([] ∷ asserts_of (inner_marks r (marks_in d) at)))
      → Judges plan (body_piece plan (roll-Body d) here next) here ([] ∷ asserts_of (body_marks r (roll-Body d) at))
  from_body d at here next inside =
      let sites = calls_of (laid_body plan d) in
      let source = here + length sites in
      let rest = asserts_of (inner_marks r (marks_in d) at) in
      let start : source ≡ here + length (blanks (length sites)) = omega (arith, length-blanks (length sites)) in
      let same : sites ≡ calls_of (marks_in d) = calls_mapped (λ b. (b, body_piece plan b)) (laid_arm plan) (laid_statement plan) d ∙ sym (calls_mapped (body_marks r) (arm_marks r) (statement_marks r) d) in
      let lists : blanks (length sites) ++ [] ∷ rest ≡ [] ∷ asserts_of (body_marks r (roll-Body d) at) =
      blank_first (length sites) rest
      ∙ ap (λ l. [] ∷ (l ++ rest)) (sym (calls_blank r sites) ∙ ap (λ l. asserts_of (call_marks r l)) same)
      ∙ ap (λ l. [] ∷ l) (sym (asserts_both (call_marks r (calls_of (marks_in d))) (inner_marks r (marks_in d) at)))
      ∙ ap (λ f. [] ∷ asserts_of (f at)) (sym (fold-roll-Body (ℕ → Marks) Marks Marks (body_marks_step r) (λ a. a.body) (statement_marks_step r) d)) in
      subst (λ p. Judges plan p here ([] ∷ asserts_of (body_marks r (roll-Body d) at))) (sym (ap (λ (f : Placing). f here next) (para-roll-Body Placing Placing Placing (body_step plan) (λ a. a.body.1) (statement_step plan) d)))
      (judges_as plan _ here _ _ lists
      (judges_both plan (pieces.calls plan sites here) (within d source here next) here source (blanks (length sites)) ([] ∷ rest) start (judges_calls plan sites here) (inside source refl)))

  -- an action alone
  alone : (p : Piece) (source : ℕ) → Judges plan p source (blanks 1) → Judges plan (both p nothing) source ([] ∷ [])
  alone p source j = judges_both plan p nothing source (source + 1) (blanks 1) [] (omega arith) j (judges_nothing plan (source + 1))

  of_body : (y : Body-F (With OfBody) (With OfArm) (With OfStatement)) → OfBody (roll-Body (map-Body (With OfBody) (With OfArm) (With OfStatement) Body Arm Statement (λ e. e.0) (λ e. e.0) (λ e. e.0) y))
  of_body Body-F.Empty at here next = from_body Body-F.Empty at here next (λ source e. alone _ source (judges_way plan source next act.Skip refl))
  of_body (Body-F.Assign target value) at here next =
      from_body (Body-F.Assign target value) at here next
      (λ source e. alone _ source (judges_act plan source (act.Assign target value) _ (act_faults (chart_in plan) 0 (act.Assign target value)) next))
  of_body (Body-F.Copy target array) at here next =
      from_body (Body-F.Copy target array) at here next
      (λ source e. alone _ source (judges_act plan source (act.Copy target array) _ (act_faults (chart_in plan) 0 (act.Copy target array)) next))
  of_body (Body-F.Call routine actuals name) at here next =
      from_body (Body-F.Call routine actuals name) at here next (λ source e. alone _ source (judges_call plan (procedure_call routine actuals name) source next))
  of_body (Body-F.Read targets line) at here next =
      from_body (Body-F.Read targets line) at here next
      (λ source e.
      judges_as plan _ source _ _ (append-nil (blanks (suc (total (map read_points targets)))) ∙ ap (λ l. [] ∷ l) (sym (reads_blank r targets)))
      (judges_both plan _ nothing source (source + suc (total (map read_points targets))) (blanks (suc (total (map read_points targets)))) [] (omega (arith, length-blanks (suc (total (map read_points targets)))))
      (judges_reads targets (line_act line act.DropLine) source next (line_judges line act.DropLine refl)) (judges_nothing plan _)))
  of_body (Body-F.Write items line) at here next =
      from_body (Body-F.Write items line) at here next
      (λ source e.
      judges_as plan _ source _ _ (append-nil (blanks (suc (total (map write_points items)))) ∙ ap (λ l. [] ∷ l) (sym (writes_blank r items)))
      (judges_both plan _ nothing source (source + suc (total (map write_points items))) (blanks (suc (total (map write_points items)))) [] (omega (arith, length-blanks (suc (total (map write_points items)))))
      (judges_writes items (line_act line act.EndLine) source next (line_judges line act.EndLine refl)) (judges_nothing plan _)))
  of_body (Body-F.Goto routine number) at here next = from_body (Body-F.Goto routine number) at here next (λ source e. alone _ source (judges_way plan source (plan.label routine number) (act.Goto routine) refl))
  of_body (Body-F.Begin body end) at here next =
      from_body (Body-F.Begin (statements body) end) at here next
      (λ source e. judges_both plan _ _ source (source + 1) (blanks 1) (asserts_of (statements_marks r (statements body))) (omega arith) (judges_way plan source (source + 1) act.Skip refl) (judges_in_order body (source + 1) next))
  of_body (Body-F.If cond first None) at here next =
      from_body (Body-F.If cond (first.0) None) at here next
      (λ source e.
      let m = source + 1 + (statement_extent (first.0)).points in
      judges_both plan _ _ source (source + 1) (blanks 1) (asserts_of (statement_marks r (first.0) ++ [])) (omega arith)
      (judges_condition cond source (source + 1) next)
      (judges_as plan _ (source + 1) _ _ (sym (asserts_both (statement_marks r (first.0)) []))
      (judges_both plan _ nothing (source + 1) m (asserts_of (statement_marks r (first.0))) [] (omega (arith, statement_long r (first.0))) (first.1 (source + 1) next) (judges_nothing plan m))))
  of_body (Body-F.If cond first (Some second)) at here next =
      from_body (Body-F.If cond (first.0) (Some (second.0))) at here next
      (λ source e.
      let m = source + 1 + (statement_extent (first.0)).points in
      judges_both plan _ _ source (source + 1) (blanks 1) (asserts_of (statement_marks r (first.0) ++ statement_marks r (second.0))) (omega arith)
      (judges_condition cond source (source + 1) m)
      (judges_as plan _ (source + 1) _ _ (sym (asserts_both (statement_marks r (first.0)) (statement_marks r (second.0))))
      (judges_both plan _ _ (source + 1) m (asserts_of (statement_marks r (first.0))) (asserts_of (statement_marks r (second.0))) (omega (arith, statement_long r (first.0))) (first.1 (source + 1) next) (second.1 m next))))
  of_body (Body-F.Case selector []) at here next =
      from_body (Body-F.Case selector []) at here next
      (λ source e. alone _ source (judges_act plan source (act.Arm selector []) _ (act_faults (chart_in plan) 0 (act.Arm selector [])) next))
  of_body (Body-F.Case selector (arm ∷ arms)) at here next =
      from_body (Body-F.Case selector (arms_in (arm ∷ arms))) at here next
      (λ source e. under_selector plan _ source _ (selector_judgements plan.tables selector) (asserts_of (marks_of_arms (arm ∷ arms))) (selector_faults plan.tables selector) (judges_arms selector source (arm ∷ arms) (source + 1) next))
  of_body (Body-F.While cond body) at here next =
      from_body (Body-F.While cond (body.0)) at here next
      (λ source e. judges_both plan _ _ source (source + 1) (blanks 1) (asserts_of (statement_marks r (body.0))) (omega arith) (judges_condition cond source (source + 1) next) (body.1 (source + 1) here))
  of_body (Body-F.Repeat body until cond) at here next =
      from_body (Body-F.Repeat (statements body) until cond) at here next
      (λ source e.
      let inner = statements_marks r (statements body) in
      let step = here + 1 + points_of (map (laid_statement plan) (statements body)) in
      let many = points_of_laid plan (statements body) in
      let last = step + length (expr_calls cond) in
      let lists : asserts_of inner ++ (blanks (length (expr_calls cond)) ++ blanks 1) ≡ asserts_of (inner ++ mark r kind.Until until ∷ call_marks r (expr_calls cond)) =
      ap (λ l. asserts_of inner ++ l) (blank_first (length (expr_calls cond)) [] ∙ ap (λ l. [] ∷ l) (append-nil (blanks (length (expr_calls cond))) ∙ sym (calls_blank r (expr_calls cond))))
      ∙ sym (asserts_both inner (mark r kind.Until until ∷ call_marks r (expr_calls cond))) in
      judges_both plan _ _ source (here + 1) (blanks 1) (asserts_of (inner ++ mark r kind.Until until ∷ call_marks r (expr_calls cond))) (omega (arith, e))
      (judges_way plan source (source + 1) act.Skip refl)
      (judges_as plan _ (here + 1) _ _ lists
      (judges_both plan _ _ (here + 1) step (asserts_of inner) (blanks (length (expr_calls cond)) ++ blanks 1) (omega (arith, many, statements_long r (statements body)))
      (judges_in_order body (here + 1) step)
      (judges_both plan _ _ step last (blanks (length (expr_calls cond))) (blanks 1) (omega (arith, length-blanks (length (expr_calls cond)))) (judges_calls plan (expr_calls cond) step) (judges_condition cond last next (here + 1))))))
  of_body (Body-F.For control bound first down final body) at here next =
      from_body (Body-F.For control bound first down final (body.0)) at here next
      (λ source e.
      let step = source + 1 + (statement_extent (body.0)).points in
      let a = act.Enter control bound first down final in
      judges_both plan _ _ source (source + 1) (blanks 1) (asserts_of (statement_marks r (body.0) ++ mark r kind.Step at ∷ [])) (omega arith)
      (judges_two plan source a _ (act_faults (chart_in plan) 0 a) (act.Bypass control bound first down final) refl (source + 1) next)
      (judges_as plan _ (source + 1) _ _ (sym (asserts_both (statement_marks r (body.0)) (mark r kind.Step at ∷ [])))
      (judges_both plan _ _ (source + 1) step (asserts_of (statement_marks r (body.0))) (blanks 1) (omega (arith, statement_long r (body.0)))
      (body.1 (source + 1) step)
      (judges_ways plan step (source + 1) next (act.Next control bound down) (act.Finish control bound down) refl refl))))

  of_arm : (y : Arm-F (With OfBody) (With OfArm) (With OfStatement)) → OfArm (roll-Arm (map-Arm (With OfBody) (With OfArm) (With OfStatement) Body Arm Statement (λ e. e.0) (λ e. e.0) (λ e. e.0) y))
  of_arm y here next =
      let d = map-Arm (With OfBody) (With OfArm) (With OfStatement) Body Arm Statement (λ e. e.0) (λ e. e.0) (λ e. e.0) y in
      subst (λ p. Judges plan p here (asserts_of (arm_marks r (roll-Arm d)))) (sym (ap (λ (f : Placing). f here next) (para-roll-Arm Placing Placing Placing (body_step plan) (λ a. a.body.1) (statement_step plan) d)))
      (subst (λ ms. Judges plan (statement_piece plan ((y.body).0) here next) here (asserts_of ms)) (sym (fold-roll-Arm (ℕ → Marks) Marks Marks (body_marks_step r) (λ a. a.body) (statement_marks_step r) d)) (y.body.1 here next))

  of_statement : (y : Statement-F (With OfBody) (With OfArm) (With OfStatement)) → OfStatement (roll-Statement (map-Statement (With OfBody) (With OfArm) (With OfStatement) Body Arm Statement (λ e. e.0) (λ e. e.0) (λ e. e.0) y))
  of_statement y here next =
      let d = map-Statement (With OfBody) (With OfArm) (With OfStatement) Body Arm Statement (λ e. e.0) (λ e. e.0) (λ e. e.0) y in
      subst (λ p. Judges plan p here (asserts_of (statement_marks r (roll-Statement d)))) (sym (ap (λ (f : Placing). f here next) (para-roll-Statement Placing Placing Placing (body_step plan) (λ a. a.body.1) (statement_step plan) d)))
      (judges_as plan _ here _ _ (ap asserts_of (sym (fold-roll-Statement (ℕ → Marks) Marks Marks (body_marks_step r) (λ a. a.body) (statement_marks_step r) d)))
      (judges_asserted plan (body_piece plan ((y.body).0) here next) here y.asserts (asserts_of (body_marks r ((y.body).0) y.at)) (y.body.1 y.at here next)))

  pub judges_statement : (s : Statement) (here next : ℕ) → Judges plan (statement_piece plan s here next) here (asserts_of (statement_marks r s))
  judges_statement =
      ind-Statement OfBody OfArm OfStatement
      (λ x y is. subst (λ z. OfBody (roll-Body z)) is (of_body y))
      (λ x y is. subst (λ z. OfArm (roll-Arm z)) is (of_arm y))
      (λ x y is. subst (λ z. OfStatement (roll-Statement z)) is (of_statement y))

  pub judges_statements : (body : List Statement) (here next : ℕ) → Judges plan (in_order plan (map (laid_statement plan) body) here next) here (asserts_of (statements_marks r body))
  judges_statements [] here next = judges_nothing plan here
  judges_statements (s ∷ body) here next =
      let behind = here + (statement_extent s).points in
      judges_as plan _ here _ _ (sym (asserts_both (statement_marks r s) (statements_marks r body)))
      (judges_both plan _ (in_order plan (map (laid_statement plan) body) behind next) here behind (asserts_of (statement_marks r s)) (asserts_of (statements_marks r body)) (omega (arith, statement_long r s))
      (judges_statement s here _) (judges_statements body behind next))
