-- The constants of the arms that leave one point differ, since those of each `case` do.
use Rattle.std.proofs.Common.{◌≡◌, ℕ, ℤ, suc, ◌+◌, ◌<◌, Bool, true, false, List, [], ◌∷◌, ◌++◌, map, length, length-append, refl, sym, ap, subst, ◌∙◌, Option, Some, None, arith}
use Rattle.std.proofs.lemmas.Bool.{and_parts}
use Rattle.std.specs.List.{list_all, slice_get, slice_index}
use Rattle.pas_program.proofs.Weaker.{With, to_arm, to_body, to_statement}
use Rattle.pas_program.specs.declared.expr.Access.{Access}
use Rattle.pas_program.specs.declared.expr.Expr.{Expr}
use Rattle.pas_program.specs.declared.routine.Routine.{Routine}
use Rattle.pas_program.specs.declared.statement.Arm.{Arm}
use Rattle.pas_program.specs.declared.statement.Body.{Body}
use Rattle.pas_program.specs.declared.statement.Body.TheOpen.{Arm-F, Body-F, Statement-F}
use Rattle.pas_program.specs.declared.statement.Body.TheFolds.{fold-roll-Arm, fold-roll-Body, fold-roll-Statement, fold_out-Arm, ind-Statement, map-Arm, map-Body, map-Statement, para-roll-Arm, para-roll-Body, para-roll-Statement}
use Rattle.pas_program.specs.declared.statement.Body.TheViews.{out-Arm, out-Body, out-Statement, roll-Arm, roll-Body, roll-Statement, roll-out-Body, roll-out-Statement}
use Rattle.pas_program.specs.declared.statement.Statement.{Statement}
use Rattle.pas_program.specs.declared.statement.WriteItem.{WriteItem}
use Rattle.pas_program.specs.Each.{all_true, arm_of, arm_step, constants, each_arm, each_body, each_expr, each_statement}
use Rattle.pas_program.specs.Each as each
use Rattle.pas_program.specs.Labels.{all_differ, choice_rule}
use Rattle.control_points.specs.declared.edge.Act.{Act}
use Rattle.control_points.specs.declared.edge.Act.TheVariants as act
use Rattle.control_points.specs.declared.flow.Flow.{Flow}
use Rattle.control_points.specs.Called.{calls_of}
use Rattle.control_points.specs.Calls.{CallSite, Sites, access_calls, expr_calls, item_calls}
use Rattle.control_points.specs.Edges.{Placing, arm_piece, arms_from, body_piece, body_step, in_order, inner_piece, laid_arm, laid_body, laid_statement, own_piece, part_piece, plan_of, points_of, routine_piece, routines_piece, statement_piece, statement_step}
use Rattle.control_points.specs.Extents.{Extent, all_of, arm_extent, body_extent, body_extent_step, inner_extent, part_points, routine_points, statement_extent, statement_extent_step, statements_extent}
use Rattle.control_points.specs.Judgements.{constants_at, constants_of}
use Rattle.control_points.specs.Listing as listing
use Rattle.control_points.specs.Marks.{routine_marks, routines_marks, starts}
use Rattle.control_points.specs.Pieces.{Plan, both, line_act, procedure_call}
use Rattle.control_points.specs.Pieces as pieces
use Rattle.control_points.specs.Scenes.{call_act}
use Rattle.control_points.proofs.ArmsApart.{ArmsDiffer, Differ, HasNoConstants, arms_more, arms_nothing, constants_by_edges, constants_in, differ_after, differ_arms, differ_both, differ_plain, differ_within, plain_both, plain_edge, plain_judged, plain_nothing, plain_way}
use Rattle.control_points.proofs.Blocks.{AllOutermost, marks_count}
use Rattle.control_points.proofs.Laying.{points_of_laid}
use Rattle.control_points.proofs.OwnCalls.{calls_mapped}

line_plain : (line : Bool) (a : Act) → constants_of (Some a) ≡ [] → constants_of (Some (line_act line a)) ≡ []
line_plain true a h = h
line_plain false a h = refl

abbrev extents_in : Body-F Body Arm Statement → Body-F Extent Extent Extent
extents_in = map-Body Body Arm Statement Extent Extent Extent body_extent arm_extent statement_extent

-- the constants of an arm, as the rule sees them
constants_of_arm : (a : Arm) → (arm_of choice_rule a).1 ≡ (out-Arm a).consts
constants_of_arm a = ap (λ x. x.1) (fold_out-Arm Bool (Bool × List ℤ) Bool (each.body_step choice_rule) arm_step (each.statement_step choice_rule) a)

module _ (plan : Plan) where
  -- ---- actions, of which only the arms have constants

  plain_call : (c : CallSite) (source back : ℕ) → HasNoConstants (pieces.call plan c source back)
  plain_call c source back =
      plain_both _ (pieces.call_ways plan c source back) (plain_judged source _)
      (record {
        none = λ n q.
            plain_edge q (listing.edge source (call_act c) (pieces.entry_of plan c.routine)) (listing.edge (pieces.exit_of plan c.routine) (act.Return n) back ∷ []) refl
            (plain_edge q (listing.edge (pieces.exit_of plan c.routine) (act.Return n) back) [] refl refl);
      })

  plain_calls : (sites : Sites) (source : ℕ) → HasNoConstants (pieces.calls plan sites source)
  plain_calls [] source = plain_nothing
  plain_calls (c ∷ sites) source = plain_both _ _ (plain_call c source (source + 1)) (plain_calls sites (source + 1))

  plain_two : (source t u : ℕ) (a b : Act) → constants_of (Some a) ≡ [] → constants_of (Some b) ≡ [] → HasNoConstants (both (pieces.way source a t) (pieces.way source b u))
  plain_two source t u a b first second = plain_both _ _ (plain_way source t a first) (plain_way source u b second)

  plain_condition : (cond : Expr) (here held failed : ℕ) → HasNoConstants (pieces.condition plan cond here held failed)
  plain_condition cond here held failed = plain_both _ _ (plain_judged here _) (plain_two here held failed (act.Test cond true) (act.Test cond false) refl refl)

  plain_reads : (targets : List Access) (end : Act) (source next : ℕ) → constants_of (Some end) ≡ [] → HasNoConstants (pieces.reads plan targets end source next)
  plain_reads [] end source next h = plain_way source next end h
  plain_reads (a ∷ targets) end source next h =
      plain_both (pieces.read plan a source) _ (plain_both _ _ (plain_calls (access_calls a) source) (plain_both _ _ (plain_judged _ _) (plain_way _ _ (act.Read a) refl))) (plain_reads targets end _ next h)

  plain_writes : (items : List WriteItem) (end : Act) (source next : ℕ) → constants_of (Some end) ≡ [] → HasNoConstants (pieces.writes plan items end source next)
  plain_writes [] end source next h = plain_way source next end h
  plain_writes (item ∷ items) end source next h =
      plain_both (pieces.write plan item source) _ (plain_both _ _ (plain_calls (item_calls item) source) (plain_both _ _ (plain_judged _ _) (plain_way _ _ (act.Write item) refl))) (plain_writes items end _ next h)

  -- the action of a statement
  own_plain : (d : Body-F Body Arm Statement) (source next : ℕ) → HasNoConstants (own_piece plan (laid_body plan d) source next)
  own_plain Body-F.Empty source next = plain_way source next act.Skip refl
  own_plain (Body-F.Assign target value) source next = plain_both _ _ (plain_judged source _) (plain_way source next (act.Assign target value) refl)
  own_plain (Body-F.Copy target array) source next = plain_both _ _ (plain_judged source _) (plain_way source next (act.Copy target array) refl)
  own_plain (Body-F.Call routine actuals at) source next = plain_call (procedure_call routine actuals at) source next
  own_plain (Body-F.Read targets line) source next = plain_reads targets (line_act line act.DropLine) source next (line_plain line act.DropLine refl)
  own_plain (Body-F.Write items line) source next = plain_writes items (line_act line act.EndLine) source next (line_plain line act.EndLine refl)
  own_plain (Body-F.Goto routine number) source next = plain_way source (plan.label routine number) (act.Goto routine) refl
  own_plain (Body-F.Begin body end) source next = plain_way source (source + 1) act.Skip refl
  own_plain (Body-F.If cond first None) source next = plain_condition cond source (source + 1) next
  own_plain (Body-F.If cond first (Some second)) source next = plain_condition cond source (source + 1) (source + 1 + (statement_extent first).points)
  own_plain (Body-F.Case selector []) source next = plain_both _ _ (plain_judged source _) (plain_way source next (act.Arm selector []) refl)
  own_plain (Body-F.Case selector (arm ∷ arms)) source next = plain_both _ _ (plain_judged source _) plain_nothing
  own_plain (Body-F.While cond body) source next = plain_condition cond source (source + 1) next
  own_plain (Body-F.Repeat body until cond) source next = plain_way source (source + 1) act.Skip refl
  own_plain (Body-F.For control bound first down final body) source next =
      plain_both _ _ (plain_judged source _) (plain_two source (source + 1) next (act.Enter control bound first down final) (act.Bypass control bound first down final) refl refl)

  -- ---- statements

  abbrev OfBody : Body → Type 0
  OfBody b = each_body choice_rule b ≡ true → (here next : ℕ) → Differ (body_piece plan b here next) here (here + 1 + (body_extent b).points)

  abbrev OfArm : Arm → Type 0
  OfArm a = each_arm choice_rule a ≡ true → (here next : ℕ) → Differ (arm_piece plan a here next) here (here + (arm_extent a).points)

  abbrev OfStatement : Statement → Type 0
  OfStatement s = each_statement choice_rule s ≡ true → (here next : ℕ) → Differ (statement_piece plan s here next) here (here + (statement_extent s).points)

  abbrev statements : List (With OfStatement) → List Statement
  statements ys = map (λ (y : With OfStatement). y.0) ys

  abbrev arms_in : List (With OfArm) → List Arm
  arms_in ys = map (λ (y : With OfArm). y.0) ys

  differ_in_order : (ys : List (With OfStatement)) → all_true (map (each_statement choice_rule) (statements ys)) ≡ true → (here next : ℕ)
      → Differ (in_order plan (map (laid_statement plan) (statements ys)) here next) here (here + (statements_extent (statements ys)).points)
  differ_in_order [] h here next = differ_plain _ here (here + 0) (omega arith) plain_nothing
  differ_in_order (y ∷ ys) h here next =
      let p = and_parts (each_statement choice_rule y.0) _ h in
      let behind = here + (statement_extent y.0).points in
      differ_within _ here (behind + (statements_extent (statements ys)).points) here (here + (statements_extent (statements (y ∷ ys))).points)
      (differ_both _ _ here behind (behind + (statements_extent (statements ys)).points) (y.1 p.0 here _) (differ_in_order ys p.1 behind next)) (omega arith) (omega arith)

  abbrev constants_in_arms : List (With OfArm) → List ℤ
  constants_in_arms ys = constants (map (arm_of choice_rule) (arms_in ys))

  -- the arms of a `case`, which leave the point of its selector
  arms_differ : (selector : Expr) (source : ℕ) (ys : List (With OfArm)) → all_true (map (λ (a : Bool × List ℤ). a.0) (map (arm_of choice_rule) (arms_in ys))) ≡ true → (here next : ℕ) → source < here
      → ArmsDiffer (arms_from plan selector source (map (laid_arm plan) (arms_in ys)) here next) source here (here + (all_of (map arm_extent (arms_in ys))).points) (constants_in_arms ys)
  arms_differ selector source [] h here next low = arms_nothing source here (here + 0) (omega arith)
  arms_differ selector source (y ∷ ys) h here next low =
      let p = and_parts (each_arm choice_rule y.0) _ h in
      let behind = here + (arm_extent y.0).points in
      let last = behind + (all_of (map arm_extent (arms_in ys))).points in
      let same : last ≡ here + (all_of (map arm_extent (arms_in (y ∷ ys)))).points = omega arith in
      let rest = constants_in_arms ys in
      subst (ArmsDiffer (arms_from plan selector source (map (laid_arm plan) (arms_in (y ∷ ys))) here next) source here (here + (all_of (map arm_extent (arms_in (y ∷ ys)))).points)) (ap (λ zs. zs ++ rest) (sym (constants_of_arm y.0)))
      (subst (λ k. ArmsDiffer (arms_from plan selector source (map (laid_arm plan) (arms_in (y ∷ ys))) here next) source here k ((out-Arm y.0).consts ++ rest)) same
      (arms_more source here behind last here selector (out-Arm y.0).consts rest (arm_piece plan y.0 here next) (arms_from plan selector source (map (laid_arm plan) (arms_in ys)) behind next) low
      (y.1 p.0 here next) (arms_differ selector source ys p.1 behind next (omega (arith, low)))))

  from_body : (d : Body-F Body Arm Statement) (here next : ℕ)
      → ((source : ℕ) → source ≡ here + length (calls_of (laid_body plan d)) → Differ (inner_piece plan (laid_body plan d) source here next) source (source + 1 + (inner_extent (extents_in d)).points))
      → Differ (body_piece plan (roll-Body d) here next) here (here + 1 + (body_extent (roll-Body d)).points)
  from_body d here next inner =
      let source = here + length (calls_of (laid_body plan d)) in
      let last = source + 1 + (inner_extent (extents_in d)).points in
      let many : length (calls_of (laid_body plan d)) ≡ length (calls_of (extents_in d)) =
      ap length (calls_mapped (λ b. (b, body_piece plan b)) (laid_arm plan) (laid_statement plan) d ∙ sym (calls_mapped body_extent arm_extent statement_extent d)) in
      let points : (body_extent (roll-Body d)).points ≡ length (calls_of (extents_in d)) + (inner_extent (extents_in d)).points =
      ap (λ (x : Extent). x.points) (fold-roll-Body Extent Extent Extent body_extent_step (λ a. a.body) statement_extent_step d) in
      let drawn = differ_after (pieces.calls plan (calls_of (laid_body plan d)) here) (both (own_piece plan (laid_body plan d) source next) (inner_piece plan (laid_body plan d) source here next)) source last
      (plain_calls (calls_of (laid_body plan d)) here)
      (differ_after (own_piece plan (laid_body plan d) source next) (inner_piece plan (laid_body plan d) source here next) source last (own_plain d source next) (inner source refl)) in
      subst (λ p. Differ p here (here + 1 + (body_extent (roll-Body d)).points)) (sym (ap (λ (f : Placing). f here next) (para-roll-Body Placing Placing Placing (body_step plan) (λ a. a.body.1) (statement_step plan) d)))
      (differ_within _ source last here (here + 1 + (body_extent (roll-Body d)).points) drawn (omega arith) (omega (arith, many, points)))

  -- nothing stands inside
  simple : (d : Body-F Body Arm Statement) (here next : ℕ) → ((source : ℕ) → inner_piece plan (laid_body plan d) source here next ≡ pieces.nothing) → Differ (body_piece plan (roll-Body d) here next) here (here + 1 + (body_extent (roll-Body d)).points)
  simple d here next h = from_body d here next (λ source e. subst (λ p. Differ p source (source + 1 + (inner_extent (extents_in d)).points)) (sym (h source)) (differ_plain _ _ _ (omega arith) plain_nothing))

  of_body : (y : Body-F (With OfBody) (With OfArm) (With OfStatement)) → OfBody (roll-Body (map-Body (With OfBody) (With OfArm) (With OfStatement) Body Arm Statement (λ e. e.0) (λ e. e.0) (λ e. e.0) y))
  of_body Body-F.Empty h here next = simple Body-F.Empty here next (λ source. refl)
  of_body (Body-F.Assign target value) h here next = simple (Body-F.Assign target value) here next (λ source. refl)
  of_body (Body-F.Copy target array) h here next = simple (Body-F.Copy target array) here next (λ source. refl)
  of_body (Body-F.Call routine actuals at) h here next = simple (Body-F.Call routine actuals at) here next (λ source. refl)
  of_body (Body-F.Read targets line) h here next = simple (Body-F.Read targets line) here next (λ source. refl)
  of_body (Body-F.Write items line) h here next = simple (Body-F.Write items line) here next (λ source. refl)
  of_body (Body-F.Goto routine number) h here next = simple (Body-F.Goto routine number) here next (λ source. refl)
  of_body (Body-F.Begin body end) h here next =
      let p : all_true (map (each_statement choice_rule) (statements body)) ≡ true = to_body choice_rule (Body-F.Begin (statements body) end) h in
      from_body (Body-F.Begin (statements body) end) here next
      (λ source e. differ_within _ (source + 1) (source + 1 + (statements_extent (statements body)).points) _ _ (differ_in_order body p (source + 1) next) (omega arith) (omega arith))
  of_body (Body-F.If cond first None) h here next =
      let p = and_parts (each_expr choice_rule cond) _ (to_body choice_rule (Body-F.If cond first.0 None) h) in
      let s = and_parts (each_statement choice_rule first.0) _ p.1 in
      from_body (Body-F.If cond first.0 None) here next
      (λ source e.
      let m = source + 1 + (statement_extent first.0).points in
      differ_within _ (source + 1) m _ _ (differ_both _ _ (source + 1) m m (first.1 s.0 (source + 1) next) (differ_plain _ m m (omega arith) plain_nothing)) (omega arith) (omega arith))
  of_body (Body-F.If cond first (Some second)) h here next =
      let p = and_parts (each_expr choice_rule cond) _ (to_body choice_rule (Body-F.If cond first.0 (Some second.0)) h) in
      let s = and_parts (each_statement choice_rule first.0) _ p.1 in
      from_body (Body-F.If cond first.0 (Some second.0)) here next
      (λ source e.
      let m = source + 1 + (statement_extent first.0).points in
      differ_within _ (source + 1) (m + (statement_extent second.0).points) _ _
      (differ_both _ _ (source + 1) m (m + (statement_extent second.0).points) (first.1 s.0 (source + 1) next) (second.1 s.1 m next)) (omega arith) (omega arith))
  of_body (Body-F.Case selector arms) h here next =
      let p = and_parts (each_expr choice_rule selector) _ (to_body choice_rule (Body-F.Case selector (arms_in arms)) h) in
      let s = and_parts (all_differ (constants_in_arms arms)) _ p.1 in
      from_body (Body-F.Case selector (arms_in arms)) here next
      (λ source e. differ_arms _ source _ (constants_in_arms arms) s.0 (arms_differ selector source arms s.1 (source + 1) next (omega arith)))
  of_body (Body-F.While cond body) h here next =
      let p = and_parts (each_expr choice_rule cond) _ (to_body choice_rule (Body-F.While cond body.0) h) in
      from_body (Body-F.While cond body.0) here next
      (λ source e. differ_within _ (source + 1) (source + 1 + (statement_extent body.0).points) _ _ (body.1 p.1 (source + 1) here) (omega arith) (omega arith))
  of_body (Body-F.Repeat body until cond) h here next =
      let p = and_parts (all_true (map (each_statement choice_rule) (statements body))) _ (to_body choice_rule (Body-F.Repeat (statements body) until cond) h) in
      from_body (Body-F.Repeat (statements body) until cond) here next
      (λ source e.
      let start = here + 1 + (statements_extent (statements body)).points in
      let many = points_of_laid plan (statements body) in
      let at = here + 1 + points_of (map (laid_statement plan) (statements body)) in
      let mid = at + length (expr_calls cond) in
      differ_within _ (here + 1) at _ _
      (differ_both _ _ (here + 1) at at (differ_within _ (here + 1) start (here + 1) at (differ_in_order body p.0 (here + 1) at) (omega arith) (omega (arith, many)))
      (differ_plain _ at at (omega arith) (plain_both _ _ (plain_calls (expr_calls cond) at) (plain_condition cond mid next (here + 1))))) (omega (arith, e)) (omega (arith, e, many)))
  of_body (Body-F.For control bound first down final body) h here next =
      let p = and_parts (choice_rule.loop control bound) _ (to_body choice_rule (Body-F.For control bound first down final body.0) h) in
      let s = and_parts (each_expr choice_rule first) _ p.1 in
      let u = and_parts (each_expr choice_rule final) _ s.1 in
      from_body (Body-F.For control bound first down final body.0) here next
      (λ source e.
      let step = source + 1 + (statement_extent body.0).points in
      differ_within _ (source + 1) step _ _
      (differ_both _ _ (source + 1) step step (body.1 u.1 (source + 1) step) (differ_plain _ step step (omega arith) (plain_two step (source + 1) next (act.Next control bound down) (act.Finish control bound down) refl refl))) (omega arith) (omega arith))

  of_arm : (y : Arm-F (With OfBody) (With OfArm) (With OfStatement)) → OfArm (roll-Arm (map-Arm (With OfBody) (With OfArm) (With OfStatement) Body Arm Statement (λ e. e.0) (λ e. e.0) (λ e. e.0) y))
  of_arm y h here next =
      let d = map-Arm (With OfBody) (With OfArm) (With OfStatement) Body Arm Statement (λ e. e.0) (λ e. e.0) (λ e. e.0) y in
      let points = ap (λ (x : Extent). x.points) (fold-roll-Arm Extent Extent Extent body_extent_step (λ a. a.body) statement_extent_step d) in
      subst (λ p. Differ p here (here + (arm_extent (roll-Arm d)).points)) (sym (ap (λ (f : Placing). f here next) (para-roll-Arm Placing Placing Placing (body_step plan) (λ a. a.body.1) (statement_step plan) d)))
      (differ_within _ here (here + (statement_extent y.body.0).points) here (here + (arm_extent (roll-Arm d)).points) (y.body.1 (to_arm choice_rule d h) here next) (omega arith) (omega (arith, points)))

  of_statement : (y : Statement-F (With OfBody) (With OfArm) (With OfStatement)) → OfStatement (roll-Statement (map-Statement (With OfBody) (With OfArm) (With OfStatement) Body Arm Statement (λ e. e.0) (λ e. e.0) (λ e. e.0) y))
  of_statement y h here next =
      let d = map-Statement (With OfBody) (With OfArm) (With OfStatement) Body Arm Statement (λ e. e.0) (λ e. e.0) (λ e. e.0) y in
      let p = and_parts (list_all choice_rule.assertion y.asserts) _ (to_statement choice_rule d h) in
      let points = ap (λ (x : Extent). x.points) (fold-roll-Statement Extent Extent Extent body_extent_step (λ a. a.body) statement_extent_step d) in
      let last = here + 1 + (body_extent y.body.0).points in
      subst (λ x. Differ x here (here + (statement_extent (roll-Statement d)).points)) (sym (ap (λ (f : Placing). f here next) (para-roll-Statement Placing Placing Placing (body_step plan) (λ a. a.body.1) (statement_step plan) d)))
      (differ_within _ here last here (here + (statement_extent (roll-Statement d)).points) (differ_after _ _ here last (plain_judged here _) (y.body.1 p.1 here next)) (omega arith) (omega (arith, points)))

  statement_differs : (s : Statement) → OfStatement s
  statement_differs =
      ind-Statement OfBody OfArm OfStatement
      (λ x y is. subst (λ z. OfBody (roll-Body z)) is (of_body y))
      (λ x y is. subst (λ z. OfArm (roll-Arm z)) is (of_arm y))
      (λ x y is. subst (λ z. OfStatement (roll-Statement z)) is (of_statement y))

  statements_differ : (body : List Statement) → all_true (map (each_statement choice_rule) body) ≡ true → (here next : ℕ) → Differ (in_order plan (map (laid_statement plan) body) here next) here (here + (statements_extent body).points)
  statements_differ [] h here next = differ_plain _ here (here + 0) (omega arith) plain_nothing
  statements_differ (s ∷ body) h here next =
      let p = and_parts (each_statement choice_rule s) _ h in
      let behind = here + (statement_extent s).points in
      differ_within _ here (behind + (statements_extent body).points) here (here + (statements_extent (s ∷ body)).points)
      (differ_both _ _ here behind (behind + (statements_extent body).points) (statement_differs s p.0 here _) (statements_differ body p.1 behind next)) (omega arith) (omega arith)

  -- ---- routines

  part_differs : (result : Option ℕ) (entry exit : ℕ) (d : Body-F Body Arm Statement) → each_body choice_rule (roll-Body d) ≡ true → Differ (part_piece plan result entry exit d) entry (entry + 1 + part_points d)
  part_differs result entry exit (Body-F.Begin body end) h =
      let p : all_true (map (each_statement choice_rule) body) ≡ true = to_body choice_rule (Body-F.Begin body end) h in
      let last = entry + 1 + (statements_extent body).points in
      differ_within _ (entry + 1) last entry last
      (differ_after _ _ (entry + 1) last (plain_way entry (entry + 1) act.Skip refl)
      (differ_both _ _ (entry + 1) last last (statements_differ body p (entry + 1) exit) (differ_plain _ last last (omega arith) (plain_judged exit _)))) (omega arith) (omega arith)
  part_differs result entry exit Body-F.Empty h = differ_plain _ entry _ (omega arith) plain_nothing
  part_differs result entry exit (Body-F.Assign target value) h = differ_plain _ entry _ (omega arith) plain_nothing
  part_differs result entry exit (Body-F.Copy target array) h = differ_plain _ entry _ (omega arith) plain_nothing
  part_differs result entry exit (Body-F.Call routine actuals at) h = differ_plain _ entry _ (omega arith) plain_nothing
  part_differs result entry exit (Body-F.Read targets line) h = differ_plain _ entry _ (omega arith) plain_nothing
  part_differs result entry exit (Body-F.Write items line) h = differ_plain _ entry _ (omega arith) plain_nothing
  part_differs result entry exit (Body-F.Goto routine number) h = differ_plain _ entry _ (omega arith) plain_nothing
  part_differs result entry exit (Body-F.If cond first second) h = differ_plain _ entry _ (omega arith) plain_nothing
  part_differs result entry exit (Body-F.Case selector arms) h = differ_plain _ entry _ (omega arith) plain_nothing
  part_differs result entry exit (Body-F.While cond body) h = differ_plain _ entry _ (omega arith) plain_nothing
  part_differs result entry exit (Body-F.Repeat body until cond) h = differ_plain _ entry _ (omega arith) plain_nothing
  part_differs result entry exit (Body-F.For control bound first down final body) h = differ_plain _ entry _ (omega arith) plain_nothing

  routine_differs : (r : ℕ) (d : Routine) → each_statement choice_rule d.body ≡ true → Differ (routine_piece plan r d) (pieces.entry_of plan r) (pieces.entry_of plan r + 1 + routine_points d)
  routine_differs r d h =
      let p = and_parts (list_all choice_rule.assertion (out-Statement d.body).asserts) _ (to_statement choice_rule (out-Statement d.body) (ap (each_statement choice_rule) (roll-out-Statement d.body) ∙ h)) in
      part_differs d.result (pieces.entry_of plan r) (pieces.exit_of plan r) (out-Body (out-Statement d.body).body) (ap (each_body choice_rule) (roll-out-Body (out-Statement d.body).body) ∙ p.1)

  -- all routines, of which the first has the number `first` and begins with the point `low`
  routines_differ : (first : ℕ) (routines : List Routine) (low : ℕ) → AllOutermost routines → ((k : ℕ) (d : Routine) → slice_get routines k ≡ Some d → each_statement choice_rule d.body ≡ true)
      → ((k : ℕ) → slice_index plan.entries (first + k) ≡ slice_index (starts low first routines) k)
      → Differ (routines_piece plan first routines) low (low + length (routines_marks first routines))
  routines_differ first [] low o h at = differ_plain _ low (low + 0) (omega arith) plain_nothing
  routines_differ first (d ∷ routines) low o h at =
      let next = low + length (routine_marks first d) in
      let rest = routines_marks (suc first) routines in
      let one : first + 0 ≡ first = omega arith in
      let entry : slice_index plan.entries first ≡ low = ap (slice_index plan.entries) (sym one) ∙ at 0 in
      let long = marks_count first d (o 0 d refl) in
      let many = length-append (routine_marks first d) rest in
      differ_within _ low (next + length rest) low (low + length (routines_marks first (d ∷ routines)))
      (differ_both _ _ low next (next + length rest)
      (differ_within _ _ _ low next (routine_differs first d (h 0 d refl)) (omega (arith, entry)) (omega (arith, entry, long)))
      (routines_differ (suc first) routines next (λ k e i. o (suc k) e i) (λ k e i. h (suc k) e i)
      (λ k. let more : suc first + k ≡ first + suc k = omega arith in ap (slice_index plan.entries) more ∙ at (suc k))))
      (omega arith) (omega (arith, many))

-- ---- flows

pub constants_differ_in_flow : (f : Flow) (p : ℕ) → all_differ (constants_at f.edges p) ≡ true
constants_differ_in_flow f p =
    let program = f.program in
    let differ = routines_differ (plan_of program) 0 program.routines 0 program.in_scope.outermost program.constants_differ.each
    (λ k. let same : 0 + k ≡ k = omega arith in ap (slice_index (starts 0 0 program.routines)) same) in
    ap all_differ (constants_by_edges f.edges p ∙ ap (constants_in p) f.exact.edges_are) ∙ differ.apart 0 p
