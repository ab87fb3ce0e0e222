-- What a statement draws, at the statement itself, and what is left of several parts.
use Rattle.std.proofs.Common.{◌≡◌, ℕ, suc, ◌+◌, ◌<◌, ◌≤◌, Bool, if◌then◌else◌, List, [], ◌∷◌, map, length, get_or, drop, refl, sym, ap, ◌∙◌, nat_eq, Option, Some, None, inl, inr, add-one, eqb-true, arith}
use Rattle.std.proofs.lemmas.Bool.{cases_Bool, cases_lt, cond-false, cond-true, eqb-false}
use Rattle.std.specs.Option.{option_map}
use Rattle.std.proofs.lemmas.List.{at_drop_more, at_drop_all}
use Rattle.pas_program.specs.declared.expr.Access.{Access}
use Rattle.pas_program.specs.declared.expr.Expr.{Expr}
use Rattle.pas_program.specs.declared.routine.Routine.{Routine}
use Rattle.pas_program.specs.declared.statement.Arm.{Arm}
use Rattle.pas_program.specs.declared.statement.Body.{Body}
use Rattle.pas_program.specs.declared.statement.Body.TheOpen.{Body-F}
use Rattle.pas_program.specs.declared.statement.Body.TheFolds.{para-roll-Arm, para-roll-Body, para-roll-Statement}
use Rattle.pas_program.specs.declared.statement.Body.TheViews.{out-Arm, out-Body, out-Statement, roll-Body, roll-out-Arm, roll-out-Body, roll-out-Statement, out-roll-Body}
use Rattle.pas_program.specs.declared.statement.Statement.{Statement}
use Rattle.pas_program.specs.declared.statement.WriteItem.{WriteItem}
use Rattle.control_points.specs.declared.calls.CallSite as walk
use Rattle.control_points.specs.declared.edge.Act.{Act}
use Rattle.control_points.specs.declared.edge.Act.TheVariants as act
use Rattle.control_points.specs.Called.{calls_of, own_calls, site_of, sites_of}
use Rattle.control_points.specs.Calls.{Sites, expr_calls}
use Rattle.control_points.specs.Checking.{assert_checks, result_checks, selector_checks}
use Rattle.control_points.specs.Edges.{Placing, arm_piece, arms_from, body_piece, body_step, following, in_order, inner_piece, laid_arm, laid_body, laid_statement, loop_piece, own_piece, part_piece, points_of, routine_piece, routines_piece, second_piece, second_start, statement_piece, statement_step, until_piece}
use Rattle.control_points.specs.Extents.{arm_extent, read_points, statement_extent, statements_extent, total, write_points, all_of}
use Rattle.control_points.specs.Pieces.{Piece, Plan, both, judged, nothing, way}
use Rattle.control_points.specs.Pieces as pieces
use Rattle.control_points.proofs.OwnCalls.{calls_mapped}
use Rattle.control_points.proofs.Opened.{calls_at}

pub total_left : {A : Type 0} (f : A → ℕ) (xs : List A) (k : ℕ) (x : A) → k < length xs → x ≡ get_or xs k x → total (map f (drop k xs)) ≡ f x + total (map f (drop (k + 1) xs))
total_left f xs k x within is = at_drop_more (λ ys. total (map f ys)) xs k x within ∙ ap (λ y. f y + total (map f (drop (k + 1) xs))) (sym is)

one_more : (k n : ℕ) → k < n → (k + 1 ≡ n → ⊥) → k + 1 < n
one_more k n h ne = elim (cases_lt (k + 1) n) [ inl g ↦ g | inr g ↦ absurd (ne (omega arith)) ]

module _ (plan : Plan) where
  pub statement_piece_is : (s : Statement) (here next : ℕ) → statement_piece plan s here next ≡ both (judged here (assert_checks plan.asserts s.asserts)) (body_piece plan s.body here next)
  statement_piece_is s here next =
      ap (λ x. statement_piece plan x here next) (sym (roll-out-Statement s))
      ∙ ap (λ (q : Placing). q here next) (para-roll-Statement Placing Placing Placing (body_step plan) (λ a. a.body.1) (statement_step plan) (out-Statement s))

  pub arm_piece_is : (a : Arm) → arm_piece plan a ≡ statement_piece plan (out-Arm a).body
  arm_piece_is a = ap (arm_piece plan) (sym (roll-out-Arm a)) ∙ para-roll-Arm Placing Placing Placing (body_step plan) (λ x. x.body.1) (statement_step plan) (out-Arm a)

  body_piece_is : (b : Body) → body_piece plan b ≡ body_step plan (laid_body plan (out-Body b))
  body_piece_is b = ap (body_piece plan) (sym (roll-out-Body b)) ∙ para-roll-Body Placing Placing Placing (body_step plan) (λ x. x.body.1) (statement_step plan) (out-Body b)

  laid_calls : (s : Statement) → calls_of (laid_body plan (out-Body s.body)) ≡ own_calls s.body
  laid_calls s = calls_mapped (λ b. (b, body_piece plan b)) (laid_arm plan) (laid_statement plan) (out-Body s.body) ∙ sym (calls_at s (out-Body s.body) (sym (roll-out-Body s.body)))

  -- the calls of the action, the action, and what stands inside
  pub body_drawn : (s : Statement) (here next : ℕ) →
      both (pieces.calls plan (own_calls s.body) here) (both (own_piece plan (laid_body plan (out-Body s.body)) (here + length (own_calls s.body)) next) (inner_piece plan (laid_body plan (out-Body s.body)) (here + length (own_calls s.body)) here next))
      ≡ body_piece plan s.body here next
  body_drawn s here next =
      let d = laid_body plan (out-Body s.body) in
      ap (λ (sites : Sites). both (pieces.calls plan sites here) (both (own_piece plan d (here + length sites) next) (inner_piece plan d (here + length sites) here next))) (sym (laid_calls s))
      ∙ ap (λ (q : Placing). q here next) (sym (body_piece_is s.body))

  module _ (s : Statement) (d : Body-F Body Arm Statement) (is : s.body ≡ roll-Body d) where
    laid_at : laid_body plan d ≡ laid_body plan (out-Body s.body)
    laid_at = ap (laid_body plan) (sym (ap out-Body is ∙ out-roll-Body d))

    pub own_at : (here next : ℕ) → own_piece plan (laid_body plan d) here next ≡ own_piece plan (laid_body plan (out-Body s.body)) here next
    own_at here next = ap (λ b. own_piece plan b here next) laid_at

    pub inner_at : (source here next : ℕ) → inner_piece plan (laid_body plan d) source here next ≡ inner_piece plan (laid_body plan (out-Body s.body)) source here next
    inner_at source here next = ap (λ b. inner_piece plan b source here next) laid_at

  -- ---- what is left of several parts

  pub calls_left : (sites : List walk.CallSite) (k : ℕ) (x : walk.CallSite) (here : ℕ) → k < length sites → x ≡ get_or sites k x
      → pieces.calls plan (sites_of (drop k sites)) here ≡ both (pieces.call plan (site_of x) here (here + 1)) (pieces.calls plan (sites_of (drop (k + 1) sites)) (here + 1))
  calls_left sites k x here within is =
      at_drop_more (λ xs. pieces.calls plan (sites_of xs) here) sites k x within
      ∙ ap (λ y. both (pieces.call plan (site_of y) here (here + 1)) (pieces.calls plan (sites_of (drop (k + 1) sites)) (here + 1))) (sym is)

  pub calls_done : (sites : List walk.CallSite) (k here : ℕ) → length sites ≤ k → pieces.calls plan (sites_of (drop k sites)) here ≡ nothing
  calls_done sites k here h = at_drop_all (λ xs. pieces.calls plan (sites_of xs) here) sites k h

  pub reads_left : (targets : List Access) (k : ℕ) (x : Access) (end : Act) (here next : ℕ) → k < length targets → x ≡ get_or targets k x
      → pieces.reads plan (drop k targets) end here next ≡ both (pieces.read plan x here) (pieces.reads plan (drop (k + 1) targets) end (here + read_points x) next)
  reads_left targets k x end here next within is =
      at_drop_more (λ xs. pieces.reads plan xs end here next) targets k x within
      ∙ ap (λ y. both (pieces.read plan y here) (pieces.reads plan (drop (k + 1) targets) end (here + read_points y) next)) (sym is)

  pub reads_done : (targets : List Access) (k : ℕ) (end : Act) (here next : ℕ) → length targets ≤ k → pieces.reads plan (drop k targets) end here next ≡ way here end next
  reads_done targets k end here next h = at_drop_all (λ xs. pieces.reads plan xs end here next) targets k h

  pub writes_left : (items : List WriteItem) (k : ℕ) (x : WriteItem) (end : Act) (here next : ℕ) → k < length items → x ≡ get_or items k x
      → pieces.writes plan (drop k items) end here next ≡ both (pieces.write plan x here) (pieces.writes plan (drop (k + 1) items) end (here + write_points x) next)
  writes_left items k x end here next within is =
      at_drop_more (λ xs. pieces.writes plan xs end here next) items k x within
      ∙ ap (λ y. both (pieces.write plan y here) (pieces.writes plan (drop (k + 1) items) end (here + write_points y) next)) (sym is)

  pub writes_done : (items : List WriteItem) (k : ℕ) (end : Act) (here next : ℕ) → length items ≤ k → pieces.writes plan (drop k items) end here next ≡ way here end next
  writes_done items k end here next h = at_drop_all (λ xs. pieces.writes plan xs end here next) items k h

  pub order_left : (body : List Statement) (k : ℕ) (x : Statement) (here next : ℕ) → k < length body → x ≡ get_or body k x
      → in_order plan (map (laid_statement plan) (drop k body)) here next
      ≡ both (statement_piece plan x here (following (map (laid_statement plan) (drop (k + 1) body)) (here + (statement_extent x).points) next)) (in_order plan (map (laid_statement plan) (drop (k + 1) body)) (here + (statement_extent x).points) next)
  order_left body k x here next within is =
      let rest = map (laid_statement plan) (drop (k + 1) body) in
      at_drop_more (λ xs. in_order plan (map (laid_statement plan) xs) here next) body k x within
      ∙ ap (λ y. both (statement_piece plan y here (following rest (here + (statement_extent y).points) next)) (in_order plan rest (here + (statement_extent y).points) next)) (sym is)

  pub order_done : (body : List Statement) (k here next : ℕ) → length body ≤ k → in_order plan (map (laid_statement plan) (drop k body)) here next ≡ nothing
  order_done body k here next h = at_drop_all (λ xs. in_order plan (map (laid_statement plan) xs) here next) body k h

  pub arms_left : (of : Expr) (source : ℕ) (arms : List Arm) (k : ℕ) (x : Arm) (here next : ℕ) → k < length arms → x ≡ get_or arms k x
      → arms_from plan of source (map (laid_arm plan) (drop k arms)) here next
      ≡ both (way source (act.Arm of (out-Arm x).consts) here) (both (arm_piece plan x here next) (arms_from plan of source (map (laid_arm plan) (drop (k + 1) arms)) (here + (arm_extent x).points) next))
  arms_left of source arms k x here next within is =
      let rest = map (laid_arm plan) (drop (k + 1) arms) in
      at_drop_more (λ xs. arms_from plan of source (map (laid_arm plan) xs) here next) arms k x within
      ∙ ap (λ y. both (way source (act.Arm of (out-Arm y).consts) here) (both (arm_piece plan y here next) (arms_from plan of source rest (here + (arm_extent y).points) next))) (sym is)

  pub arms_done : (of : Expr) (source : ℕ) (arms : List Arm) (k here next : ℕ) → length arms ≤ k → arms_from plan of source (map (laid_arm plan) (drop k arms)) here next ≡ nothing
  arms_done of source arms k here next h = at_drop_all (λ xs. arms_from plan of source (map (laid_arm plan) xs) here next) arms k h

  laid_extents : (body : List Statement) → map (λ s. statement_extent s.0) (map (laid_statement plan) body) ≡ map statement_extent body
  laid_extents [] = refl
  laid_extents (s ∷ body) = ap (λ xs. statement_extent s ∷ xs) (laid_extents body)

  pub points_of_laid : (body : List Statement) → points_of (map (laid_statement plan) body) ≡ (statements_extent body).points
  points_of_laid body = ap (λ xs. (all_of xs).points) (laid_extents body)

  -- ---- a statement with its assertions, and statements by the numbers that the walk has

  pub statement_drawn : (s : Statement) (here source next : ℕ) → source ≡ here + length (own_calls s.body) →
      both (judged here (assert_checks plan.asserts s.asserts)) (both (pieces.calls plan (own_calls s.body) here) (both (own_piece plan (laid_body plan (out-Body s.body)) source next) (inner_piece plan (laid_body plan (out-Body s.body)) source here next)))
      ≡ statement_piece plan s here next
  statement_drawn s here source next e =
      let d = laid_body plan (out-Body s.body) in
      ap (λ n. both (judged here (assert_checks plan.asserts s.asserts)) (both (pieces.calls plan (own_calls s.body) here) (both (own_piece plan d n next) (inner_piece plan d n here next)))) e
      ∙ ap (both (judged here (assert_checks plan.asserts s.asserts))) (body_drawn s here next)
      ∙ sym (statement_piece_is s here next)

  following_is : (body : List Statement) (k : ℕ) (x : Statement) (next behind : ℕ) → k < length body → following (map (laid_statement plan) (drop (k + 1) body)) behind next ≡ (if nat_eq (k + 1) (length body) then next else behind)
  following_is body k x next behind h =
      elim (cases_Bool (nat_eq (k + 1) (length body))) [
        | inl e ↦ at_drop_all (λ ys. following (map (laid_statement plan) ys) behind next) body (k + 1) (omega (arith, eqb-true (k + 1) (length body) e)) ∙ sym (cond-true (nat_eq (k + 1) (length body)) next behind e)
        | inr e ↦ at_drop_more (λ ys. following (map (laid_statement plan) ys) behind next) body (k + 1) x (one_more k (length body) h (eqb-false (k + 1) (length body) e)) ∙ sym (cond-false (nat_eq (k + 1) (length body)) next behind e)
      ]

  pub order_step : (body : List Statement) (k : ℕ) (x : Statement) (here behind next chosen : ℕ) (last : Bool) → k < length body → x ≡ get_or body k x → behind ≡ here + (statement_extent x).points
      → chosen ≡ (if last then next else behind) → last ≡ nat_eq (k + 1) (length body)
      → in_order plan (map (laid_statement plan) (drop k body)) here next ≡ both (statement_piece plan x here chosen) (in_order plan (map (laid_statement plan) (drop (k + 1) body)) behind next)
  order_step body k x here behind next chosen last within is e choose at =
      let rest = map (laid_statement plan) (drop (k + 1) body) in
      order_left body k x here next within is
      ∙ ap (λ n. both (statement_piece plan x here (following rest n next)) (in_order plan rest n next)) (sym e)
      ∙ ap (λ n. both (statement_piece plan x here n) (in_order plan rest behind next)) (following_is body k x next behind within ∙ ap (λ b. if b then next else behind) (sym at) ∙ sym choose)

  pub arms_step : (of : Expr) (source : ℕ) (arms : List Arm) (k : ℕ) (x : Arm) (here behind next : ℕ) → k < length arms → x ≡ get_or arms k x → behind ≡ here + (arm_extent x).points
      → arms_from plan of source (map (laid_arm plan) (drop k arms)) here next
      ≡ both (way source (act.Arm of (out-Arm x).consts) here) (both (statement_piece plan (out-Arm x).body here next) (arms_from plan of source (map (laid_arm plan) (drop (k + 1) arms)) behind next))
  arms_step of source arms k x here behind next within is e =
      let rest = map (laid_arm plan) (drop (k + 1) arms) in
      let first = way source (act.Arm of (out-Arm x).consts) here in
      arms_left of source arms k x here next within is
      ∙ ap (λ (q : Placing). both first (both (q here next) (arms_from plan of source rest (here + (arm_extent x).points) next))) (arm_piece_is x)
      ∙ ap (λ n. both first (both (statement_piece plan (out-Arm x).body here next) (arms_from plan of source rest n next))) (sym e)

  pub if_inside : (cond : Expr) (first : Statement) (other : Option Statement) (source here behind next : ℕ) → behind ≡ source + 1 + (statement_extent first).points
      → both (statement_piece plan first (source + 1) next) (second_piece plan (option_map (laid_statement plan) other) behind next) ≡ inner_piece plan (laid_body plan (Body-F.If cond first other)) source here next
  if_inside cond first None source here behind next e = refl
  if_inside cond first (Some s) source here behind next e = ap (λ n. both (statement_piece plan first (source + 1) next) (statement_piece plan s n next)) e

  pub if_none : (other : Option Statement) (behind next failed : ℕ) → other ≡ None → failed ≡ next → failed ≡ second_start (option_map (laid_statement plan) other) behind next
  if_none other behind next failed is e = e ∙ ap (λ o. second_start (option_map (laid_statement plan) o) behind next) (sym is)

  pub if_some : (other : Option Statement) (s : Statement) (behind next failed : ℕ) → other ≡ Some s → failed ≡ behind → failed ≡ second_start (option_map (laid_statement plan) other) behind next
  if_some other s behind next failed is e = e ∙ ap (λ o. second_start (option_map (laid_statement plan) o) behind next) (sym is)

  pub if_own : (cond : Expr) (first : Statement) (other : Option Statement) (source next failed : ℕ) → failed ≡ second_start (option_map (laid_statement plan) other) (source + 1 + (statement_extent first).points) next
      → pieces.condition plan cond source (source + 1) failed ≡ own_piece plan (laid_body plan (Body-F.If cond first other)) source next
  if_own cond first None source next failed e = ap (pieces.condition plan cond source (source + 1)) e
  if_own cond first (Some s) source next failed e = ap (pieces.condition plan cond source (source + 1)) e

  pub case_own : (selector : Expr) (arms : List Arm) (source next : ℕ) → both (judged source (selector_checks plan.tables selector)) (pieces.no_arms arms selector source next) ≡ own_piece plan (laid_body plan (Body-F.Case selector arms)) source next
  case_own selector [] source next = refl
  case_own selector (arm ∷ arms) source next = refl

  pub until_is : (body : List (Statement × Placing)) (cond : Expr) (here next until : ℕ) → until ≡ here + 1 + points_of body → (sites : Sites) → sites ≡ expr_calls cond → (last : ℕ) → last ≡ here + 1 + points_of body + length (expr_calls cond)
      → both (in_order plan body (here + 1) until) (both (pieces.calls plan sites until) (pieces.condition plan cond last next (here + 1))) ≡ until_piece plan body cond here next
  until_is body cond here next until e sites same last at =
      ap (λ n. both (in_order plan body (here + 1) n) (both (pieces.calls plan sites n) (pieces.condition plan cond last next (here + 1)))) e
      ∙ ap (λ xs. both (in_order plan body (here + 1) (here + 1 + points_of body)) (both (pieces.calls plan xs (here + 1 + points_of body)) (pieces.condition plan cond last next (here + 1)))) same
      ∙ ap (λ n. both (in_order plan body (here + 1) (here + 1 + points_of body)) (both (pieces.calls plan (expr_calls cond) (here + 1 + points_of body)) (pieces.condition plan cond n next (here + 1)))) at

  pub loop_is : (control bound : ℕ) (down : Bool) (body : Statement) (source next step : ℕ) → step ≡ source + 1 + (statement_extent body).points
      → both (statement_piece plan body (source + 1) step) (pieces.turns control bound down step (source + 1) next) ≡ loop_piece plan control bound down (laid_statement plan body) source next
  loop_is control bound down body source next step e = ap (λ n. both (statement_piece plan body (source + 1) n) (pieces.turns control bound down n (source + 1) next)) e

  -- ---- the statement part of a routine

  pub part_is : (r : ℕ) (d : Routine) (body : List Statement) (end entry exit : ℕ) → out-Body d.body.body ≡ Body-F.Begin body end → entry ≡ pieces.entry_of plan r → exit ≡ pieces.exit_of plan r
      → both (way entry act.Skip (entry + 1)) (both (in_order plan (map (laid_statement plan) body) (entry + 1) exit) (judged exit (result_checks d.result end))) ≡ routine_piece plan r d
  part_is r d body end entry exit opened entry_is exit_is =
      ap (λ n. part_piece plan d.result n exit (Body-F.Begin body end)) entry_is
      ∙ ap (λ n. part_piece plan d.result (pieces.entry_of plan r) n (Body-F.Begin body end)) exit_is
      ∙ ap (part_piece plan d.result (pieces.entry_of plan r) (pieces.exit_of plan r)) (sym opened)

  pub routines_left : (routines : List Routine) (k : ℕ) (d : Routine) → k < length routines → d ≡ get_or routines k d
      → routines_piece plan k (drop k routines) ≡ both (routine_piece plan k d) (routines_piece plan (k + 1) (drop (k + 1) routines))
  routines_left routines k d within is =
      at_drop_more (routines_piece plan k) routines k d within
      ∙ ap (λ x. both (routine_piece plan k x) (routines_piece plan (suc k) (drop (k + 1) routines))) (sym is)
      ∙ ap (λ n. both (routine_piece plan k d) (routines_piece plan n (drop (k + 1) routines))) (sym (add-one k))

  pub routines_done : (routines : List Routine) (k : ℕ) → length routines ≤ k → routines_piece plan k (drop k routines) ≡ nothing
  routines_done routines k h = at_drop_all (routines_piece plan k) routines k h
