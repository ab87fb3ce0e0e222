-- Each piece of a program: both ways of an action stand together, and an edge leaves each point of a statement.
use Rattle.std.proofs.Common.{◌≡◌, inl, inr, ℕ, zero, suc, ◌+◌, ◌<◌, ◌≤◌, Bool, true, false, List, [], ◌∷◌, map, length, refl, sym, ap, subst, ◌∙◌, Option, Some, None, arith}
use Rattle.std.proofs.lemmas.Bool.{and_parts, cases_lt, true≢false}
use Rattle.std.proofs.lemmas.Option.{none-some}
use Rattle.std.specs.List.{slice_get}
use Rattle.pas_program.proofs.Weaker.{With}
use Rattle.pas_program.specs.declared.expr.Access.{Access}
use Rattle.pas_program.specs.declared.expr.Expr.{Expr}
use Rattle.pas_program.specs.declared.routine.Routine.{Routine}
use Rattle.pas_program.specs.declared.statement.Arm.{Arm}
use Rattle.pas_program.specs.declared.statement.Body.{Body}
use Rattle.pas_program.specs.declared.statement.Body.TheOpen.{Arm-F, Body-F, Statement-F}
use Rattle.pas_program.specs.declared.statement.Body.TheFolds.{fold-roll-Arm, fold-roll-Body, fold-roll-Statement, ind-Statement, map-Arm, map-Body, map-Statement, para-roll-Arm, para-roll-Body, para-roll-Statement}
use Rattle.pas_program.specs.declared.statement.Body.TheViews.{out-Arm, out-Body, out-Statement, roll-Arm, roll-Body, roll-Statement}
use Rattle.pas_program.specs.declared.statement.Statement.{Statement}
use Rattle.pas_program.specs.declared.statement.WriteItem.{WriteItem}
use Rattle.pas_program.specs.Scopes.{is_begin, is_outermost}
use Rattle.control_points.specs.declared.edge.Act.{Act}
use Rattle.control_points.specs.declared.edge.Act.TheVariants as act
use Rattle.control_points.specs.Called.{calls_of}
use Rattle.control_points.specs.Calls.{CallSite, Sites, access_calls, expr_calls, item_calls}
use Rattle.control_points.specs.Checking.{Faults}
use Rattle.control_points.specs.Edges.{Placing, arm_piece, arms_from, body_piece, body_step, in_order, inner_piece, laid_arm, laid_body, laid_statement, own_piece, part_piece, points_of, routine_piece, routines_piece, statement_piece, statement_step}
use Rattle.control_points.specs.Extents.{Extent, all_of, arm_extent, body_extent, body_extent_step, inner_extent, part_points, read_points, routine_points, statement_extent, statement_extent_step, statements_extent, total, write_points}
use Rattle.control_points.specs.Leading.{is_other_way, other_way}
use Rattle.control_points.specs.Listing as listing
use Rattle.control_points.specs.Pieces.{Piece, Plan, both, judged, line_act, nothing, procedure_call, way}
use Rattle.control_points.specs.Pieces as pieces
use Rattle.control_points.specs.Scenes.{call_act}
use Rattle.control_points.proofs.Laying.{points_of_laid}
use Rattle.control_points.proofs.Listed.{same_some}
use Rattle.control_points.proofs.OwnCalls.{calls_mapped}
use Rattle.control_points.proofs.Paired.{ArePaired, IsLeft, IsPlain, left_front, left_past, paired_both, paired_none, paired_one, paired_two}

-- both ways stand together in the piece, and an edge of it leaves each point from low on and before high
pub record Covers (p : Piece) (low high : ℕ) : Type 0 where
  pub pairs : (n : ℕ) → ArePaired (p n).edges
  pub left : (n q : ℕ) → low ≤ q → q < high → IsLeft (p n).edges q

covers_nothing : (low high : ℕ) → high ≤ low → Covers nothing low high
covers_nothing low high h = record { pairs = λ n. paired_none; left = λ n q a b. absurd (omega (arith, h, a, b)) }

covers_judged : (point : ℕ) (faults : Faults) (low : ℕ) → Covers (judged point faults) low low
covers_judged point faults low = record { pairs = λ n. paired_none; left = λ n q a b. absurd (omega (arith, a, b)) }

covers_both : (p q : Piece) (low mid high : ℕ) → Covers p low mid → Covers q mid high → Covers (both p q) low high
covers_both p q low mid high f g = record {
  pairs = λ n. paired_both (p n).edges (q (n + length (p n).edges)).edges (f.pairs n) (g.pairs (n + length (p n).edges));
  left = λ n k a b. elim (cases_lt k mid) [
    | inl before ↦ left_front (p n).edges (q (n + length (p n).edges)).edges k (f.left n k a before)
    | inr behind ↦ left_past (p n).edges (q (n + length (p n).edges)).edges k (g.left (n + length (p n).edges) k (omega (arith, behind)) b)
  ];
}

covers_within : (p : Piece) (low high first last : ℕ) → Covers p low high → low ≤ first → last ≤ high → Covers p first last
covers_within p low high first last f a b = record { pairs = f.pairs; left = λ n q c d. f.left n q (omega (arith, a, c)) (omega (arith, b, d)) }

-- of no point
covers_none : (p : Piece) (low high at : ℕ) → Covers p low high → Covers p at at
covers_none p low high at f = record { pairs = f.pairs; left = λ n q a b. absurd (omega (arith, a, b)) }

covers_way : (source target : ℕ) (a : Act) → IsPlain a → Covers (way source a target) source (source + 1)
covers_way source target a p = record {
  pairs = λ n. paired_one (listing.edge source a target) p;
  left = λ n q low high. record { place = 0; edge = listing.edge source a target; stands = refl; from_is = omega (arith, low, high) };
}

covers_two : (source t u : ℕ) (a b : Act) → other_way a ≡ Some b → is_other_way a ≡ false → other_way b ≡ None → Covers (both (way source a t) (way source b u)) source (source + 1)
covers_two source t u a b opens not_closed closed = record {
  pairs = λ n. paired_two (listing.edge source a t) (listing.edge source b u) opens not_closed closed refl;
  left = λ n q low high. record { place = 0; edge = listing.edge source a t; stands = refl; from_is = omega (arith, low, high) };
}

plain : (a : Act) → other_way a ≡ None → is_other_way a ≡ false → IsPlain a
plain a o c = record { opens = o; closes = c }

line_plain : (line : Bool) (a : Act) → IsPlain a → IsPlain (line_act line a)
line_plain true a p = p
line_plain false a p = plain act.Skip refl refl

-- the points that the action of a statement leaves
abbrev own_points : Body-F Body Arm Statement → ℕ
own_points (Body-F.Read targets line) = 1 + total (map read_points targets)
own_points (Body-F.Write items line) = 1 + total (map write_points items)
own_points (Body-F.Case selector []) = 1
own_points (Body-F.Case selector (arm ∷ arms)) = 0
own_points _ = 1

abbrev extents_in : Body-F Body Arm Statement → Body-F Extent Extent Extent
extents_in = map-Body Body Arm Statement Extent Extent Extent body_extent arm_extent statement_extent

module _ (plan : Plan) where
  covers_call : (c : CallSite) (source back : ℕ) → Covers (pieces.call plan c source back) source (source + 1)
  covers_call c source back =
      covers_both _ (pieces.call_ways plan c source back) source source (source + 1) (covers_judged source _ source)
      (record {
        pairs = λ n. paired_both (listing.edge source (call_act c) (pieces.entry_of plan c.routine) ∷ []) (listing.edge (pieces.exit_of plan c.routine) (act.Return n) back ∷ [])
            (paired_one _ (plain _ refl refl)) (paired_one _ (plain _ refl refl));
        left = λ n q low high. record { place = 0; edge = listing.edge source (call_act c) (pieces.entry_of plan c.routine); stands = refl; from_is = omega (arith, low, high) };
      })

  covers_calls : (sites : Sites) (source : ℕ) → Covers (pieces.calls plan sites source) source (source + length sites)
  covers_calls [] source = covers_nothing source (source + 0) (omega arith)
  covers_calls (c ∷ sites) source =
      covers_within _ source (source + 1 + length sites) source (source + suc (length sites))
      (covers_both _ _ source (source + 1) (source + 1 + length sites) (covers_call c source (source + 1)) (covers_calls sites (source + 1))) (omega arith) (omega arith)

  covers_condition : (cond : Expr) (here held failed : ℕ) → Covers (pieces.condition plan cond here held failed) here (here + 1)
  covers_condition cond here held failed = covers_both _ _ here here (here + 1) (covers_judged here _ here) (covers_two here held failed (act.Test cond true) (act.Test cond false) refl refl refl)

  covers_read : (a : Access) (source : ℕ) → Covers (pieces.read plan a source) source (source + length (access_calls a) + 1)
  covers_read a source =
      let here = source + length (access_calls a) in
      covers_both _ _ source here (here + 1) (covers_calls (access_calls a) source)
      (covers_both _ _ here here (here + 1) (covers_judged here _ here) (covers_way here (here + 1) (act.Read a) (plain _ refl refl)))

  covers_reads : (targets : List Access) (end : Act) (source next : ℕ) → IsPlain end → Covers (pieces.reads plan targets end source next) source (source + (1 + total (map read_points targets)))
  covers_reads [] end source next p = covers_way source next end p
  covers_reads (a ∷ targets) end source next p =
      let behind = source + read_points a in
      let one = covers_within _ source (source + length (access_calls a) + 1) source behind (covers_read a source) (omega arith) (omega arith) in
      covers_within _ source (behind + (1 + total (map read_points targets))) source (source + (1 + total (map read_points (a ∷ targets))))
      (covers_both _ _ source behind (behind + (1 + total (map read_points targets))) one (covers_reads targets end behind next p)) (omega arith) (omega arith)

  covers_write : (item : WriteItem) (source : ℕ) → Covers (pieces.write plan item source) source (source + length (item_calls item) + 1)
  covers_write item source =
      let here = source + length (item_calls item) in
      covers_both _ _ source here (here + 1) (covers_calls (item_calls item) source)
      (covers_both _ _ here here (here + 1) (covers_judged here _ here) (covers_way here (here + 1) (act.Write item) (plain _ refl refl)))

  covers_writes : (items : List WriteItem) (end : Act) (source next : ℕ) → IsPlain end → Covers (pieces.writes plan items end source next) source (source + (1 + total (map write_points items)))
  covers_writes [] end source next p = covers_way source next end p
  covers_writes (item ∷ items) end source next p =
      let behind = source + write_points item in
      let one = covers_within _ source (source + length (item_calls item) + 1) source behind (covers_write item source) (omega arith) (omega arith) in
      covers_within _ source (behind + (1 + total (map write_points items))) source (source + (1 + total (map write_points (item ∷ items))))
      (covers_both _ _ source behind (behind + (1 + total (map write_points items))) one (covers_writes items end behind next p)) (omega arith) (omega arith)

  -- the action of a statement
  own_covers : (d : Body-F Body Arm Statement) (source next : ℕ) → Covers (own_piece plan (laid_body plan d) source next) source (source + own_points d)
  own_covers Body-F.Empty source next = covers_way source next act.Skip (plain _ refl refl)
  own_covers (Body-F.Assign target value) source next = covers_both _ _ source source (source + 1) (covers_judged source _ source) (covers_way source next (act.Assign target value) (plain _ refl refl))
  own_covers (Body-F.Copy target array) source next = covers_both _ _ source source (source + 1) (covers_judged source _ source) (covers_way source next (act.Copy target array) (plain _ refl refl))
  own_covers (Body-F.Call routine actuals at) source next = covers_call (procedure_call routine actuals at) source next
  own_covers (Body-F.Read targets line) source next = covers_reads targets (line_act line act.DropLine) source next (line_plain line act.DropLine (plain _ refl refl))
  own_covers (Body-F.Write items line) source next = covers_writes items (line_act line act.EndLine) source next (line_plain line act.EndLine (plain _ refl refl))
  own_covers (Body-F.Goto routine number) source next = covers_way source (plan.label routine number) (act.Goto routine) (plain _ refl refl)
  own_covers (Body-F.Begin body end) source next = covers_way source (source + 1) act.Skip (plain _ refl refl)
  own_covers (Body-F.If cond first None) source next = covers_condition cond source (source + 1) next
  own_covers (Body-F.If cond first (Some second)) source next = covers_condition cond source (source + 1) (source + 1 + (statement_extent first).points)
  own_covers (Body-F.Case selector []) source next = covers_both _ _ source source (source + 1) (covers_judged source _ source) (covers_way source next (act.Arm selector []) (plain _ refl refl))
  own_covers (Body-F.Case selector (arm ∷ arms)) source next =
      covers_within _ source source source (source + 0) (covers_both _ _ source source source (covers_judged source _ source) (covers_nothing source source (omega arith))) (omega arith) (omega arith)
  own_covers (Body-F.While cond body) source next = covers_condition cond source (source + 1) next
  own_covers (Body-F.Repeat body until cond) source next = covers_way source (source + 1) act.Skip (plain _ refl refl)
  own_covers (Body-F.For control bound first down final body) source next =
      covers_both _ _ source source (source + 1) (covers_judged source _ source) (covers_two source (source + 1) next (act.Enter control bound first down final) (act.Bypass control bound first down final) refl refl refl)

  -- ---- statements

  abbrev OfBody : Body → Type 0
  OfBody b = (here next : ℕ) → Covers (body_piece plan b here next) here (here + 1 + (body_extent b).points)

  abbrev OfArm : Arm → Type 0
  OfArm a = (here next : ℕ) → Covers (arm_piece plan a here next) here (here + (arm_extent a).points)

  abbrev OfStatement : Statement → Type 0
  OfStatement s = (here next : ℕ) → Covers (statement_piece plan s here next) here (here + (statement_extent s).points)

  abbrev statements : List (With OfStatement) → List Statement
  statements ys = map (λ (y : With OfStatement). y.0) ys

  abbrev arms_in : List (With OfArm) → List Arm
  arms_in ys = map (λ (y : With OfArm). y.0) ys

  covers_in_order : (ys : List (With OfStatement)) (here next : ℕ) → Covers (in_order plan (map (laid_statement plan) (statements ys)) here next) here (here + (statements_extent (statements ys)).points)
  covers_in_order [] here next = covers_nothing here (here + 0) (omega arith)
  covers_in_order (y ∷ ys) here next =
      let behind = here + (statement_extent y.0).points in
      covers_within _ here (behind + (statements_extent (statements ys)).points) here (here + (statements_extent (statements (y ∷ ys))).points)
      (covers_both _ _ here behind (behind + (statements_extent (statements ys)).points) (y.1 here _) (covers_in_order ys behind next)) (omega arith) (omega arith)

  covers_arms : (selector : Expr) (source : ℕ) (ys : List (With OfArm)) (here next : ℕ) → Covers (arms_from plan selector source (map (laid_arm plan) (arms_in ys)) here next) here (here + (all_of (map arm_extent (arms_in ys))).points)
  covers_arms selector source [] here next = covers_nothing here (here + 0) (omega arith)
  covers_arms selector source (y ∷ ys) here next =
      let behind = here + (arm_extent y.0).points in
      let last = behind + (all_of (map arm_extent (arms_in ys))).points in
      let one = covers_none _ source (source + 1) here (covers_way source here (act.Arm selector (out-Arm y.0).consts) (plain _ refl refl)) in
      covers_within _ here last here (here + (all_of (map arm_extent (arms_in (y ∷ ys)))).points)
      (covers_both _ _ here here last one (covers_both _ _ here behind last (y.1 here next) (covers_arms selector source ys behind next))) (omega arith) (omega arith)

  from_body : (d : Body-F Body Arm Statement) (here next : ℕ)
      → ((source : ℕ) → source ≡ here + length (calls_of (laid_body plan d)) → Covers (inner_piece plan (laid_body plan d) source here next) (source + own_points d) (source + 1 + (inner_extent (extents_in d)).points))
      → Covers (body_piece plan (roll-Body d) here next) here (here + 1 + (body_extent (roll-Body d)).points)
  from_body d here next inner =
      let source = here + length (calls_of (laid_body plan d)) in
      let last = source + 1 + (inner_extent (extents_in d)).points in
      let many : length (calls_of (laid_body plan d)) ≡ length (calls_of (extents_in d)) =
      ap length (calls_mapped (λ b. (b, body_piece plan b)) (laid_arm plan) (laid_statement plan) d ∙ sym (calls_mapped body_extent arm_extent statement_extent d)) in
      let points : (body_extent (roll-Body d)).points ≡ length (calls_of (extents_in d)) + (inner_extent (extents_in d)).points =
      ap (λ (x : Extent). x.points) (fold-roll-Body Extent Extent Extent body_extent_step (λ a. a.body) statement_extent_step d) in
      let drawn = covers_both (pieces.calls plan (calls_of (laid_body plan d)) here) (both (own_piece plan (laid_body plan d) source next) (inner_piece plan (laid_body plan d) source here next)) here source last
      (covers_calls (calls_of (laid_body plan d)) here)
      (covers_both (own_piece plan (laid_body plan d) source next) (inner_piece plan (laid_body plan d) source here next) source (source + own_points d) last (own_covers d source next) (inner source refl)) in
      subst (λ p. Covers p here (here + 1 + (body_extent (roll-Body d)).points)) (sym (ap (λ (f : Placing). f here next) (para-roll-Body Placing Placing Placing (body_step plan) (λ a. a.body.1) (statement_step plan) d)))
      (covers_within _ here last here (here + 1 + (body_extent (roll-Body d)).points) drawn (omega arith) (omega (arith, many, points)))

  of_body : (y : Body-F (With OfBody) (With OfArm) (With OfStatement)) → OfBody (roll-Body (map-Body (With OfBody) (With OfArm) (With OfStatement) Body Arm Statement (λ e. e.0) (λ e. e.0) (λ e. e.0) y))
  of_body Body-F.Empty here next = from_body Body-F.Empty here next (λ source e. covers_nothing _ _ (omega arith))
  of_body (Body-F.Assign target value) here next = from_body (Body-F.Assign target value) here next (λ source e. covers_nothing _ _ (omega arith))
  of_body (Body-F.Copy target array) here next = from_body (Body-F.Copy target array) here next (λ source e. covers_nothing _ _ (omega arith))
  of_body (Body-F.Call routine actuals at) here next = from_body (Body-F.Call routine actuals at) here next (λ source e. covers_nothing _ _ (omega arith))
  of_body (Body-F.Read targets line) here next = from_body (Body-F.Read targets line) here next (λ source e. covers_nothing _ _ (omega arith))
  of_body (Body-F.Write items line) here next = from_body (Body-F.Write items line) here next (λ source e. covers_nothing _ _ (omega arith))
  of_body (Body-F.Goto routine number) here next = from_body (Body-F.Goto routine number) here next (λ source e. covers_nothing _ _ (omega arith))
  of_body (Body-F.Begin body end) here next = from_body (Body-F.Begin (statements body) end) here next (λ source e. covers_in_order body (source + 1) next)
  of_body (Body-F.If cond first None) here next =
      from_body (Body-F.If cond first.0 None) here next
      (λ source e. let m = source + 1 + (statement_extent first.0).points in covers_both _ _ (source + 1) m _ (first.1 (source + 1) next) (covers_nothing m _ (omega arith)))
  of_body (Body-F.If cond first (Some second)) here next =
      from_body (Body-F.If cond first.0 (Some second.0)) here next
      (λ source e.
      let m = source + 1 + (statement_extent first.0).points in
      covers_within _ (source + 1) (m + (statement_extent second.0).points) _ _ (covers_both _ _ (source + 1) m (m + (statement_extent second.0).points) (first.1 (source + 1) next) (second.1 m next)) (omega arith) (omega arith))
  of_body (Body-F.Case selector []) here next = from_body (Body-F.Case selector []) here next (λ source e. covers_nothing _ _ (omega arith))
  of_body (Body-F.Case selector (arm ∷ arms)) here next =
      from_body (Body-F.Case selector (arms_in (arm ∷ arms))) here next
      (λ source e.
      let behind = source + 1 + (arm_extent arm.0).points in
      let last = behind + (all_of (map arm_extent (arms_in arms))).points in
      covers_within _ source last _ _
      (covers_both _ _ source (source + 1) last (covers_way source (source + 1) (act.Arm selector (out-Arm arm.0).consts) (plain _ refl refl))
      (covers_both _ _ (source + 1) behind last (arm.1 (source + 1) next) (covers_arms selector source arms behind next))) (omega arith) (omega arith))
  of_body (Body-F.While cond body) here next = from_body (Body-F.While cond body.0) here next (λ source e. body.1 (source + 1) here)
  of_body (Body-F.Repeat body until cond) here next =
      from_body (Body-F.Repeat (statements body) until cond) here next
      (λ source e.
      let start = here + 1 + (statements_extent (statements body)).points in
      let many = points_of_laid plan (statements body) in
      let at = here + 1 + points_of (map (laid_statement plan) (statements body)) in
      let mid = at + length (expr_calls cond) in
      covers_within _ (here + 1) (mid + 1) _ _
      (covers_both _ _ (here + 1) at (mid + 1) (covers_within _ (here + 1) start (here + 1) at (covers_in_order body (here + 1) at) (omega arith) (omega (arith, many)))
      (covers_both _ _ at mid (mid + 1) (covers_calls (expr_calls cond) at) (covers_condition cond mid next (here + 1)))) (omega (arith, e)) (omega (arith, e, many)))
  of_body (Body-F.For control bound first down final body) here next =
      from_body (Body-F.For control bound first down final body.0) here next
      (λ source e.
      let step = source + 1 + (statement_extent body.0).points in
      covers_within _ (source + 1) (step + 1) _ _
      (covers_both _ _ (source + 1) step (step + 1) (body.1 (source + 1) step) (covers_two step (source + 1) next (act.Next control bound down) (act.Finish control bound down) refl refl refl)) (omega arith) (omega arith))

  of_arm : (y : Arm-F (With OfBody) (With OfArm) (With OfStatement)) → OfArm (roll-Arm (map-Arm (With OfBody) (With OfArm) (With OfStatement) Body Arm Statement (λ e. e.0) (λ e. e.0) (λ e. e.0) y))
  of_arm y here next =
      let d = map-Arm (With OfBody) (With OfArm) (With OfStatement) Body Arm Statement (λ e. e.0) (λ e. e.0) (λ e. e.0) y in
      let points = ap (λ (x : Extent). x.points) (fold-roll-Arm Extent Extent Extent body_extent_step (λ a. a.body) statement_extent_step d) in
      subst (λ p. Covers p here (here + (arm_extent (roll-Arm d)).points)) (sym (ap (λ (f : Placing). f here next) (para-roll-Arm Placing Placing Placing (body_step plan) (λ a. a.body.1) (statement_step plan) d)))
      (covers_within _ here (here + (statement_extent y.body.0).points) here (here + (arm_extent (roll-Arm d)).points) (y.body.1 here next) (omega arith) (omega (arith, points)))

  of_statement : (y : Statement-F (With OfBody) (With OfArm) (With OfStatement)) → OfStatement (roll-Statement (map-Statement (With OfBody) (With OfArm) (With OfStatement) Body Arm Statement (λ e. e.0) (λ e. e.0) (λ e. e.0) y))
  of_statement y here next =
      let d = map-Statement (With OfBody) (With OfArm) (With OfStatement) Body Arm Statement (λ e. e.0) (λ e. e.0) (λ e. e.0) y in
      let points = ap (λ (x : Extent). x.points) (fold-roll-Statement Extent Extent Extent body_extent_step (λ a. a.body) statement_extent_step d) in
      let last = here + 1 + (body_extent y.body.0).points in
      subst (λ p. Covers p here (here + (statement_extent (roll-Statement d)).points)) (sym (ap (λ (f : Placing). f here next) (para-roll-Statement Placing Placing Placing (body_step plan) (λ a. a.body.1) (statement_step plan) d)))
      (covers_within _ here last here (here + (statement_extent (roll-Statement d)).points) (covers_both _ _ here here last (covers_judged here _ here) (y.body.1 here next)) (omega arith) (omega (arith, points)))

  statement_covers : (s : Statement) (here next : ℕ) → Covers (statement_piece plan s here next) here (here + (statement_extent s).points)
  statement_covers =
      ind-Statement OfBody OfArm OfStatement
      (λ x y is. subst (λ z. OfBody (roll-Body z)) is (of_body y))
      (λ x y is. subst (λ z. OfArm (roll-Arm z)) is (of_arm y))
      (λ x y is. subst (λ z. OfStatement (roll-Statement z)) is (of_statement y))

  statements_covers : (body : List Statement) (here next : ℕ) → Covers (in_order plan (map (laid_statement plan) body) here next) here (here + (statements_extent body).points)
  statements_covers [] here next = covers_nothing here (here + 0) (omega arith)
  statements_covers (s ∷ body) here next =
      let behind = here + (statement_extent s).points in
      covers_within _ here (behind + (statements_extent body).points) here (here + (statements_extent (s ∷ body)).points)
      (covers_both _ _ here behind (behind + (statements_extent body).points) (statement_covers s here _) (statements_covers body behind next)) (omega arith) (omega arith)

  -- ---- routines

  part_covers : (result : Option ℕ) (entry exit : ℕ) (d : Body-F Body Arm Statement) → is_begin d ≡ true → Covers (part_piece plan result entry exit d) entry (entry + 1 + part_points d)
  part_covers result entry exit (Body-F.Begin body end) h =
      let last = entry + 1 + (statements_extent body).points in
      covers_both _ _ entry (entry + 1) last (covers_way entry (entry + 1) act.Skip (plain _ refl refl))
      (covers_both _ _ (entry + 1) last last (statements_covers body (entry + 1) exit) (covers_judged exit _ last))
  part_covers result entry exit Body-F.Empty h = absurd (true≢false (sym h))
  part_covers result entry exit (Body-F.Assign target value) h = absurd (true≢false (sym h))
  part_covers result entry exit (Body-F.Copy target array) h = absurd (true≢false (sym h))
  part_covers result entry exit (Body-F.Call routine actuals at) h = absurd (true≢false (sym h))
  part_covers result entry exit (Body-F.Read targets line) h = absurd (true≢false (sym h))
  part_covers result entry exit (Body-F.Write items line) h = absurd (true≢false (sym h))
  part_covers result entry exit (Body-F.Goto routine number) h = absurd (true≢false (sym h))
  part_covers result entry exit (Body-F.If cond first second) h = absurd (true≢false (sym h))
  part_covers result entry exit (Body-F.Case selector arms) h = absurd (true≢false (sym h))
  part_covers result entry exit (Body-F.While cond body) h = absurd (true≢false (sym h))
  part_covers result entry exit (Body-F.Repeat body until cond) h = absurd (true≢false (sym h))
  part_covers result entry exit (Body-F.For control bound first down final body) h = absurd (true≢false (sym h))

  routine_covers : (r : ℕ) (d : Routine) → is_outermost d.body ≡ true → Covers (routine_piece plan r d) (pieces.entry_of plan r) (pieces.entry_of plan r + 1 + routine_points d)
  routine_covers r d h = part_covers d.result (pieces.entry_of plan r) (pieces.exit_of plan r) (out-Body (out-Statement d.body).body) (and_parts (is_begin (out-Body (out-Statement d.body).body)) _ h).0

  pub routines_paired : (first : ℕ) (routines : List Routine) → ((k : ℕ) (d : Routine) → slice_get routines k ≡ Some d → is_outermost d.body ≡ true) → (n : ℕ) → ArePaired (routines_piece plan first routines n).edges
  routines_paired first [] o n = paired_none
  routines_paired first (d ∷ routines) o n =
      let front = routine_piece plan first d n in
      paired_both front.edges (routines_piece plan (suc first) routines (n + length front.edges)).edges ((routine_covers first d (o 0 d refl)).pairs n)
      (routines_paired (suc first) routines (λ k x e. o (suc k) x e) (n + length front.edges))

  pub routines_left : (first : ℕ) (routines : List Routine) → ((k : ℕ) (d : Routine) → slice_get routines k ≡ Some d → is_outermost d.body ≡ true)
      → (k : ℕ) (d : Routine) → slice_get routines k ≡ Some d → (r n q : ℕ) → r ≡ first + k → pieces.entry_of plan r ≤ q → q < pieces.entry_of plan r + 1 + routine_points d → IsLeft (routines_piece plan first routines n).edges q
  routines_left first [] o zero d e r n q is low high = absurd (none-some d e)
  routines_left first [] o (suc k) d e r n q is low high = absurd (none-some d e)
  routines_left first (x ∷ routines) o zero d e r n q is low high =
      let front = routine_piece plan first x n in
      let at : r ≡ first = omega (arith, is) in
      let covers = routine_covers first x (o 0 x refl) in
      left_front front.edges (routines_piece plan (suc first) routines (n + length front.edges)).edges q
      (covers.left n q (subst (λ m. pieces.entry_of plan m ≤ q) at low) (subst (λ m. q < pieces.entry_of plan m + 1 + routine_points x) at (subst (λ y. q < pieces.entry_of plan r + 1 + routine_points y) (sym (same_some e)) high)))
  routines_left first (x ∷ routines) o (suc k) d e r n q is low high =
      let front = routine_piece plan first x n in
      left_past front.edges (routines_piece plan (suc first) routines (n + length front.edges)).edges q
      (routines_left (suc first) routines (λ j y h. o (suc j) y h) k d e r (n + length front.edges) q (omega (arith, is)) low high)
