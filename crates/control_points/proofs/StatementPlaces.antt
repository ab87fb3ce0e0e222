-- Where the places of statements rise, two checks of one point and one kind have different places.
use Rattle.std.proofs.Common.{◌≡◌, inl, inr, ℕ, zero, suc, ◌+◌, ◌-◌, ◌<◌, ◌≤◌, Bool, true, false, List, [], ◌∷◌, ◌++◌, map, length, length-append, refl, sym, ap, subst, ◌∙◌, Option, Some, None, is_some, arith}
use Rattle.std.proofs.lemmas.Bool.{and_parts, true≢false}
use Rattle.std.proofs.lemmas.Option.{none-some}
use Rattle.std.specs.List.{slice_get, slice_index}
use Rattle.pas_program.proofs.Weaker.{With}
use Rattle.pas_program.specs.declared.expr.Access.{Access}
use Rattle.pas_program.specs.declared.expr.Expr.{Expr}
use Rattle.pas_program.specs.declared.routine.Assert.{Assert}
use Rattle.pas_program.specs.declared.routine.Routine.{Routine}
use Rattle.pas_program.specs.declared.statement.Arm.{Arm}
use Rattle.pas_program.specs.declared.statement.Body.{Body}
use Rattle.pas_program.specs.declared.statement.Body.TheOpen.{Arm-F, Body-F, Statement-F}
use Rattle.pas_program.specs.declared.statement.Body.TheFolds.{fold-Arm, fold-Body, fold-roll-Arm, fold-roll-Body, fold-roll-Statement, fold_out-Body, fold_out-Statement, ind-Statement, map-Arm, map-Body, map-Statement, para-roll-Arm, para-roll-Body, para-roll-Statement}
use Rattle.pas_program.specs.declared.statement.Body.TheViews.{out-Arm, out-Body, out-Statement, roll-Arm, roll-Body, roll-Statement}
use Rattle.pas_program.specs.declared.statement.Statement.{Statement}
use Rattle.pas_program.specs.declared.statement.WriteItem.{WriteItem}
use Rattle.pas_program.specs.Each.{all_true}
use Rattle.pas_program.specs.Rising.{Part, PlacesRise, access_part, actual_part, arm_step, before, conditions_part, expr_part, in_turn, item_part, rises, statement_rises}
use Rattle.pas_program.specs.Rising as rising
use Rattle.pas_program.specs.Scopes.{is_outermost}
use Rattle.control_points.specs.declared.check.Check.{Check}
use Rattle.control_points.specs.declared.edge.Act.{Act}
use Rattle.control_points.specs.declared.edge.Act.TheVariants as act
use Rattle.control_points.specs.declared.fault.Fault.{Fault}
use Rattle.control_points.specs.declared.flow.Flow.{Flow}
use Rattle.control_points.specs.declared.point.PointKind.TheVariants as kind
use Rattle.control_points.specs.Called.{calls_of}
use Rattle.control_points.specs.Calls.{CallSite, Sites, access_calls, expr_calls, item_calls}
use Rattle.control_points.specs.Checking.{Faults, assert_checks, formals_of}
use Rattle.control_points.specs.Edges.{Placing, arm_piece, arms_from, body_piece, body_step, in_order, inner_piece, laid_arm, laid_body, laid_statement, own_piece, part_piece, plan_of, points_of, routine_piece, routines_piece, statement_piece, statement_step}
use Rattle.control_points.specs.Evaluation.{access_type, var_type}
use Rattle.control_points.specs.Extents.{Extent, all_of, arm_extent, body_extent, body_extent_step, inner_extent, read_points, statement_extent, statement_extent_step, statements_extent, total, write_points}
use Rattle.control_points.specs.Judging.{check_of, checks_at}
use Rattle.control_points.specs.Marks.{mark, part_marks, routine_marks, routines_marks, starts, statements_marks}
use Rattle.control_points.specs.Pieces.{Piece, Plan, both, judged, line_act, no_arms, nothing, procedure_call, turns, way}
use Rattle.control_points.specs.Pieces as pieces
use Rattle.control_points.proofs.ActionPlaces.{AreSettled, Asserts, IsAsserted, all_assert, is_assertion, settled_bounds, settled_read, settled_result, told_assignment, told_copy, told_expr, told_item, told_passing, told_selector, told_settled}
use Rattle.control_points.proofs.Blocks.{starts_first}
use Rattle.control_points.proofs.ExprPlaces.{Differ}
use Rattle.control_points.proofs.Inside.{statements_inside}
use Rattle.control_points.proofs.Laying.{points_of_laid}
use Rattle.control_points.proofs.Listed.{get_either}
use Rattle.control_points.proofs.OwnCalls.{calls_mapped}
use Rattle.control_points.proofs.PathsRoutines.{AllOutermost, begins}
use Rattle.control_points.proofs.SitePlaces.{SiteRises, SitesRise, access_sites, actuals_sites, assignment_sites, bounds_sites, copy_sites, expr_sites, first_site, item_sites, later_sites, no_sites}
use Rattle.control_points.proofs.Whole.{mapped_found}

-- ---- lists of checks

-- Of points from low on and before high. None of a point before bar is of an assertion.
pub record AreDistinct (checks : List Check) (bar low high : ℕ) : Type 0 where
  pub order : low ≤ high
  pub own : (k : ℕ) (c : Check) → slice_get checks k ≡ Some c → (low ≤ c.point) × (c.point < high)
  pub quiet : (k : ℕ) (c : Check) → slice_get checks k ≡ Some c → c.point < bar → is_assertion c.kind ≡ false
  pub differ : (j k : ℕ) (c d : Check) → slice_get checks j ≡ Some c → slice_get checks k ≡ Some d → c.point ≡ d.point → c.kind ≡ d.kind → c.at ≡ d.at → j ≡ k

no_check : (k : ℕ) (c : Check) → slice_get [] k ≡ Some c → ⊥
no_check zero c h = none-some c h
no_check (suc k) c h = none-some c h

none_distinct : (bar low high : ℕ) → low ≤ high → AreDistinct [] bar low high
none_distinct bar low high h = record { order = h; own = λ k c x. absurd (no_check k c x); quiet = λ k c x b. absurd (no_check k c x); differ = λ j k c d x y p s a. absurd (no_check j c x) }

module _ (xs ys : List Check) where
  differ_joined : ((j k : ℕ) (c d : Check) → slice_get xs j ≡ Some c → slice_get xs k ≡ Some d → c.point ≡ d.point → c.kind ≡ d.kind → c.at ≡ d.at → j ≡ k)
      → ((j k : ℕ) (c d : Check) → slice_get ys j ≡ Some c → slice_get ys k ≡ Some d → c.point ≡ d.point → c.kind ≡ d.kind → c.at ≡ d.at → j ≡ k)
      → ((j k : ℕ) (c d : Check) → slice_get xs j ≡ Some c → slice_get ys k ≡ Some d → c.point ≡ d.point → c.kind ≡ d.kind → ⊥)
      → (j k : ℕ) (c d : Check) → slice_get (xs ++ ys) j ≡ Some c → slice_get (xs ++ ys) k ≡ Some d → c.point ≡ d.point → c.kind ≡ d.kind → c.at ≡ d.at → j ≡ k
  differ_joined first second others j k c d g h point same at =
      elim (get_either xs ys j c g) [
        | inl x ↦ elim (get_either xs ys k d h) [
          | inl y ↦ first j k c d x y point same at
          | inr y ↦ absurd (others j (k - length xs) c d x y.1 point same)
        ]
        | inr x ↦ elim (get_either xs ys k d h) [
          | inl y ↦ absurd (others k (j - length xs) d c y x.1 (sym point) (sym same))
          | inr y ↦ omega (arith, x.0, y.0, second (j - length xs) (k - length xs) c d x.1 y.1 point same at)
        ]
      ]

  distinct_joined : (bar low mid high : ℕ) → AreDistinct xs bar low mid → AreDistinct ys bar mid high → AreDistinct (xs ++ ys) bar low high
  distinct_joined bar low mid high p q = record {
    order = omega (arith, p.order, q.order);
    own = λ k c h. elim (get_either xs ys k c h) [
      | inl x ↦ let w = p.own k c x in (w.0, omega (arith, w.1, q.order))
      | inr x ↦ let w = q.own (k - length xs) c x.1 in (omega (arith, w.0, p.order), w.1)
    ];
    quiet = λ k c h b. elim (get_either xs ys k c h) [ inl x ↦ p.quiet k c x b | inr x ↦ q.quiet (k - length xs) c x.1 b ];
    differ = differ_joined p.differ q.differ (λ j k c d x y point same. absurd (omega (arith, point, (p.own j c x).1, (q.own k d y).0)));
  }

-- the checks of one point
module _ (point : ℕ) (fs : Faults) where
  check_point : (k : ℕ) (c : Check) → slice_get (checks_at point fs) k ≡ Some c → c.point ≡ point
  check_point k c h = let x = mapped_found (check_of point) fs k c h in ap (λ (d : Check). d.point) (sym x.2)

  each_check : (P : Fault → Type 0) (Q : Check → Type 0) → ((f : Fault) → P f → Q (check_of point f)) → ((k : ℕ) (f : Fault) → slice_get fs k ≡ Some f → P f) → (k : ℕ) (c : Check) → slice_get (checks_at point fs) k ≡ Some c → Q c
  each_check P Q f all k c h = let x = mapped_found (check_of point) fs k c h in subst Q x.2 (f x.0 (all k x.0 x.1))

  check_differ : Differ fs → (j k : ℕ) (c d : Check) → slice_get (checks_at point fs) j ≡ Some c → slice_get (checks_at point fs) k ≡ Some d → c.point ≡ d.point → c.kind ≡ d.kind → c.at ≡ d.at → j ≡ k
  check_differ differ j k c d g h points same at =
      let x = mapped_found (check_of point) fs j c g in
      let y = mapped_found (check_of point) fs k d h in
      differ j k x.0 y.0 x.1 y.1 (ap (λ (z : Check). z.kind) x.2 ∙ same ∙ ap (λ (z : Check). z.kind) (sym y.2)) (ap (λ (z : Check). z.at) x.2 ∙ at ∙ ap (λ (z : Check). z.at) (sym y.2))

  settled_distinct : AreSettled fs → (bar : ℕ) → AreDistinct (checks_at point fs) bar point (point + 1)
  settled_distinct s bar = record {
    order = omega arith;
    own = λ k c h. let at = check_point k c h in (omega (arith, at), omega (arith, at));
    quiet = λ k c h b. each_check (λ f. is_assertion f.kind ≡ false) (λ d. is_assertion d.kind ≡ false) (λ f x. x) s.quiet k c h;
    differ = check_differ s.differ;
  }

  -- assertions before others of the point
  asserted_distinct : (ys : List Check) (least most high : ℕ) → Asserts fs least most → point < high → AreDistinct ys (point + 1) point high → AreDistinct (checks_at point fs ++ ys) 0 point high
  asserted_distinct ys least most high a above q =
      let loud = each_check IsAsserted (λ d. is_assertion d.kind ≡ true) (λ f x. x) a.loud in
      let xs = checks_at point fs in
      record {
        order = q.order;
        own = λ k c h. elim (get_either xs ys k c h) [
          | inl x ↦ let at = check_point k c x in (omega (arith, at), omega (arith, at, above))
          | inr x ↦ q.own (k - length xs) c x.1
        ];
        quiet = λ k c h b. absurd (omega (arith, b));
        differ = differ_joined xs ys (check_differ (a.apart).differ) q.differ
            (λ j k c d x y same alike. absurd (true≢false (sym (loud j c x) ∙ ap is_assertion alike ∙ q.quiet k d y (omega (arith, same, check_point j c x)))));
      }

-- ---- pieces

-- the same of a piece, behind any number of edges
pub record Distinct (p : Piece) (bar low high : ℕ) : Type 0 where
  pub checks : (n : ℕ) → AreDistinct (p n).checks bar low high

module _ (bar : ℕ) where
  distinct_nothing : (low high : ℕ) → low ≤ high → Distinct nothing bar low high
  distinct_nothing low high h = record { checks = λ n. none_distinct bar low high h }

  distinct_way : (source target : ℕ) (a : Act) (low : ℕ) → Distinct (way source a target) bar low low
  distinct_way source target a low = record { checks = λ n. none_distinct bar low low (omega arith) }

  distinct_both : (p q : Piece) (low mid high : ℕ) → Distinct p bar low mid → Distinct q bar mid high → Distinct (both p q) bar low high
  distinct_both p q low mid high f g = record { checks = λ n. distinct_joined (p n).checks (q (n + length (p n).edges)).checks bar low mid high (f.checks n) (g.checks (n + length (p n).edges)) }

  distinct_ways : (p q : ℕ) (s u : ℕ) (a b : Act) (low : ℕ) → Distinct (both (way p a s) (way q b u)) bar low low
  distinct_ways p q s u a b low = distinct_both (way p a s) (way q b u) low low low (distinct_way p s a low) (distinct_way q u b low)

  distinct_judged : (point : ℕ) (fs : Faults) → AreSettled fs → Distinct (judged point fs) bar point (point + 1)
  distinct_judged point fs s = record { checks = λ n. settled_distinct point fs s bar }

  -- with what has no checks behind it
  distinct_act : (p : Piece) (point : ℕ) (fs : Faults) → AreSettled fs → Distinct p bar (point + 1) (point + 1) → Distinct (both (judged point fs) p) bar point (point + 1)
  distinct_act p point fs s q = distinct_both (judged point fs) p point (point + 1) (point + 1) (distinct_judged point fs s) q

  distinct_within : (p : Piece) (low high first last : ℕ) → Distinct p bar low high → first ≤ low → high ≤ last → Distinct p bar first last
  distinct_within p low high first last f a b = record {
    checks = λ n. record {
      order = omega (arith, a, b, (f.checks n).order);
      own = λ k c h. let w = (f.checks n).own k c h in (omega (arith, a, w.0), omega (arith, b, w.1));
      quiet = (f.checks n).quiet;
      differ = (f.checks n).differ;
    };
  }

  -- behind the bar
  distinct_behind : (p : Piece) (low high : ℕ) → bar ≤ low → Distinct p 0 low high → Distinct p bar low high
  distinct_behind p low high h f = record {
    checks = λ n. record { order = (f.checks n).order; own = (f.checks n).own; quiet = λ k c x b. absurd (omega (arith, h, b, ((f.checks n).own k c x).0)); differ = (f.checks n).differ };
  }

distinct_asserted : (p : Piece) (point : ℕ) (fs : Faults) (least most high : ℕ) → Asserts fs least most → point < high → Distinct p (point + 1) point high → Distinct (both (judged point fs) p) 0 point high
distinct_asserted p point fs least most high a above f = record { checks = λ n. asserted_distinct point fs (p (n + 0)).checks least most high a above (f.checks (n + 0)) }

-- ---- what rises

rises_to : (part : Part) → rises part ≡ true → (most : ℕ) × (part 0 ≡ Some most)
rises_to part h = found (part 0) refl h
  where
    found : (o : Option ℕ) → part 0 ≡ o → is_some o ≡ true → (most : ℕ) × (part 0 ≡ Some most)
    found None e x = absurd (true≢false (sym x))
    found (Some most) e x = (most, e)

abbrev body_rises : List Assert → Body → Bool
body_rises asserts = fold-Body Bool Bool Bool rising.body_step arm_step (rising.statement_step asserts)

abbrev arm_rises : List Assert → Arm → Bool
arm_rises asserts = fold-Arm Bool Bool Bool rising.body_step arm_step (rising.statement_step asserts)

-- the expressions of a statement's own action
abbrev own_rises : Body-F Body Arm Statement → Bool
own_rises (Body-F.Assign target value) = rises (before (access_part target) (expr_part value))
own_rises (Body-F.Copy target source) = rises (before (access_part target) (access_part source))
own_rises (Body-F.Call routine actuals at) = rises (in_turn (map actual_part actuals))
own_rises (Body-F.Read targets line) = all_true (map (λ a. rises (access_part a)) targets)
own_rises (Body-F.Write items line) = all_true (map (λ item. rises (item_part item)) items)
own_rises (Body-F.If cond first second) = rises (expr_part cond)
own_rises (Body-F.Case selector arms) = rises (expr_part selector)
own_rises (Body-F.While cond body) = rises (expr_part cond)
own_rises (Body-F.For control bound first down last body) = rises (before (expr_part first) (expr_part last))
own_rises _ = true

-- the points that its action leaves, but for one
abbrev more_points : Body-F Body Arm Statement → ℕ
more_points (Body-F.Read targets line) = total (map read_points targets)
more_points (Body-F.Write items line) = total (map write_points items)
more_points _ = 0

abbrev extents_in : Body-F Body Arm Statement → Body-F Extent Extent Extent
extents_in = map-Body Body Arm Statement Extent Extent Extent body_extent arm_extent statement_extent

module _ (plan : Plan) (bar : ℕ) where
  distinct_call : (c : CallSite) (source back : ℕ) → SiteRises c → Distinct (pieces.call plan c source back) bar source (source + 1)
  distinct_call c source back s =
      let formals = formals_of (plan.tables.head_at c.routine) in
      distinct_act bar (pieces.call_ways plan c source back) source _ (told_settled _ s.least s.most (told_passing plan.tables c.actuals formals s.least s.most s.rise))
      (record { checks = λ n. none_distinct bar (source + 1) (source + 1) (omega arith) })

  distinct_calls : (sites : Sites) (source : ℕ) → SitesRise sites → Distinct (pieces.calls plan sites source) bar source (source + length sites)
  distinct_calls [] source s = distinct_nothing bar source (source + 0) (omega arith)
  distinct_calls (c ∷ sites) source s =
      distinct_within bar _ source (source + 1 + length sites) source (source + suc (length sites))
      (distinct_both bar _ _ source (source + 1) (source + 1 + length sites) (distinct_call c source (source + 1) (first_site c sites s)) (distinct_calls sites (source + 1) (later_sites c sites s))) (omega arith) (omega arith)

  distinct_condition : (cond : Expr) (here held failed : ℕ) → rises (expr_part cond) ≡ true → Distinct (pieces.condition plan cond here held failed) bar here (here + 1)
  distinct_condition cond here held failed h =
      let r = rises_to (expr_part cond) h in
      distinct_act bar _ here _ (told_settled _ 0 r.0 (told_expr plan.tables cond 0 r.0 r.1)) (distinct_ways bar here here held failed (act.Test cond true) (act.Test cond false) (here + 1))

  distinct_reads : (targets : List Access) (end : Act) (source next : ℕ) → all_true (map (λ a. rises (access_part a)) targets) ≡ true → Distinct (pieces.reads plan targets end source next) bar source (source + (1 + total (map read_points targets)))
  distinct_reads [] end source next h = distinct_within bar _ source source source (source + (1 + 0)) (distinct_way bar source next end source) (omega arith) (omega arith)
  distinct_reads (a ∷ targets) end source next h =
      let behind = source + read_points a in
      let here = source + length (access_calls a) in
      let p = and_parts (rises (access_part a)) _ h in
      let r = rises_to (access_part a) p.0 in
      let one = distinct_within bar _ source (here + 1) source behind
      (distinct_both bar _ _ source here (here + 1) (distinct_calls (access_calls a) source (access_sites a 0 r.0 r.1))
      (distinct_act bar _ here _ (settled_read plan.tables (access_type plan.tables a) a 0 r.0 r.1) (distinct_way bar here (here + 1) (act.Read a) (here + 1)))) (omega arith) (omega arith) in
      distinct_within bar _ source (behind + (1 + total (map read_points targets))) source (source + (1 + total (map read_points (a ∷ targets))))
      (distinct_both bar _ _ source behind (behind + (1 + total (map read_points targets))) one (distinct_reads targets end behind next p.1)) (omega arith) (omega arith)

  distinct_writes : (items : List WriteItem) (end : Act) (source next : ℕ) → all_true (map (λ item. rises (item_part item)) items) ≡ true → Distinct (pieces.writes plan items end source next) bar source (source + (1 + total (map write_points items)))
  distinct_writes [] end source next h = distinct_within bar _ source source source (source + (1 + 0)) (distinct_way bar source next end source) (omega arith) (omega arith)
  distinct_writes (item ∷ items) end source next h =
      let behind = source + write_points item in
      let here = source + length (item_calls item) in
      let p = and_parts (rises (item_part item)) _ h in
      let r = rises_to (item_part item) p.0 in
      let one = distinct_within bar _ source (here + 1) source behind
      (distinct_both bar _ _ source here (here + 1) (distinct_calls (item_calls item) source (item_sites item 0 r.0 r.1))
      (distinct_act bar _ here _ (told_settled _ 0 r.0 (told_item plan.tables item 0 r.0 r.1)) (distinct_way bar here (here + 1) (act.Write item) (here + 1)))) (omega arith) (omega arith) in
      distinct_within bar _ source (behind + (1 + total (map write_points items))) source (source + (1 + total (map write_points (item ∷ items))))
      (distinct_both bar _ _ source behind (behind + (1 + total (map write_points items))) one (distinct_writes items end behind next p.1)) (omega arith) (omega arith)

  -- an action without checks
  distinct_plain : (source target : ℕ) (a : Act) → Distinct (way source a target) bar source (source + 1)
  distinct_plain source target a = distinct_within bar _ source source source (source + 1) (distinct_way bar source target a source) (omega arith) (omega arith)

  distinct_no_arms : (arms : List (Arm × Placing)) (selector : Expr) (here next low : ℕ) → Distinct (no_arms arms selector here next) bar low low
  distinct_no_arms [] selector here next low = distinct_way bar here next (act.Arm selector []) low
  distinct_no_arms (arm ∷ arms) selector here next low = distinct_nothing bar low low (omega arith)

  -- the action of a statement
  own_distinct : (d : Body-F Body Arm Statement) (source next : ℕ) → own_rises d ≡ true → Distinct (own_piece plan (laid_body plan d) source next) bar source (source + (1 + more_points d))
  own_distinct Body-F.Empty source next h = distinct_plain source next act.Skip
  own_distinct (Body-F.Assign target value) source next h =
      let r = rises_to (before (access_part target) (expr_part value)) h in
      distinct_act bar _ source _ (told_settled _ 0 r.0 (told_assignment plan.tables target value 0 r.0 r.1)) (distinct_way bar source next (act.Assign target value) (source + 1))
  own_distinct (Body-F.Copy target array) source next h =
      let r = rises_to (before (access_part target) (access_part array)) h in
      distinct_act bar _ source _ (told_settled _ 0 r.0 (told_copy plan.tables target array 0 r.0 r.1)) (distinct_way bar source next (act.Copy target array) (source + 1))
  own_distinct (Body-F.Call routine actuals at) source next h =
      let r = rises_to (in_turn (map actual_part actuals)) h in
      distinct_call (procedure_call routine actuals at) source next (record { least = 0; most = r.0; rise = r.1 })
  own_distinct (Body-F.Read targets line) source next h = distinct_reads targets (line_act line act.DropLine) source next h
  own_distinct (Body-F.Write items line) source next h = distinct_writes items (line_act line act.EndLine) source next h
  own_distinct (Body-F.Goto routine number) source next h = distinct_plain source (plan.label routine number) (act.Goto routine)
  own_distinct (Body-F.Begin body end) source next h = distinct_plain source (source + 1) act.Skip
  own_distinct (Body-F.If cond first second) source next h = distinct_condition cond source (source + 1) _ h
  own_distinct (Body-F.Case selector arms) source next h =
      let r = rises_to (expr_part selector) h in
      distinct_act bar _ source _ (told_settled _ 0 r.0 (told_selector plan.tables selector 0 r.0 r.1)) (distinct_no_arms (map (laid_arm plan) arms) selector source next (source + 1))
  own_distinct (Body-F.While cond body) source next h = distinct_condition cond source (source + 1) next h
  own_distinct (Body-F.Repeat body until cond) source next h = distinct_plain source (source + 1) act.Skip
  own_distinct (Body-F.For control bound first down final body) source next h =
      let r = rises_to (before (expr_part first) (expr_part final)) h in
      distinct_act bar _ source _ (settled_bounds plan.tables (var_type plan.tables control) first final 0 r.0 r.1)
      (distinct_ways bar source source (source + 1) next (act.Enter control bound first down final) (act.Bypass control bound first down final) (source + 1))

  -- and its calls
  own_sites : (d : Body-F Body Arm Statement) → own_rises d ≡ true → SitesRise (calls_of (laid_body plan d))
  own_sites Body-F.Empty h = no_sites
  own_sites (Body-F.Assign target value) h = let r = rises_to (before (access_part target) (expr_part value)) h in assignment_sites target value 0 r.0 r.1
  own_sites (Body-F.Copy target array) h = let r = rises_to (before (access_part target) (access_part array)) h in copy_sites target array 0 r.0 r.1
  own_sites (Body-F.Call routine actuals at) h = let r = rises_to (in_turn (map actual_part actuals)) h in actuals_sites actuals 0 r.0 r.1
  own_sites (Body-F.Read targets line) h = no_sites
  own_sites (Body-F.Write items line) h = no_sites
  own_sites (Body-F.Goto routine number) h = no_sites
  own_sites (Body-F.Begin body end) h = no_sites
  own_sites (Body-F.If cond first second) h = let r = rises_to (expr_part cond) h in expr_sites cond 0 r.0 r.1
  own_sites (Body-F.Case selector arms) h = let r = rises_to (expr_part selector) h in expr_sites selector 0 r.0 r.1
  own_sites (Body-F.While cond body) h = let r = rises_to (expr_part cond) h in expr_sites cond 0 r.0 r.1
  own_sites (Body-F.Repeat body until cond) h = no_sites
  own_sites (Body-F.For control bound first down final body) h = let r = rises_to (before (expr_part first) (expr_part final)) h in bounds_sites first final 0 r.0 r.1

-- ---- statements

module _ (plan : Plan) where
  abbrev OfBody : Body → Type 0
  OfBody b = body_rises plan.asserts b ≡ true → (here next : ℕ) → Distinct (body_piece plan b here next) (here + 1) here (here + 1 + (body_extent b).points)

  abbrev OfArm : Arm → Type 0
  OfArm a = arm_rises plan.asserts a ≡ true → (here next : ℕ) → Distinct (arm_piece plan a here next) 0 here (here + (arm_extent a).points)

  abbrev OfStatement : Statement → Type 0
  OfStatement s = statement_rises plan.asserts s ≡ true → (here next : ℕ) → Distinct (statement_piece plan s here next) 0 here (here + (statement_extent s).points)

  abbrev statements : List (With OfStatement) → List Statement
  statements ys = map (λ (y : With OfStatement). y.0) ys

  abbrev arms_in : List (With OfArm) → List Arm
  arms_in ys = map (λ (y : With OfArm). y.0) ys

  distinct_in_order : (ys : List (With OfStatement)) (here next : ℕ) → all_true (map (statement_rises plan.asserts) (statements ys)) ≡ true
      → Distinct (in_order plan (map (laid_statement plan) (statements ys)) here next) 0 here (here + (statements_extent (statements ys)).points)
  distinct_in_order [] here next h = distinct_nothing 0 here (here + 0) (omega arith)
  distinct_in_order (y ∷ ys) here next h =
      let p = and_parts (statement_rises plan.asserts y.0) _ h in
      let behind = here + (statement_extent y.0).points in
      distinct_within 0 _ here (behind + (statements_extent (statements ys)).points) here (here + (statements_extent (statements (y ∷ ys))).points)
      (distinct_both 0 _ _ here behind (behind + (statements_extent (statements ys)).points) (y.1 p.0 here _) (distinct_in_order ys behind next p.1)) (omega arith) (omega arith)

  distinct_arms : (selector : Expr) (source : ℕ) (ys : List (With OfArm)) (here next : ℕ) → all_true (map (arm_rises plan.asserts) (arms_in ys)) ≡ true
      → Distinct (arms_from plan selector source (map (laid_arm plan) (arms_in ys)) here next) 0 here (here + (all_of (map arm_extent (arms_in ys))).points)
  distinct_arms selector source [] here next h = distinct_nothing 0 here (here + 0) (omega arith)
  distinct_arms selector source (y ∷ ys) here next h =
      let p = and_parts (arm_rises plan.asserts y.0) _ h in
      let behind = here + (arm_extent y.0).points in
      let last = behind + (all_of (map arm_extent (arms_in ys))).points in
      distinct_within 0 _ here last here (here + (all_of (map arm_extent (arms_in (y ∷ ys)))).points)
      (distinct_both 0 _ _ here here last (distinct_way 0 source here (act.Arm selector (out-Arm y.0).consts) here)
      (distinct_both 0 _ _ here behind last (y.1 p.0 here next) (distinct_arms selector source ys behind next p.1))) (omega arith) (omega arith)

  from_body : (d : Body-F Body Arm Statement) (here next : ℕ) → own_rises d ≡ true
      → ((source : ℕ) → source ≡ here + length (calls_of (laid_body plan d)) → Distinct (inner_piece plan (laid_body plan d) source here next) 0 (source + (1 + more_points d)) (source + 1 + (inner_extent (extents_in d)).points))
      → Distinct (body_piece plan (roll-Body d) here next) (here + 1) here (here + 1 + (body_extent (roll-Body d)).points)
  from_body d here next rise inner =
      let bar = here + 1 in
      let sites = calls_of (laid_body plan d) in
      let source = here + length sites in
      let mid = source + (1 + more_points d) in
      let last = source + 1 + (inner_extent (extents_in d)).points in
      let many : length sites ≡ length (calls_of (extents_in d)) =
      ap length (calls_mapped (λ b. (b, body_piece plan b)) (laid_arm plan) (laid_statement plan) d ∙ sym (calls_mapped body_extent arm_extent statement_extent d)) in
      let points : (body_extent (roll-Body d)).points ≡ length (calls_of (extents_in d)) + (inner_extent (extents_in d)).points =
      ap (λ (x : Extent). x.points) (fold-roll-Body Extent Extent Extent body_extent_step (λ a. a.body) statement_extent_step d) in
      let drawn = distinct_both bar (pieces.calls plan sites here) (both (own_piece plan (laid_body plan d) source next) (inner_piece plan (laid_body plan d) source here next)) here source last
      (distinct_calls plan bar sites here (own_sites plan bar d rise))
      (distinct_both bar (own_piece plan (laid_body plan d) source next) (inner_piece plan (laid_body plan d) source here next) source mid last (own_distinct plan bar d source next rise)
      (distinct_behind bar (inner_piece plan (laid_body plan d) source here next) mid last (omega arith) (inner source refl))) in
      subst (λ p. Distinct p bar here (here + 1 + (body_extent (roll-Body d)).points)) (sym (ap (λ (f : Placing). f here next) (para-roll-Body Placing Placing Placing (body_step plan) (λ a. a.body.1) (statement_step plan) d)))
      (distinct_within bar _ here last here (here + 1 + (body_extent (roll-Body d)).points) drawn (omega arith) (omega (arith, many, points)))

  to_body : (d : Body-F Body Arm Statement) → body_rises plan.asserts (roll-Body d) ≡ true → rising.body_step (map-Body Body Arm Statement Bool Bool Bool (body_rises plan.asserts) (arm_rises plan.asserts) (statement_rises plan.asserts) d) ≡ true
  to_body d h = sym (fold-roll-Body Bool Bool Bool rising.body_step arm_step (rising.statement_step plan.asserts) d) ∙ h

  -- a statement without inner ones
  plain_body : (d : Body-F Body Arm Statement) (here next : ℕ) → own_rises d ≡ true → ((source : ℕ) → inner_piece plan (laid_body plan d) source here next ≡ nothing) → more_points d ≤ (inner_extent (extents_in d)).points
      → Distinct (body_piece plan (roll-Body d) here next) (here + 1) here (here + 1 + (body_extent (roll-Body d)).points)
  plain_body d here next rise none few =
      from_body d here next rise
      (λ source e. subst (λ p. Distinct p 0 (source + (1 + more_points d)) (source + 1 + (inner_extent (extents_in d)).points)) (sym (none source)) (distinct_nothing 0 _ _ (omega (arith, few))))

  of_body : (y : Body-F (With OfBody) (With OfArm) (With OfStatement)) → OfBody (roll-Body (map-Body (With OfBody) (With OfArm) (With OfStatement) Body Arm Statement (λ e. e.0) (λ e. e.0) (λ e. e.0) y))
  of_body Body-F.Empty h here next = plain_body Body-F.Empty here next refl (λ source. refl) (omega arith)
  of_body (Body-F.Assign target value) h here next = let d = Body-F.Assign target value in plain_body d here next (to_body d h) (λ source. refl) (omega arith)
  of_body (Body-F.Copy target array) h here next = let d = Body-F.Copy target array in plain_body d here next (to_body d h) (λ source. refl) (omega arith)
  of_body (Body-F.Call routine actuals at) h here next = let d = Body-F.Call routine actuals at in plain_body d here next (to_body d h) (λ source. refl) (omega arith)
  of_body (Body-F.Read targets line) h here next = let d = Body-F.Read targets line in plain_body d here next (to_body d h) (λ source. refl) (omega arith)
  of_body (Body-F.Write items line) h here next = let d = Body-F.Write items line in plain_body d here next (to_body d h) (λ source. refl) (omega arith)
  of_body (Body-F.Goto routine number) h here next = plain_body (Body-F.Goto routine number) here next refl (λ source. refl) (omega arith)
  of_body (Body-F.Begin body end) h here next =
      from_body (Body-F.Begin (statements body) end) here next refl
      (λ source e. distinct_in_order body (source + 1) next (to_body (Body-F.Begin (statements body) end) h))
  of_body (Body-F.If cond first None) h here next =
      let p = and_parts (rises (expr_part cond)) _ (to_body (Body-F.If cond first.0 None) h) in
      let q = and_parts (statement_rises plan.asserts first.0) _ p.1 in
      from_body (Body-F.If cond first.0 None) here next p.0
      (λ source e. let m = source + 1 + (statement_extent first.0).points in distinct_both 0 _ _ (source + 1) m _ (first.1 q.0 (source + 1) next) (distinct_nothing 0 m _ (omega arith)))
  of_body (Body-F.If cond first (Some second)) h here next =
      let p = and_parts (rises (expr_part cond)) _ (to_body (Body-F.If cond first.0 (Some second.0)) h) in
      let q = and_parts (statement_rises plan.asserts first.0) _ p.1 in
      from_body (Body-F.If cond first.0 (Some second.0)) here next p.0
      (λ source e.
      let m = source + 1 + (statement_extent first.0).points in
      distinct_within 0 _ (source + 1) (m + (statement_extent second.0).points) _ _ (distinct_both 0 _ _ (source + 1) m (m + (statement_extent second.0).points) (first.1 q.0 (source + 1) next) (second.1 q.1 m next)) (omega arith) (omega arith))
  of_body (Body-F.Case selector arms) h here next =
      let p = and_parts (rises (expr_part selector)) _ (to_body (Body-F.Case selector (arms_in arms)) h) in
      from_body (Body-F.Case selector (arms_in arms)) here next p.0 (λ source e. distinct_arms selector source arms (source + 1) next p.1)
  of_body (Body-F.While cond body) h here next =
      let p = and_parts (rises (expr_part cond)) _ (to_body (Body-F.While cond body.0) h) in
      from_body (Body-F.While cond body.0) here next p.0 (λ source e. body.1 p.1 (source + 1) here)
  of_body (Body-F.Repeat body until cond) h here next =
      let p = and_parts (all_true (map (statement_rises plan.asserts) (statements body))) _ (to_body (Body-F.Repeat (statements body) until cond) h) in
      let r = rises_to (expr_part cond) p.1 in
      from_body (Body-F.Repeat (statements body) until cond) here next refl
      (λ source e.
      let start = here + 1 + (statements_extent (statements body)).points in
      let many = points_of_laid plan (statements body) in
      let at = here + 1 + points_of (map (laid_statement plan) (statements body)) in
      let mid = at + length (expr_calls cond) in
      distinct_within 0 _ (here + 1) (mid + 1) _ _
      (distinct_both 0 _ _ (here + 1) at (mid + 1) (distinct_within 0 _ (here + 1) start (here + 1) at (distinct_in_order body (here + 1) at p.0) (omega arith) (omega (arith, many)))
      (distinct_both 0 _ _ at mid (mid + 1) (distinct_calls plan 0 (expr_calls cond) at (expr_sites cond 0 r.0 r.1)) (distinct_condition plan 0 cond mid next (here + 1) p.1))) (omega (arith, e)) (omega (arith, e, many)))
  of_body (Body-F.For control bound first down final body) h here next =
      let p = and_parts (rises (before (expr_part first) (expr_part final))) _ (to_body (Body-F.For control bound first down final body.0) h) in
      from_body (Body-F.For control bound first down final body.0) here next p.0
      (λ source e.
      let step = source + 1 + (statement_extent body.0).points in
      distinct_within 0 _ (source + 1) step _ _
      (distinct_both 0 _ _ (source + 1) step step (body.1 p.1 (source + 1) step) (distinct_ways 0 step step (source + 1) next (act.Next control bound down) (act.Finish control bound down) step)) (omega arith) (omega arith))

  of_arm : (y : Arm-F (With OfBody) (With OfArm) (With OfStatement)) → OfArm (roll-Arm (map-Arm (With OfBody) (With OfArm) (With OfStatement) Body Arm Statement (λ e. e.0) (λ e. e.0) (λ e. e.0) y))
  of_arm y h here next =
      let d = map-Arm (With OfBody) (With OfArm) (With OfStatement) Body Arm Statement (λ e. e.0) (λ e. e.0) (λ e. e.0) y in
      let points = ap (λ (x : Extent). x.points) (fold-roll-Arm Extent Extent Extent body_extent_step (λ a. a.body) statement_extent_step d) in
      let rise = sym (fold-roll-Arm Bool Bool Bool rising.body_step arm_step (rising.statement_step plan.asserts) d) ∙ h in
      subst (λ p. Distinct p 0 here (here + (arm_extent (roll-Arm d)).points)) (sym (ap (λ (f : Placing). f here next) (para-roll-Arm Placing Placing Placing (body_step plan) (λ a. a.body.1) (statement_step plan) d)))
      (distinct_within 0 _ here (here + (statement_extent y.body.0).points) here (here + (arm_extent (roll-Arm d)).points) (y.body.1 rise here next) (omega arith) (omega (arith, points)))

  of_statement : (y : Statement-F (With OfBody) (With OfArm) (With OfStatement)) → OfStatement (roll-Statement (map-Statement (With OfBody) (With OfArm) (With OfStatement) Body Arm Statement (λ e. e.0) (λ e. e.0) (λ e. e.0) y))
  of_statement y h here next =
      let d = map-Statement (With OfBody) (With OfArm) (With OfStatement) Body Arm Statement (λ e. e.0) (λ e. e.0) (λ e. e.0) y in
      let points = ap (λ (x : Extent). x.points) (fold-roll-Statement Extent Extent Extent body_extent_step (λ a. a.body) statement_extent_step d) in
      let p = and_parts (rises (conditions_part plan.asserts y.asserts)) _ (sym (fold-roll-Statement Bool Bool Bool rising.body_step arm_step (rising.statement_step plan.asserts) d) ∙ h) in
      let r = rises_to (conditions_part plan.asserts y.asserts) p.0 in
      let last = here + 1 + (body_extent y.body.0).points in
      subst (λ q. Distinct q 0 here (here + (statement_extent (roll-Statement d)).points)) (sym (ap (λ (f : Placing). f here next) (para-roll-Statement Placing Placing Placing (body_step plan) (λ a. a.body.1) (statement_step plan) d)))
      (distinct_within 0 _ here last here (here + (statement_extent (roll-Statement d)).points)
      (distinct_asserted (body_piece plan y.body.0 here next) here (assert_checks plan.asserts y.asserts) 0 r.0 last (all_assert plan.asserts y.asserts 0 r.0 r.1) (omega arith) (y.body.1 p.1 here next)) (omega arith) (omega (arith, points)))

  statement_distinct : (s : Statement) → OfStatement s
  statement_distinct =
      ind-Statement OfBody OfArm OfStatement
      (λ x y is. subst (λ z. OfBody (roll-Body z)) is (of_body y))
      (λ x y is. subst (λ z. OfArm (roll-Arm z)) is (of_arm y))
      (λ x y is. subst (λ z. OfStatement (roll-Statement z)) is (of_statement y))

  statements_distinct : (body : List Statement) (here next : ℕ) → all_true (map (statement_rises plan.asserts) body) ≡ true → Distinct (in_order plan (map (laid_statement plan) body) here next) 0 here (here + (statements_extent body).points)
  statements_distinct [] here next h = distinct_nothing 0 here (here + 0) (omega arith)
  statements_distinct (s ∷ body) here next h =
      let p = and_parts (statement_rises plan.asserts s) _ h in
      let behind = here + (statement_extent s).points in
      distinct_within 0 _ here (behind + (statements_extent body).points) here (here + (statements_extent (s ∷ body)).points)
      (distinct_both 0 _ _ here behind (behind + (statements_extent body).points) (statement_distinct s p.0 here _) (statements_distinct body behind next p.1)) (omega arith) (omega arith)

  -- ---- routines

  part_distinct : (result : Option ℕ) (entry exit end : ℕ) (body : List Statement) → exit ≡ entry + 1 + (statements_extent body).points → all_true (map (statement_rises plan.asserts) body) ≡ true
      → Distinct (part_piece plan result entry exit (Body-F.Begin body end)) 0 entry (exit + 1)
  part_distinct result entry exit end body last h =
      distinct_both 0 _ _ entry (entry + 1) (exit + 1) (distinct_plain plan 0 entry (entry + 1) act.Skip)
      (distinct_both 0 _ _ (entry + 1) exit (exit + 1) (distinct_within 0 _ (entry + 1) (entry + 1 + (statements_extent body).points) (entry + 1) exit (statements_distinct body (entry + 1) exit h) (omega arith) (omega (arith, last)))
      (distinct_judged 0 exit _ (settled_result result end)))

  -- the statements of a routine
  inside_rises : (s : Statement) (body : List Statement) (end : ℕ) → out-Body (out-Statement s).body ≡ Body-F.Begin body end → statement_rises plan.asserts s ≡ true → all_true (map (statement_rises plan.asserts) body) ≡ true
  inside_rises s body end is h =
      let p = and_parts (rises (conditions_part plan.asserts (out-Statement s).asserts)) _ (sym (fold_out-Statement Bool Bool Bool rising.body_step arm_step (rising.statement_step plan.asserts) s) ∙ h) in
      let q = sym (fold_out-Body Bool Bool Bool rising.body_step arm_step (rising.statement_step plan.asserts) (out-Statement s).body) ∙ p.1 in
      subst (λ d. rising.body_step (map-Body Body Arm Statement Bool Bool Bool (body_rises plan.asserts) (arm_rises plan.asserts) (statement_rises plan.asserts) d) ≡ true) is q

  routine_distinct : (r : ℕ) (d : Routine) (entry exit : ℕ) → is_outermost d.body ≡ true → statement_rises plan.asserts d.body ≡ true → exit ≡ entry + length (routine_marks r d) - 1
      → Distinct (part_piece plan d.result entry exit (out-Body (out-Statement d.body).body)) 0 entry (entry + length (routine_marks r d))
  routine_distinct r d entry exit o rise last =
      let b = begins d o in
      let at = (out-Statement d.body).at in
      let size = ap (λ x. length (part_marks r at x)) b.is in
      let long = length-append (statements_marks r b.body) (mark r kind.Exit b.end ∷ []) in
      let count = (statements_inside r b.body).count in
      let there : exit ≡ entry + 1 + (statements_extent b.body).points = omega (arith, last, size, long, count) in
      let drawn = part_distinct d.result entry exit b.end b.body there (inside_rises d.body b.body b.end b.is rise) in
      subst (λ x. Distinct (part_piece plan d.result entry exit x) 0 entry (entry + length (routine_marks r d))) (sym b.is)
      (distinct_within 0 _ entry (exit + 1) entry (entry + length (routine_marks r d)) drawn (omega arith) (omega (arith, last, size, long)))

  -- all routines, of which the first has the number `first` and begins with the point `low`
  routines_distinct : (first : ℕ) (routines : List Routine) (low : ℕ) → AllOutermost routines
      → ((k : ℕ) (d : Routine) → slice_get routines k ≡ Some d → statement_rises plan.asserts d.body ≡ true)
      → ((k : ℕ) → slice_index plan.entries (first + k) ≡ slice_index (starts low first routines) k)
      → Distinct (routines_piece plan first routines) 0 low (low + length (routines_marks first routines))
  routines_distinct first [] low o rise at = distinct_nothing 0 low (low + 0) (omega arith)
  routines_distinct first (d ∷ routines) low o rise at =
      let next = low + length (routine_marks first d) in
      let rest = routines_marks (suc first) routines in
      let one : first + 0 ≡ first = omega arith in
      let two : first + 1 ≡ suc first = omega arith in
      let entry : slice_index plan.entries first ≡ low = ap (slice_index plan.entries) (sym one) ∙ at 0 in
      let exit : slice_index plan.entries (suc first) ≡ next = ap (slice_index plan.entries) (sym two) ∙ at 1 ∙ starts_first next (suc first) routines in
      let many = length-append (routine_marks first d) rest in
      distinct_within 0 _ low (next + length rest) low (low + length (routines_marks first (d ∷ routines)))
      (distinct_both 0 (routine_piece plan first d) (routines_piece plan (suc first) routines) low next (next + length rest)
      (subst (λ e. Distinct (part_piece plan d.result e (slice_index plan.entries (suc first) - 1) (out-Body (out-Statement d.body).body)) 0 low next) (sym entry)
      (routine_distinct first d low (slice_index plan.entries (suc first) - 1) (o 0 d refl) (rise 0 d refl) (ap (λ n. n - 1) exit)))
      (routines_distinct (suc first) routines next (λ k e i. o (suc k) e i) (λ k e i. rise (suc k) e i)
      (λ k. let more : suc first + k ≡ first + suc k = omega arith in ap (slice_index plan.entries) more ∙ at (suc k))))
      (omega arith) (omega (arith, many))

-- ---- flows

pub checks_differ : (f : Flow) (j k : ℕ) (d e : Check) → PlacesRise f.program.routines f.program.asserts → slice_get f.checks j ≡ Some d → slice_get f.checks k ≡ Some e → d.point ≡ e.point → d.kind ≡ e.kind → d.at ≡ e.at → j ≡ k
checks_differ f j k d e rise g h =
    let drawn = routines_distinct (plan_of f.program) 0 f.program.routines 0 f.program.in_scope.outermost rise.body
    (λ n. let same : 0 + n ≡ n = omega arith in ap (slice_index (starts 0 0 f.program.routines)) same) in
    (drawn.checks 0).differ j k d e (ap (λ cs. slice_get cs j) (sym f.exact.checks_are) ∙ g) (ap (λ cs. slice_get cs k) (sym f.exact.checks_are) ∙ h)
