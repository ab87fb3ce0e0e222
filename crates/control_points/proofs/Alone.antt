-- Each piece of a program: its edges leave its own points, and the edge of a call is the only one that leaves its point.
use Rattle.std.proofs.Common.{◌≡◌, ◌⊎◌, inl, inr, ℕ, zero, suc, ◌+◌, ◌-◌, ◌<◌, ◌≤◌, Bool, true, false, List, [], ◌∷◌, ◌++◌, map, length, length-append, refl, sym, ap, subst, ◌∙◌, Option, Some, None, nat_eq, eq-eqb, eqb-true, arith}
use Rattle.std.proofs.lemmas.Bool.{and_parts, cases_Bool, cond-false, cond-true, true≢false}
use Rattle.std.proofs.lemmas.Option.{none-some}
use Rattle.std.specs.List.{slice_get, slice_index}
use Rattle.pas_program.proofs.Weaker.{With}
use Rattle.pas_program.specs.declared.expr.Access.{Access}
use Rattle.pas_program.specs.declared.expr.Expr.{Expr}
use Rattle.pas_program.specs.declared.routine.Routine.{Routine}
use Rattle.pas_program.specs.declared.statement.Arm.{Arm}
use Rattle.pas_program.specs.declared.statement.Body.{Body}
use Rattle.pas_program.specs.declared.statement.Body.TheOpen.{Arm-F, Body-F, Statement-F}
use Rattle.pas_program.specs.declared.statement.Body.TheFolds.{fold-roll-Arm, fold-roll-Body, fold-roll-Statement, ind-Statement, map-Arm, map-Body, map-Statement, para-roll-Arm, para-roll-Body, para-roll-Statement}
use Rattle.pas_program.specs.declared.statement.Body.TheViews.{out-Arm, out-Body, out-Statement, roll-Arm, roll-Body, roll-Statement}
use Rattle.pas_program.specs.declared.statement.Statement.{Statement}
use Rattle.pas_program.specs.declared.statement.WriteItem.{WriteItem}
use Rattle.pas_program.specs.Scopes.{is_begin, is_outermost}
use Rattle.control_points.specs.declared.edge.Act.{Act}
use Rattle.control_points.specs.declared.edge.Act.TheVariants as act
use Rattle.control_points.specs.declared.edge.Edge.{Edge}
use Rattle.control_points.specs.declared.flow.Flow.{Flow}
use Rattle.control_points.specs.declared.point.PointKind.TheVariants as kind
use Rattle.control_points.specs.Called.{calls_of}
use Rattle.control_points.specs.Calls.{CallSite, Sites, access_calls, expr_calls, item_calls}
use Rattle.control_points.specs.Chart.{leaving, numbers_from}
use Rattle.control_points.specs.Checking.{Faults}
use Rattle.control_points.specs.Edges.{Placing, arm_piece, arms_from, body_piece, body_step, in_order, inner_piece, laid_arm, laid_body, laid_statement, own_piece, part_piece, plan_of, points_of, routine_piece, routines_piece, statement_piece, statement_step}
use Rattle.control_points.specs.Extents.{Extent, all_of, arm_extent, body_extent, body_extent_step, inner_extent, part_points, read_points, routine_points, statement_extent, statement_extent_step, statements_extent, total, write_points}
use Rattle.control_points.specs.Fits.{callee_of, kind_at}
use Rattle.control_points.specs.Leading.{is_return}
use Rattle.control_points.specs.Listing as listing
use Rattle.control_points.specs.Marks.{mark, part_marks, routine_marks, routines_marks, starts, statements_marks}
use Rattle.control_points.specs.Pieces.{Piece, Plan, both, judged, line_act, nothing, procedure_call, way}
use Rattle.control_points.specs.Pieces as pieces
use Rattle.control_points.specs.Scenes.{call_act}
use Rattle.control_points.proofs.Inside.{statements_inside}
use Rattle.control_points.proofs.Laying.{points_of_laid}
use Rattle.control_points.proofs.Listed.{get_either, same_some}
use Rattle.control_points.proofs.OwnCalls.{calls_mapped}
use Rattle.control_points.proofs.PathsRoutines.{AllOutermost, begins}

-- ---- lists of edges

-- it leaves a point from low on and before high; or it is no call and leaves the one whose successor is outer
abbrev Leaves : ℕ → ℕ → ℕ → Edge → Type 0
Leaves outer low high e = ((low ≤ e.from) × (e.from < high)) ⊎ ((suc e.from ≡ outer) × (callee_of e.act ≡ None))

-- Where outer is 0, all edges but returns leave a point from low on and before high.
pub record AreAlone (edges : List Edge) (outer low high : ℕ) : Type 0 where
  pub below : outer ≤ low
  pub order : low ≤ high
  pub own : (k : ℕ) (e : Edge) → slice_get edges k ≡ Some e → is_return e.act ≡ false → Leaves outer low high e
  pub alone : (j k r : ℕ) (d e : Edge) → slice_get edges j ≡ Some d → slice_get edges k ≡ Some e → callee_of d.act ≡ Some r → is_return e.act ≡ false → e.from ≡ d.from → j ≡ k

no_edge : (k : ℕ) (e : Edge) → slice_get [] k ≡ Some e → ⊥
no_edge zero e h = none-some e h
no_edge (suc k) e h = none-some e h

-- what is called is no return
pub call_stays : (a : Act) (r : ℕ) → callee_of a ≡ Some r → is_return a ≡ false
call_stays (act.Call routine actuals slot at) r c = refl
call_stays (act.Return call) r c = absurd (none-some r c)
call_stays act.Skip r c = refl
call_stays (act.Assign target value) r c = refl
call_stays (act.Copy target source) r c = refl
call_stays (act.Goto routine) r c = refl
call_stays (act.Test cond wanted) r c = refl
call_stays (act.Arm selector constants) r c = refl
call_stays (act.Enter control bound first down last) r c = refl
call_stays (act.Bypass control bound first down last) r c = refl
call_stays (act.Next control bound down) r c = refl
call_stays (act.Finish control bound down) r c = refl
call_stays (act.Read target) r c = refl
call_stays act.DropLine r c = refl
call_stays (act.Write item) r c = refl
call_stays act.EndLine r c = refl

none_alone : (outer low high : ℕ) → outer ≤ low → low ≤ high → AreAlone [] outer low high
none_alone outer low high h o = record { below = h; order = o; own = λ k e g on. absurd (no_edge k e g); alone = λ j k r d e g h c on same. absurd (no_edge j d g) }

leaves_within : (outer low high first last : ℕ) (e : Edge) → first ≤ low → high ≤ last → Leaves outer low high e → Leaves outer first last e
leaves_within outer low high first last e a b (inl x) = inl (omega (arith, a, x.0), omega (arith, b, x.1))
leaves_within outer low high first last e a b (inr x) = inr x

module _ (xs ys : List Edge) (outer low mid high : ℕ) (front : AreAlone xs outer low mid) (back : AreAlone ys outer mid high) where
  -- a call of the one part, and an edge of the other
  apart : (a b c d r : ℕ) (x y : Edge) → outer ≤ a → b ≤ c → callee_of x.act ≡ Some r → Leaves outer a b x → Leaves outer c d y → y.from ≡ x.from → ⊥
  apart a b c d r x y below le called (inl x_in) (inl y_in) same = omega (arith, x_in.1, y_in.0, same, le)
  apart a b c d r x y below le called (inl x_in) (inr y_out) same = omega (arith, x_in.0, y_out.0, same, below)
  apart a b c d r x y below le called (inr x_out) z same = absurd (none-some r (sym x_out.1 ∙ called))

  apart_back : (a b c d r : ℕ) (x y : Edge) → outer ≤ c → b ≤ c → callee_of x.act ≡ Some r → Leaves outer c d x → Leaves outer a b y → y.from ≡ x.from → ⊥
  apart_back a b c d r x y below le called (inl x_in) (inl y_in) same = omega (arith, x_in.0, y_in.1, same, le)
  apart_back a b c d r x y below le called (inl x_in) (inr y_out) same = omega (arith, x_in.0, y_out.0, same, below)
  apart_back a b c d r x y below le called (inr x_out) z same = absurd (none-some r (sym x_out.1 ∙ called))

  joined_own : (k : ℕ) (e : Edge) → slice_get (xs ++ ys) k ≡ Some e → is_return e.act ≡ false → Leaves outer low high e
  joined_own k e h on =
      elim (get_either xs ys k e h) [
        | inl g ↦ leaves_within outer low mid low high e (omega arith) back.order (front.own k e g on)
        | inr g ↦ leaves_within outer mid high low high e front.order (omega arith) (back.own (k - length xs) e g.1 on)
      ]

  joined_alone : (j k r : ℕ) (d e : Edge) → slice_get (xs ++ ys) j ≡ Some d → slice_get (xs ++ ys) k ≡ Some e → callee_of d.act ≡ Some r → is_return e.act ≡ false → e.from ≡ d.from → j ≡ k
  joined_alone j k r d e g h c on same =
      let stays = call_stays d.act r c in
      elim (get_either xs ys j d g) [
        | inl x ↦ elim (get_either xs ys k e h) [
          | inl y ↦ front.alone j k r d e x y c on same
          | inr y ↦ absurd (apart low mid mid high r d e front.below (omega arith) c (front.own j d x stays) (back.own (k - length xs) e y.1 on) same)
        ]
        | inr x ↦ elim (get_either xs ys k e h) [
          | inl y ↦ absurd (apart_back low mid mid high r d e back.below (omega arith) c (back.own (j - length xs) d x.1 stays) (front.own k e y on) same)
          | inr y ↦ omega (arith, x.0, y.0, back.alone (j - length xs) (k - length xs) r d e x.1 y.1 c on same)
        ]
      ]

  alone_joined : AreAlone (xs ++ ys) outer low high
  alone_joined = record { below = front.below; order = omega (arith, front.order, back.order); own = joined_own; alone = joined_alone }

-- ---- pieces

-- the same of a piece, behind any number of edges
pub record Alone (p : Piece) (outer low high : ℕ) : Type 0 where
  pub edges : (n : ℕ) → AreAlone (p n).edges outer low high

alone_nothing : (outer low high : ℕ) → outer ≤ low → low ≤ high → Alone nothing outer low high
alone_nothing outer low high h o = record { edges = λ n. none_alone outer low high h o }

alone_judged : (point : ℕ) (faults : Faults) (outer low : ℕ) → outer ≤ low → Alone (judged point faults) outer low low
alone_judged point faults outer low h = record { edges = λ n. none_alone outer low low h (omega arith) }

alone_both : (p q : Piece) (outer low mid high : ℕ) → Alone p outer low mid → Alone q outer mid high → Alone (both p q) outer low high
alone_both p q outer low mid high f g = record {
  edges = λ n. alone_joined (p n).edges (q (n + length (p n).edges)).edges outer low mid high (f.edges n) (g.edges (n + length (p n).edges));
}

alone_within : (p : Piece) (low high first last : ℕ) → Alone p 0 low high → first ≤ low → high ≤ last → Alone p 0 first last
alone_within p low high first last f a b = record {
  edges = λ n. record { below = omega arith; order = omega (arith, a, b, (f.edges n).order); own = λ k e h on. leaves_within 0 low high first last e a b ((f.edges n).own k e h on); alone = (f.edges n).alone };
}

-- also where others leave a point before
leaves_beside : (outer low high : ℕ) (e : Edge) → Leaves 0 low high e → Leaves outer low high e
leaves_beside outer low high e (inl x) = inl x
leaves_beside outer low high e (inr x) = absurd (omega (arith, x.0))

alone_beside : (p : Piece) (outer low high : ℕ) → outer ≤ low → Alone p 0 low high → Alone p outer low high
alone_beside p outer low high h f = record {
  edges = λ n. record { below = h; order = (f.edges n).order; own = λ k e g on. leaves_beside outer low high e ((f.edges n).own k e g on); alone = (f.edges n).alone };
}

-- with the point before, from which no call leads
leaves_all : (source high : ℕ) (e : Edge) → source < high → Leaves (suc source) (source + 1) high e → Leaves 0 source high e
leaves_all source high e h (inl x) = inl (omega (arith, x.0), x.1)
leaves_all source high e h (inr x) = inl (omega (arith, x.0), omega (arith, x.0, h))

alone_from : (p : Piece) (source high : ℕ) → source < high → Alone p (suc source) (source + 1) high → Alone p 0 source high
alone_from p source high h f = record {
  edges = λ n. record { below = omega arith; order = omega (arith, h); own = λ k e g on. leaves_all source high e h ((f.edges n).own k e g on); alone = (f.edges n).alone };
}

only_own : (source target : ℕ) (a : Act) (k : ℕ) (e : Edge) → slice_get (listing.edge source a target ∷ []) k ≡ Some e → Leaves 0 source (source + 1) e
only_own source target a zero e h = let from = ap (λ (x : Edge). x.from) (same_some h) in inl (omega (arith, from), omega (arith, from))
only_own source target a (suc k) e h = absurd (no_edge k e h)

only_alone : (x : Edge) (j k : ℕ) (d e : Edge) → slice_get (x ∷ []) j ≡ Some d → slice_get (x ∷ []) k ≡ Some e → j ≡ k
only_alone x zero zero d e g h = refl
only_alone x zero (suc k) d e g h = absurd (no_edge k e h)
only_alone x (suc j) k d e g h = absurd (no_edge j d g)

alone_way : (source target : ℕ) (a : Act) → Alone (way source a target) 0 source (source + 1)
alone_way source target a = record {
  edges = λ n. record { below = omega arith; order = omega arith; own = λ k e h on. only_own source target a k e h; alone = λ j k r d e g h c on same. only_alone (listing.edge source a target) j k d e g h };
}

-- an edge that is no call, from the point before
outer_own : (source target low high : ℕ) (a : Act) → callee_of a ≡ None → (k : ℕ) (e : Edge) → slice_get (listing.edge source a target ∷ []) k ≡ Some e → Leaves (suc source) low high e
outer_own source target low high a plain zero e h = inr (ap (λ (x : Edge). suc x.from) (sym (same_some h)), ap (λ (x : Edge). callee_of x.act) (sym (same_some h)) ∙ plain)
outer_own source target low high a plain (suc k) e h = absurd (no_edge k e h)

alone_outside : (source target low high : ℕ) (a : Act) → callee_of a ≡ None → suc source ≤ low → low ≤ high → Alone (way source a target) (suc source) low high
alone_outside source target low high a plain h o = record {
  edges = λ n. record { below = h; order = o; own = λ k e g on. outer_own source target low high a plain k e g; alone = λ j k r d e g h c on same. only_alone (listing.edge source a target) j k d e g h };
}

-- two ways from one point
alone_two : (source t u : ℕ) (a b : Act) → callee_of a ≡ None → callee_of b ≡ None → Alone (both (way source a t) (way source b u)) 0 source (source + 1)
alone_two source t u a b first second =
    alone_from _ source (source + 1) (omega arith)
    (alone_both _ _ (suc source) (source + 1) (source + 1) (source + 1)
    (alone_outside source t (source + 1) (source + 1) a first (omega arith) (omega arith)) (alone_outside source u (source + 1) (source + 1) b second (omega arith) (omega arith)))

-- a call with its return
module _ (source entry exit back n : ℕ) (a : Act) where
  abbrev pair : List Edge
  pair = listing.edge source a entry ∷ listing.edge exit (act.Return n) back ∷ []

  pair_own : (k : ℕ) (e : Edge) → slice_get pair k ≡ Some e → is_return e.act ≡ false → Leaves 0 source (source + 1) e
  pair_own zero e h on = let from = ap (λ (x : Edge). x.from) (same_some h) in inl (omega (arith, from), omega (arith, from))
  pair_own (suc zero) e h on = absurd (true≢false (ap (λ (x : Edge). is_return x.act) (same_some h) ∙ on))
  pair_own (suc (suc k)) e h on = absurd (no_edge k e h)

  pair_alone : (j k r : ℕ) (d e : Edge) → slice_get pair j ≡ Some d → slice_get pair k ≡ Some e → callee_of d.act ≡ Some r → is_return e.act ≡ false → j ≡ k
  pair_alone zero zero r d e g h c on = refl
  pair_alone j (suc zero) r d e g h c on = absurd (true≢false (ap (λ (x : Edge). is_return x.act) (same_some h) ∙ on))
  pair_alone (suc zero) zero r d e g h c on = absurd (none-some r (ap (λ (x : Edge). callee_of x.act) (same_some g) ∙ c))
  pair_alone (suc (suc j)) zero r d e g h c on = absurd (no_edge j d g)
  pair_alone j (suc (suc k)) r d e g h c on = absurd (no_edge k e h)

  pair_is : AreAlone pair 0 source (source + 1)
  pair_is = record { below = omega arith; order = omega arith; own = pair_own; alone = λ j k r d e g h c on same. pair_alone j k r d e g h c on }

line_plain : (line : Bool) (a : Act) → callee_of a ≡ None → callee_of (line_act line a) ≡ None
line_plain true a p = p
line_plain false a p = refl

-- the points that the action of a statement leaves
abbrev own_points : Body-F Body Arm Statement → ℕ
own_points (Body-F.Read targets line) = 1 + total (map read_points targets)
own_points (Body-F.Write items line) = 1 + total (map write_points items)
own_points (Body-F.Case selector []) = 1
own_points (Body-F.Case selector (arm ∷ arms)) = 0
own_points _ = 1

abbrev extents_in : Body-F Body Arm Statement → Body-F Extent Extent Extent
extents_in = map-Body Body Arm Statement Extent Extent Extent body_extent arm_extent statement_extent

module _ (plan : Plan) where
  alone_call : (c : CallSite) (source back : ℕ) → Alone (pieces.call plan c source back) 0 source (source + 1)
  alone_call c source back =
      alone_both _ (pieces.call_ways plan c source back) 0 source source (source + 1) (alone_judged source _ 0 source (omega arith))
      (record { edges = λ n. pair_is source (pieces.entry_of plan c.routine) (pieces.exit_of plan c.routine) back n (call_act c) })

  alone_calls : (sites : Sites) (source : ℕ) → Alone (pieces.calls plan sites source) 0 source (source + length sites)
  alone_calls [] source = alone_nothing 0 source (source + 0) (omega arith) (omega arith)
  alone_calls (c ∷ sites) source =
      alone_within _ source (source + 1 + length sites) source (source + suc (length sites))
      (alone_both _ _ 0 source (source + 1) (source + 1 + length sites) (alone_call c source (source + 1)) (alone_calls sites (source + 1))) (omega arith) (omega arith)

  alone_condition : (cond : Expr) (here held failed : ℕ) → Alone (pieces.condition plan cond here held failed) 0 here (here + 1)
  alone_condition cond here held failed = alone_both _ _ 0 here here (here + 1) (alone_judged here _ 0 here (omega arith)) (alone_two here held failed (act.Test cond true) (act.Test cond false) refl refl)

  alone_read : (a : Access) (source : ℕ) → Alone (pieces.read plan a source) 0 source (source + length (access_calls a) + 1)
  alone_read a source =
      let here = source + length (access_calls a) in
      alone_both _ _ 0 source here (here + 1) (alone_calls (access_calls a) source)
      (alone_both _ _ 0 here here (here + 1) (alone_judged here _ 0 here (omega arith)) (alone_way here (here + 1) (act.Read a)))

  alone_reads : (targets : List Access) (end : Act) (source next : ℕ) → Alone (pieces.reads plan targets end source next) 0 source (source + (1 + total (map read_points targets)))
  alone_reads [] end source next = alone_way source next end
  alone_reads (a ∷ targets) end source next =
      let behind = source + read_points a in
      let one = alone_within _ source (source + length (access_calls a) + 1) source behind (alone_read a source) (omega arith) (omega arith) in
      alone_within _ source (behind + (1 + total (map read_points targets))) source (source + (1 + total (map read_points (a ∷ targets))))
      (alone_both _ _ 0 source behind (behind + (1 + total (map read_points targets))) one (alone_reads targets end behind next)) (omega arith) (omega arith)

  alone_write : (item : WriteItem) (source : ℕ) → Alone (pieces.write plan item source) 0 source (source + length (item_calls item) + 1)
  alone_write item source =
      let here = source + length (item_calls item) in
      alone_both _ _ 0 source here (here + 1) (alone_calls (item_calls item) source)
      (alone_both _ _ 0 here here (here + 1) (alone_judged here _ 0 here (omega arith)) (alone_way here (here + 1) (act.Write item)))

  alone_writes : (items : List WriteItem) (end : Act) (source next : ℕ) → Alone (pieces.writes plan items end source next) 0 source (source + (1 + total (map write_points items)))
  alone_writes [] end source next = alone_way source next end
  alone_writes (item ∷ items) end source next =
      let behind = source + write_points item in
      let one = alone_within _ source (source + length (item_calls item) + 1) source behind (alone_write item source) (omega arith) (omega arith) in
      alone_within _ source (behind + (1 + total (map write_points items))) source (source + (1 + total (map write_points (item ∷ items))))
      (alone_both _ _ 0 source behind (behind + (1 + total (map write_points items))) one (alone_writes items end behind next)) (omega arith) (omega arith)

  -- the action of a statement
  own_alone : (d : Body-F Body Arm Statement) (source next : ℕ) → Alone (own_piece plan (laid_body plan d) source next) 0 source (source + own_points d)
  own_alone Body-F.Empty source next = alone_way source next act.Skip
  own_alone (Body-F.Assign target value) source next = alone_both _ _ 0 source source (source + 1) (alone_judged source _ 0 source (omega arith)) (alone_way source next (act.Assign target value))
  own_alone (Body-F.Copy target array) source next = alone_both _ _ 0 source source (source + 1) (alone_judged source _ 0 source (omega arith)) (alone_way source next (act.Copy target array))
  own_alone (Body-F.Call routine actuals at) source next = alone_call (procedure_call routine actuals at) source next
  own_alone (Body-F.Read targets line) source next = alone_reads targets (line_act line act.DropLine) source next
  own_alone (Body-F.Write items line) source next = alone_writes items (line_act line act.EndLine) source next
  own_alone (Body-F.Goto routine number) source next = alone_way source (plan.label routine number) (act.Goto routine)
  own_alone (Body-F.Begin body end) source next = alone_way source (source + 1) act.Skip
  own_alone (Body-F.If cond first None) source next = alone_condition cond source (source + 1) next
  own_alone (Body-F.If cond first (Some second)) source next = alone_condition cond source (source + 1) (source + 1 + (statement_extent first).points)
  own_alone (Body-F.Case selector []) source next = alone_both _ _ 0 source source (source + 1) (alone_judged source _ 0 source (omega arith)) (alone_way source next (act.Arm selector []))
  own_alone (Body-F.Case selector (arm ∷ arms)) source next =
      alone_within _ source source source (source + 0) (alone_both _ _ 0 source source source (alone_judged source _ 0 source (omega arith)) (alone_nothing 0 source source (omega arith) (omega arith))) (omega arith) (omega arith)
  own_alone (Body-F.While cond body) source next = alone_condition cond source (source + 1) next
  own_alone (Body-F.Repeat body until cond) source next = alone_way source (source + 1) act.Skip
  own_alone (Body-F.For control bound first down final body) source next =
      alone_both _ _ 0 source source (source + 1) (alone_judged source _ 0 source (omega arith)) (alone_two source (source + 1) next (act.Enter control bound first down final) (act.Bypass control bound first down final) refl refl)

  -- ---- statements

  abbrev OfBody : Body → Type 0
  OfBody b = (here next : ℕ) → Alone (body_piece plan b here next) 0 here (here + 1 + (body_extent b).points)

  abbrev OfArm : Arm → Type 0
  OfArm a = (here next : ℕ) → Alone (arm_piece plan a here next) 0 here (here + (arm_extent a).points)

  abbrev OfStatement : Statement → Type 0
  OfStatement s = (here next : ℕ) → Alone (statement_piece plan s here next) 0 here (here + (statement_extent s).points)

  abbrev statements : List (With OfStatement) → List Statement
  statements ys = map (λ (y : With OfStatement). y.0) ys

  abbrev arms_in : List (With OfArm) → List Arm
  arms_in ys = map (λ (y : With OfArm). y.0) ys

  alone_in_order : (ys : List (With OfStatement)) (here next : ℕ) → Alone (in_order plan (map (laid_statement plan) (statements ys)) here next) 0 here (here + (statements_extent (statements ys)).points)
  alone_in_order [] here next = alone_nothing 0 here (here + 0) (omega arith) (omega arith)
  alone_in_order (y ∷ ys) here next =
      let behind = here + (statement_extent y.0).points in
      alone_within _ here (behind + (statements_extent (statements ys)).points) here (here + (statements_extent (statements (y ∷ ys))).points)
      (alone_both _ _ 0 here behind (behind + (statements_extent (statements ys)).points) (y.1 here _) (alone_in_order ys behind next)) (omega arith) (omega arith)

  -- the arms of a `case`, which leave the point of its selector
  alone_arms : (selector : Expr) (source : ℕ) (ys : List (With OfArm)) (here next : ℕ) → suc source ≤ here
      → Alone (arms_from plan selector source (map (laid_arm plan) (arms_in ys)) here next) (suc source) here (here + (all_of (map arm_extent (arms_in ys))).points)
  alone_arms selector source [] here next h = alone_nothing (suc source) here (here + 0) h (omega arith)
  alone_arms selector source (y ∷ ys) here next h =
      let behind = here + (arm_extent y.0).points in
      let last = behind + (all_of (map arm_extent (arms_in ys))).points in
      let same : last ≡ here + (all_of (map arm_extent (arms_in (y ∷ ys)))).points = omega arith in
      let first = alone_outside source here here here (act.Arm selector (out-Arm y.0).consts) refl h (omega arith) in
      subst (Alone (arms_from plan selector source (map (laid_arm plan) (arms_in (y ∷ ys))) here next) (suc source) here) same
      (alone_both _ _ (suc source) here here last first
      (alone_both _ _ (suc source) here behind last (alone_beside _ (suc source) here behind h (y.1 here next)) (alone_arms selector source ys behind next (omega (arith, h)))))

  from_body : (d : Body-F Body Arm Statement) (here next : ℕ)
      → ((source : ℕ) → source ≡ here + length (calls_of (laid_body plan d)) → Alone (inner_piece plan (laid_body plan d) source here next) 0 (source + own_points d) (source + 1 + (inner_extent (extents_in d)).points))
      → Alone (body_piece plan (roll-Body d) here next) 0 here (here + 1 + (body_extent (roll-Body d)).points)
  from_body d here next inner =
      let source = here + length (calls_of (laid_body plan d)) in
      let last = source + 1 + (inner_extent (extents_in d)).points in
      let many : length (calls_of (laid_body plan d)) ≡ length (calls_of (extents_in d)) =
      ap length (calls_mapped (λ b. (b, body_piece plan b)) (laid_arm plan) (laid_statement plan) d ∙ sym (calls_mapped body_extent arm_extent statement_extent d)) in
      let points : (body_extent (roll-Body d)).points ≡ length (calls_of (extents_in d)) + (inner_extent (extents_in d)).points =
      ap (λ (x : Extent). x.points) (fold-roll-Body Extent Extent Extent body_extent_step (λ a. a.body) statement_extent_step d) in
      let drawn = alone_both (pieces.calls plan (calls_of (laid_body plan d)) here) (both (own_piece plan (laid_body plan d) source next) (inner_piece plan (laid_body plan d) source here next)) 0 here source last
      (alone_calls (calls_of (laid_body plan d)) here)
      (alone_both (own_piece plan (laid_body plan d) source next) (inner_piece plan (laid_body plan d) source here next) 0 source (source + own_points d) last (own_alone d source next) (inner source refl)) in
      subst (λ p. Alone p 0 here (here + 1 + (body_extent (roll-Body d)).points)) (sym (ap (λ (f : Placing). f here next) (para-roll-Body Placing Placing Placing (body_step plan) (λ a. a.body.1) (statement_step plan) d)))
      (alone_within _ here last here (here + 1 + (body_extent (roll-Body d)).points) drawn (omega arith) (omega (arith, many, points)))

  of_body : (y : Body-F (With OfBody) (With OfArm) (With OfStatement)) → OfBody (roll-Body (map-Body (With OfBody) (With OfArm) (With OfStatement) Body Arm Statement (λ e. e.0) (λ e. e.0) (λ e. e.0) y))
  of_body Body-F.Empty here next = from_body Body-F.Empty here next (λ source e. alone_nothing 0 _ _ (omega arith) (omega arith))
  of_body (Body-F.Assign target value) here next = from_body (Body-F.Assign target value) here next (λ source e. alone_nothing 0 _ _ (omega arith) (omega arith))
  of_body (Body-F.Copy target array) here next = from_body (Body-F.Copy target array) here next (λ source e. alone_nothing 0 _ _ (omega arith) (omega arith))
  of_body (Body-F.Call routine actuals at) here next = from_body (Body-F.Call routine actuals at) here next (λ source e. alone_nothing 0 _ _ (omega arith) (omega arith))
  of_body (Body-F.Read targets line) here next = from_body (Body-F.Read targets line) here next (λ source e. alone_nothing 0 _ _ (omega arith) (omega arith))
  of_body (Body-F.Write items line) here next = from_body (Body-F.Write items line) here next (λ source e. alone_nothing 0 _ _ (omega arith) (omega arith))
  of_body (Body-F.Goto routine number) here next = from_body (Body-F.Goto routine number) here next (λ source e. alone_nothing 0 _ _ (omega arith) (omega arith))
  of_body (Body-F.Begin body end) here next = from_body (Body-F.Begin (statements body) end) here next (λ source e. alone_in_order body (source + 1) next)
  of_body (Body-F.If cond first None) here next =
      from_body (Body-F.If cond first.0 None) here next
      (λ source e. let m = source + 1 + (statement_extent first.0).points in alone_both _ _ 0 (source + 1) m _ (first.1 (source + 1) next) (alone_nothing 0 m _ (omega arith) (omega arith)))
  of_body (Body-F.If cond first (Some second)) here next =
      from_body (Body-F.If cond first.0 (Some second.0)) here next
      (λ source e.
      let m = source + 1 + (statement_extent first.0).points in
      alone_within _ (source + 1) (m + (statement_extent second.0).points) _ _ (alone_both _ _ 0 (source + 1) m (m + (statement_extent second.0).points) (first.1 (source + 1) next) (second.1 m next)) (omega arith) (omega arith))
  of_body (Body-F.Case selector []) here next = from_body (Body-F.Case selector []) here next (λ source e. alone_nothing 0 _ _ (omega arith) (omega arith))
  of_body (Body-F.Case selector (arm ∷ arms)) here next =
      from_body (Body-F.Case selector (arms_in (arm ∷ arms))) here next
      (λ source e.
      let last = source + 1 + (all_of (map arm_extent (arms_in (arm ∷ arms)))).points in
      alone_within _ source last _ _ (alone_from _ source last (omega arith) (alone_arms selector source (arm ∷ arms) (source + 1) next (omega arith))) (omega arith) (omega arith))
  of_body (Body-F.While cond body) here next = from_body (Body-F.While cond body.0) here next (λ source e. body.1 (source + 1) here)
  of_body (Body-F.Repeat body until cond) here next =
      from_body (Body-F.Repeat (statements body) until cond) here next
      (λ source e.
      let start = here + 1 + (statements_extent (statements body)).points in
      let many = points_of_laid plan (statements body) in
      let at = here + 1 + points_of (map (laid_statement plan) (statements body)) in
      let mid = at + length (expr_calls cond) in
      alone_within _ (here + 1) (mid + 1) _ _
      (alone_both _ _ 0 (here + 1) at (mid + 1) (alone_within _ (here + 1) start (here + 1) at (alone_in_order body (here + 1) at) (omega arith) (omega (arith, many)))
      (alone_both _ _ 0 at mid (mid + 1) (alone_calls (expr_calls cond) at) (alone_condition cond mid next (here + 1)))) (omega (arith, e)) (omega (arith, e, many)))
  of_body (Body-F.For control bound first down final body) here next =
      from_body (Body-F.For control bound first down final body.0) here next
      (λ source e.
      let step = source + 1 + (statement_extent body.0).points in
      alone_within _ (source + 1) (step + 1) _ _
      (alone_both _ _ 0 (source + 1) step (step + 1) (body.1 (source + 1) step) (alone_two step (source + 1) next (act.Next control bound down) (act.Finish control bound down) refl refl)) (omega arith) (omega arith))

  of_arm : (y : Arm-F (With OfBody) (With OfArm) (With OfStatement)) → OfArm (roll-Arm (map-Arm (With OfBody) (With OfArm) (With OfStatement) Body Arm Statement (λ e. e.0) (λ e. e.0) (λ e. e.0) y))
  of_arm y here next =
      let d = map-Arm (With OfBody) (With OfArm) (With OfStatement) Body Arm Statement (λ e. e.0) (λ e. e.0) (λ e. e.0) y in
      let points = ap (λ (x : Extent). x.points) (fold-roll-Arm Extent Extent Extent body_extent_step (λ a. a.body) statement_extent_step d) in
      subst (λ p. Alone p 0 here (here + (arm_extent (roll-Arm d)).points)) (sym (ap (λ (f : Placing). f here next) (para-roll-Arm Placing Placing Placing (body_step plan) (λ a. a.body.1) (statement_step plan) d)))
      (alone_within _ here (here + (statement_extent y.body.0).points) here (here + (arm_extent (roll-Arm d)).points) (y.body.1 here next) (omega arith) (omega (arith, points)))

  of_statement : (y : Statement-F (With OfBody) (With OfArm) (With OfStatement)) → OfStatement (roll-Statement (map-Statement (With OfBody) (With OfArm) (With OfStatement) Body Arm Statement (λ e. e.0) (λ e. e.0) (λ e. e.0) y))
  of_statement y here next =
      let d = map-Statement (With OfBody) (With OfArm) (With OfStatement) Body Arm Statement (λ e. e.0) (λ e. e.0) (λ e. e.0) y in
      let points = ap (λ (x : Extent). x.points) (fold-roll-Statement Extent Extent Extent body_extent_step (λ a. a.body) statement_extent_step d) in
      let last = here + 1 + (body_extent y.body.0).points in
      subst (λ p. Alone p 0 here (here + (statement_extent (roll-Statement d)).points)) (sym (ap (λ (f : Placing). f here next) (para-roll-Statement Placing Placing Placing (body_step plan) (λ a. a.body.1) (statement_step plan) d)))
      (alone_within _ here last here (here + (statement_extent (roll-Statement d)).points) (alone_both _ _ 0 here here last (alone_judged here _ 0 here (omega arith)) (y.body.1 here next)) (omega arith) (omega (arith, points)))

  statement_alone : (s : Statement) (here next : ℕ) → Alone (statement_piece plan s here next) 0 here (here + (statement_extent s).points)
  statement_alone =
      ind-Statement OfBody OfArm OfStatement
      (λ x y is. subst (λ z. OfBody (roll-Body z)) is (of_body y))
      (λ x y is. subst (λ z. OfArm (roll-Arm z)) is (of_arm y))
      (λ x y is. subst (λ z. OfStatement (roll-Statement z)) is (of_statement y))

  statements_alone : (body : List Statement) (here next : ℕ) → Alone (in_order plan (map (laid_statement plan) body) here next) 0 here (here + (statements_extent body).points)
  statements_alone [] here next = alone_nothing 0 here (here + 0) (omega arith) (omega arith)
  statements_alone (s ∷ body) here next =
      let behind = here + (statement_extent s).points in
      alone_within _ here (behind + (statements_extent body).points) here (here + (statements_extent (s ∷ body)).points)
      (alone_both _ _ 0 here behind (behind + (statements_extent body).points) (statement_alone s here _) (statements_alone body behind next)) (omega arith) (omega arith)

  -- ---- routines

  part_alone : (result : Option ℕ) (entry exit : ℕ) (d : Body-F Body Arm Statement) → is_begin d ≡ true → Alone (part_piece plan result entry exit d) 0 entry (entry + 1 + part_points d)
  part_alone result entry exit (Body-F.Begin body end) h =
      let last = entry + 1 + (statements_extent body).points in
      alone_both _ _ 0 entry (entry + 1) last (alone_way entry (entry + 1) act.Skip)
      (alone_both _ _ 0 (entry + 1) last last (statements_alone body (entry + 1) exit) (alone_judged exit _ 0 last (omega arith)))
  part_alone result entry exit Body-F.Empty h = absurd (true≢false (sym h))
  part_alone result entry exit (Body-F.Assign target value) h = absurd (true≢false (sym h))
  part_alone result entry exit (Body-F.Copy target array) h = absurd (true≢false (sym h))
  part_alone result entry exit (Body-F.Call routine actuals at) h = absurd (true≢false (sym h))
  part_alone result entry exit (Body-F.Read targets line) h = absurd (true≢false (sym h))
  part_alone result entry exit (Body-F.Write items line) h = absurd (true≢false (sym h))
  part_alone result entry exit (Body-F.Goto routine number) h = absurd (true≢false (sym h))
  part_alone result entry exit (Body-F.If cond first second) h = absurd (true≢false (sym h))
  part_alone result entry exit (Body-F.Case selector arms) h = absurd (true≢false (sym h))
  part_alone result entry exit (Body-F.While cond body) h = absurd (true≢false (sym h))
  part_alone result entry exit (Body-F.Repeat body until cond) h = absurd (true≢false (sym h))
  part_alone result entry exit (Body-F.For control bound first down final body) h = absurd (true≢false (sym h))

  routine_alone : (r : ℕ) (d : Routine) → is_outermost d.body ≡ true → Alone (routine_piece plan r d) 0 (pieces.entry_of plan r) (pieces.entry_of plan r + 1 + routine_points d)
  routine_alone r d h = part_alone d.result (pieces.entry_of plan r) (pieces.exit_of plan r) (out-Body (out-Statement d.body).body) (and_parts (is_begin (out-Body (out-Statement d.body).body)) _ h).0

  -- its points, and the exit
  routine_long : (r : ℕ) (d : Routine) → is_outermost d.body ≡ true → 1 + routine_points d ≤ length (routine_marks r d)
  routine_long r d h =
      let b = begins d h in
      let size = ap (λ x. length (part_marks r (out-Statement d.body).at x)) b.is in
      let points = ap part_points b.is in
      let long = length-append (statements_marks r b.body) (mark r kind.Exit b.end ∷ []) in
      let count = (statements_inside r b.body).count in
      omega (arith, size, points, long, count)

  -- all routines, of which the first has the number `first` and begins with the point `low`
  pub routines_alone : (first : ℕ) (routines : List Routine) (low : ℕ) → AllOutermost routines → ((k : ℕ) → slice_index plan.entries (first + k) ≡ slice_index (starts low first routines) k)
      → Alone (routines_piece plan first routines) 0 low (low + length (routines_marks first routines))
  routines_alone first [] low o at = alone_nothing 0 low (low + 0) (omega arith) (omega arith)
  routines_alone first (d ∷ routines) low o at =
      let next = low + length (routine_marks first d) in
      let rest = routines_marks (suc first) routines in
      let one : first + 0 ≡ first = omega arith in
      let entry : slice_index plan.entries first ≡ low = ap (slice_index plan.entries) (sym one) ∙ at 0 in
      let long = routine_long first d (o 0 d refl) in
      let many = length-append (routine_marks first d) rest in
      alone_within _ low (next + length rest) low (low + length (routines_marks first (d ∷ routines)))
      (alone_both _ _ 0 low next (next + length rest)
      (alone_within _ _ _ low next (routine_alone first d (o 0 d refl)) (omega (arith, entry)) (omega (arith, entry, long)))
      (routines_alone (suc first) routines next (λ k e i. o (suc k) e i)
      (λ k. let more : suc first + k ≡ first + suc k = omega arith in ap (slice_index plan.entries) more ∙ at (suc k))))
      (omega arith) (omega (arith, many))

-- ---- flows

-- the numbers of those that pass, where only that at k does
no_numbers : {A : Type 0} (test : A → Bool) (n : ℕ) (xs : List A) → ((k : ℕ) (x : A) → slice_get xs k ≡ Some x → test x ≡ false) → numbers_from n test xs ≡ []
no_numbers test n [] h = refl
no_numbers test n (x ∷ xs) h = cond-false (test x) (n ∷ numbers_from (suc n) test xs) (numbers_from (suc n) test xs) (h 0 x refl) ∙ no_numbers test (suc n) xs (λ k y e. h (suc k) y e)

one_number : {A : Type 0} (test : A → Bool) (n : ℕ) (xs : List A) (k : ℕ) (x : A) → slice_get xs k ≡ Some x → test x ≡ true → ((j : ℕ) (y : A) → slice_get xs j ≡ Some y → (j ≡ k → ⊥) → test y ≡ false)
    → numbers_from n test xs ≡ (n + k) ∷ []
one_number test n [] zero x h passes others = absurd (none-some x h)
one_number test n [] (suc k) x h passes others = absurd (none-some x h)
one_number test n (y ∷ xs) zero x h passes others =
    let here : n ≡ n + 0 = omega arith in
    cond-true (test y) (n ∷ numbers_from (suc n) test xs) (numbers_from (suc n) test xs) (ap test (same_some h) ∙ passes)
    ∙ ap (λ ks. n ∷ ks) (no_numbers test (suc n) xs (λ j z e. others (suc j) z e (λ same. absurd (omega (arith, same)))))
    ∙ ap (λ m. m ∷ []) here
one_number test n (y ∷ xs) (suc k) x h passes others =
    let there : suc n + k ≡ n + suc k = omega arith in
    cond-false (test y) (n ∷ numbers_from (suc n) test xs) (numbers_from (suc n) test xs) (others 0 y refl (λ same. absurd (omega (arith, same))))
    ∙ one_number test (suc n) xs k x h passes (λ j z e ne. others (suc j) z e (λ same. ne (omega (arith, same))))
    ∙ ap (λ m. m ∷ []) there

not_same : (a b : ℕ) → (a ≡ b → ⊥) → nat_eq a b ≡ false
not_same a b h = elim (cases_Bool (nat_eq a b)) [ inl e ↦ absurd (h (eqb-true a b e)) | inr e ↦ e ]

module _ (f : Flow) where
  alone_in_flow : AreAlone f.edges 0 0 (0 + length (routines_marks 0 f.program.routines))
  alone_in_flow =
      subst (λ es. AreAlone es 0 0 (0 + length (routines_marks 0 f.program.routines))) (sym f.exact.edges_are)
      ((routines_alone (plan_of f.program) 0 f.program.routines 0 f.program.in_scope.outermost (λ k. let same : 0 + k ≡ k = omega arith in ap (slice_index (starts 0 0 f.program.routines)) same)).edges 0)

  -- an edge that leaves the point of a call is no return
  beside_call : (j k r : ℕ) (d e : Edge) → slice_get f.edges j ≡ Some d → slice_get f.edges k ≡ Some e → callee_of d.act ≡ Some r → e.from ≡ d.from → is_return e.act ≡ false
  beside_call j k r d e g h c same =
      elim (cases_Bool (is_return e.act)) [
        | inl back ↦ absurd (true≢false (sym (f.exits_return.only j d g (ap (kind_at f.points) (sym same) ∙ f.exits_return.back k e h back)) ∙ call_stays d.act r c))
        | inr on ↦ on
      ]

  pub call_is_alone : (k r : ℕ) (e : Edge) → slice_get f.edges k ≡ Some e → callee_of e.act ≡ Some r → leaving f.edges e.from ≡ k ∷ []
  call_is_alone k r e h c =
      let n : 0 + k ≡ k = omega arith in
      one_number (λ (x : Edge). nat_eq x.from e.from) 0 f.edges k e h (eq-eqb e.from e.from refl)
      (λ j d g other. not_same d.from e.from (λ same. other (sym (alone_in_flow.alone k j r e d h g c (beside_call k j r e d h g c same) same))))
      ∙ ap (λ m. m ∷ []) n
