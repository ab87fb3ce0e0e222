-- The checks of a flow are those of its points, one point after another, and edges that leave one point judge the same.
use Rattle.std.proofs.Common.{◌≡◌, ℕ, zero, suc, ◌+◌, ◌-◌, ◌<◌, true, false, All, List, [], ◌∷◌, ◌++◌, length, refl, sym, ap, ◌∙◌, Some, nat_eq, eqb-true, zero-add, arith}
use Rattle.std.proofs.lemmas.List.{length-map}
use Rattle.std.proofs.lemmas.List.Elements.{All-head}
use Rattle.std.proofs.lemmas.Option.{slice_get_within}
use Rattle.std.specs.List.{slice_get, slice_index}
use Rattle.std.specs.Option.{option_and_then, option_map, unwrap_or}
use Rattle.pas_program.specs.declared.routine.Routine.{Routine}
use Rattle.pas_program.specs.Checked.{tables}
use Rattle.pas_program.specs.Tables.{Head, head_of}
use Rattle.control_points.specs.declared.edge.Act.{Act}
use Rattle.control_points.specs.declared.edge.Act.TheVariants as act
use Rattle.control_points.specs.declared.edge.Edge.{Edge}
use Rattle.control_points.specs.declared.flow.Flow.{Flow}
use Rattle.control_points.specs.declared.numbering.Mark.{Mark}
use Rattle.control_points.specs.declared.point.Point.{Point}
use Rattle.control_points.specs.declared.point.PointKind.{PointKind}
use Rattle.control_points.specs.declared.point.PointKind.TheVariants as kind
use Rattle.control_points.specs.Chart.{Chart, leaving, place_of_point}
use Rattle.control_points.specs.Edges.{plan_of, program_piece}
use Rattle.control_points.specs.Flows.{chart_of}
use Rattle.control_points.specs.Judgements.{EdgesJudgeAlike, act_judgements, assert_judgements, checks_from, edge_judgements, faults_of, first_judgements, judgements_at, leaving_judgements, own_judgements, point_judgements, result_judgements, result_of}
use Rattle.control_points.specs.Judging.{checks_at}
use Rattle.control_points.specs.Leading.{EdgesPair, is_exit, is_return}
use Rattle.control_points.specs.Marks.{Marks, routines_marks, starts}
use Rattle.control_points.specs.Pieces.{Plan}
use Rattle.control_points.specs.Runs.{standing_at}
use Rattle.control_points.specs.Wired.{asserts_of}
use Rattle.control_points.proofs.Blocks.{get_mapped}
use Rattle.control_points.proofs.Exits.{flow_pairs}
use Rattle.control_points.proofs.JudgedPieces.{Found, Row, laid, own_of, rows_long}
use Rattle.control_points.proofs.JudgedRoutines.{JudgesAll, routines_all}
use Rattle.control_points.proofs.Listed.{same_some}
use Rattle.control_points.proofs.ValidSteps.{IsNumbered, numbers_found}

item_at : {A : Type 0} (xs : List A) (k : ℕ) → k < length xs → (x : A) × (slice_get xs k ≡ Some x)
item_at [] k h = absurd (omega arith)
item_at (x ∷ xs) zero h = (x, refl)
item_at (x ∷ xs) (suc k) h = item_at xs k (omega arith)

module _ (f : Flow) where
  abbrev c : Chart
  c = chart_of f

  abbrev plan : Plan
  plan = plan_of f.program

  abbrev marks : Marks
  marks = routines_marks 0 f.program.routines

  pairs : EdgesPair (length f.program.routines - 1) f.points f.edges
  pairs = flow_pairs f

  -- a routine's result is that of its head
  results : (k : ℕ) (d : Routine) → slice_get f.program.routines k ≡ Some d → result_of (tables f.program) (0 + k) ≡ d.result
  results k d h =
      let same : 0 + k ≡ k = omega arith in
      ap (result_of (tables f.program)) same ∙ ap (λ o. option_and_then (λ (x : Head). x.result) (option_map head_of o)) h

  all : JudgesAll plan (program_piece f.program) 0 marks
  all = routines_all plan 0 f.program.routines 0 f.program.in_scope.outermost results (λ k. let same : 0 + k ≡ k = omega arith in ap (slice_index (starts 0 0 f.program.routines)) same)

  abbrev rows : List Row
  rows = ((all).judges).rows

  found : (k : ℕ) (e : Edge) → slice_get f.edges k ≡ Some e → is_return e.act ≡ false → Found plan 0 rows e
  found k e h on = ((all).judges).edges 0 k e (ap (λ es. slice_get es k) (sym f.exact.edges_are) ∙ h) on

  long : length rows ≡ length marks
  long = rows_long plan (program_piece f.program) 0 (asserts_of marks) (all).judges ∙ length-map marks (λ (m : Mark). m.asserts)

  -- an action judges the same in the flow
  alike : (a : Act) (at : ℕ) → is_return a ≡ false → own_of plan a ≡ act_judgements c at a
  alike act.Skip at h = refl
  alike (act.Assign target value) at h = refl
  alike (act.Copy target source) at h = refl
  alike (act.Call routine actuals slot name) at h = refl
  alike (act.Return k) at h = absurd (no_return h)
    where
      no_return : true ≡ false → ⊥
      no_return e = cc
  alike (act.Goto routine) at h = refl
  alike (act.Test e wanted) at h = refl
  alike (act.Arm selector constants) at h = refl
  alike (act.Enter control bound first down last) at h = refl
  alike (act.Bypass control bound first down last) at h = refl
  alike (act.Next control bound down) at h = refl
  alike (act.Finish control bound down) at h = refl
  alike (act.Read target) at h = refl
  alike act.DropLine at h = refl
  alike (act.Write item) at h = refl
  alike act.EndLine at h = refl

  pub edges_alike : EdgesJudgeAlike c
  edges_alike = record {
    alike = λ j k d e x y same on other.
        let g = found j d x on in
        let h = found k e y other in
        let place : g.place ≡ h.place = omega (arith, g.at, h.at, same) in
        let stands : g.stands ≡ h.stands = same_some (sym g.known ∙ ap (slice_get rows) place ∙ h.known) in
        sym (alike d.act 0 on) ∙ sym g.same ∙ ap (λ (r : Row). r.own) stands ∙ h.same ∙ alike e.act 0 other;
  }

  -- ---- one point

  module _ (p : ℕ) (r : Row) (known : slice_get rows p ≡ Some r) where
    listed_there : standing_at c p ≡ r.listed
    listed_there =
        ap (λ ls. unwrap_or (slice_get ls p) []) (f.exact.asserts_are ∙ sym ((all).judges).listed)
        ∙ ap (λ o. unwrap_or o []) (get_mapped (λ (x : Row). x.listed) rows p ∙ ap (option_map (λ (x : Row). x.listed)) known)

    -- what the first edge judges that leaves the point
    first_there : (ks : List ℕ) → All (IsNumbered f.edges (λ (e : Edge). nat_eq e.from p) 0) ks → 0 < length ks → (q : Point) → slice_get f.points p ≡ Some q → is_exit q.kind ≡ false → first_judgements c ks ≡ r.own
    first_there [] every some q at inner = absurd (omega arith)
    first_there (k ∷ ks) every some q at inner =
        let x = All-head (IsNumbered f.edges (λ (e : Edge). nat_eq e.from p) 0) k ks every in
        let there : slice_get f.edges k ≡ Some x.item = ap (slice_get f.edges) (sym x.number ∙ zero-add x.index) ∙ x.known in
        let from = eqb-true (x.item).from p x.passes in
        let on : is_return (x.item).act ≡ false = pairs.returns k x.item q there (ap (slice_get f.points) from ∙ at) ∙ inner in
        let g = found k x.item there on in
        let place : g.place ≡ p = omega (arith, g.at, from) in
        let stands : g.stands ≡ r = same_some (sym g.known ∙ ap (slice_get rows) place ∙ known) in
        ap (edge_judgements c) there ∙ sym (alike (x.item).act (place_of_point f.points (x.item).from) on) ∙ sym g.same ∙ ap (λ (y : Row). y.own) stands

    leaving_there : (q : Point) → slice_get f.points p ≡ Some q → is_exit q.kind ≡ false → first_judgements c (leaving f.edges p) ≡ r.own
    leaving_there q at inner = first_there (leaving f.edges p) (numbers_found f.edges (λ (e : Edge). nat_eq e.from p) 0) (pairs.goes_on p q at inner) q at inner

    exit_there : (m : Mark) → slice_get marks p ≡ Some m → m.point.kind ≡ kind.Exit → result_judgements (result_of (tables f.program) m.point.routine) m.point.at ≡ r.own
    exit_there m at e = ap (λ (y : Row). y.own) (same_some (sym ((all).exits.each p m at e) ∙ known))

    own_by : (m : Mark) → slice_get marks p ≡ Some m → slice_get f.points p ≡ Some m.point → (k : PointKind) → m.point.kind ≡ k → leaving_judgements c p m.point k ≡ r.own
    own_by m at point kind.Exit is = exit_there m at is
    own_by m at point kind.Entry is = leaving_there m.point point (ap is_exit is)
    own_by m at point kind.Before is = leaving_there m.point point (ap is_exit is)
    own_by m at point kind.AfterCall is = leaving_there m.point point (ap is_exit is)
    own_by m at point kind.AfterRead is = leaving_there m.point point (ap is_exit is)
    own_by m at point kind.AfterWrite is = leaving_there m.point point (ap is_exit is)
    own_by m at point kind.Until is = leaving_there m.point point (ap is_exit is)
    own_by m at point kind.Step is = leaving_there m.point point (ap is_exit is)

    own_there : own_judgements c p ≡ r.own
    own_there =
        let m = item_at marks p (omega (arith, long, slice_get_within rows p r known)) in
        let point : slice_get f.points p ≡ Some (m.0).point = ap (λ ps. slice_get ps p) f.exact.points_are ∙ get_mapped (λ (x : Mark). x.point) marks p ∙ ap (option_map (λ (x : Mark). x.point)) m.1 in
        ap (judgements_at c p) point ∙ own_by m.0 m.1 point (m.0).point.kind refl

    row_there : assert_judgements f.program.asserts r.listed ++ r.own ≡ point_judgements c p
    row_there = ap (λ l. assert_judgements f.program.asserts l ++ r.own) (sym listed_there) ∙ ap (λ js. assert_judgements f.program.asserts (standing_at c p) ++ js) (sym own_there)

  -- ---- all points

  checks_laid : (low : ℕ) (rs : List Row) → ((k : ℕ) (r : Row) → slice_get rs k ≡ Some r → assert_judgements f.program.asserts r.listed ++ r.own ≡ point_judgements c (low + k))
      → laid f.program.asserts low rs ≡ checks_from c low (length rs)
  checks_laid low [] h = refl
  checks_laid low (r ∷ rs) h =
      let here : low + 0 ≡ low = omega arith in
      ap (λ js. checks_at low (faults_of js) ++ laid f.program.asserts (suc low) rs) (h 0 r refl ∙ ap (point_judgements c) here)
      ∙ ap (λ cs. checks_at low (faults_of (point_judgements c low)) ++ cs)
      (checks_laid (suc low) rs (λ k x e. let n : low + suc k ≡ suc low + k = omega arith in h (suc k) x e ∙ ap (point_judgements c) n))

  pub checks_are : f.checks ≡ checks_from c 0 (length f.points)
  checks_are =
      let many : length rows ≡ length f.points = long ∙ sym (length-map marks (λ (m : Mark). m.point)) ∙ sym (ap length f.exact.points_are) in
      f.exact.checks_are ∙ ((all).judges).checks 0
      ∙ checks_laid 0 rows (λ k r h. let n : k ≡ 0 + k = omega arith in row_there k r h ∙ ap (point_judgements c) n)
      ∙ ap (checks_from c 0) many
