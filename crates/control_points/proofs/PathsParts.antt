-- Parts of statements by paths: how many points they have, which is the first, and what their own actions draw.
use Rattle.std.proofs.Common.{◌≡◌, ℕ, suc, ◌+◌, ◌<◌, Bool, true, false, List, [], ◌∷◌, ◌++◌, map, length, refl, sym, ap, subst, ◌∙◌, arith}
use Rattle.pas_program.specs.declared.expr.Expr.{Expr}
use Rattle.pas_program.specs.declared.statement.Arm.{Arm}
use Rattle.pas_program.specs.declared.statement.Body.TheViews.{out-Statement, roll-out-Statement}
use Rattle.pas_program.specs.declared.statement.Statement.{Statement}
use Rattle.control_points.specs.declared.edge.Act.{Act}
use Rattle.control_points.specs.declared.edge.Act.TheVariants as act
use Rattle.control_points.specs.Calls.{Sites, expr_calls}
use Rattle.control_points.specs.Checking.{Faults, expr_checks}
use Rattle.control_points.specs.Edges.{laid_arm}
use Rattle.control_points.specs.Extents.{statement_extent, statements_extent}
use Rattle.control_points.specs.Pieces.{Plan, procedure_call}
use Rattle.control_points.specs.Pieces as pieces
use Rattle.control_points.specs.Sites.{Path, Piece, Placing, Site, action, before, both, condition, in_order, line_act, no_arms, way}
use Rattle.control_points.proofs.Inside.{statement_inside, statements_inside}
use Rattle.control_points.proofs.PathsActions.{AreReady, action_draws, action_many, condition_draws}
use Rattle.control_points.proofs.PathsDrawn.{Draws, IsAt, draws_bare, draws_inner, draws_knowing, draws_nothing, draws_own, draws_way}
use Rattle.control_points.proofs.PathsLevels.{placed, placed_arm, placed_body, statement_opened}
use Rattle.control_points.proofs.PathsLists.{EachFrom, each_first, each_front, each_past}
use Rattle.control_points.proofs.PathsMarked.{marked_many}
use Rattle.control_points.proofs.PathsMarks.{statement_marks_are, statements_marks_are}

module _ (g h : Site → ℕ) (plan : Plan) (label : ℕ → ℕ → Site) (r : ℕ) where
  abbrev pub place : Statement → Placing
  place = placed plan.tables plan.asserts r label

  -- ---- how many points there are, and where the first is

  pub statement_many : (s : Statement) (path : Path) (next : Site) → length (place s path next).points ≡ (statement_extent s).points
  statement_many s path next = marked_many r _ _ _ (statement_marks_are plan.tables plan.asserts r label s path next) ∙ (statement_inside s r).count

  pub statements_many : (n : ℕ) (body : List Statement) (path : Path) (next : Site) → length (in_order plan.tables plan.asserts r n (map place body) path next).points ≡ (statements_extent body).points
  statements_many n body path next = marked_many r _ _ _ (statements_marks_are plan.tables plan.asserts r label n body path next) ∙ (statements_inside r body).count

  abbrev pub start_of : Path → Site
  start_of path = before plan.tables plan.asserts r path

  -- the point before a statement is the first of its points
  pub statement_first : (s : Statement) (path : Path) (next : Site) (k : ℕ) → EachFrom (IsAt g h) k (place s path next).points → g (start_of path) ≡ k
  statement_first s path next k n =
      let d = out-Statement s in
      let opened = ap (λ z. place z path next) (sym (roll-out-Statement s)) ∙ statement_opened plan.tables plan.asserts r label d path next in
      each_first (IsAt g h) k (record { site = start_of path; at = d.at; asserts = d.asserts }) (placed_body plan.tables plan.asserts r label d.body d.at path next).points
      (subst (λ (p : Piece). EachFrom (IsAt g h) k p.points) opened n)

  pub order_first : (n : ℕ) (body : List Statement) (path : Path) (next : Site) (k : ℕ) → 0 < length body → EachFrom (IsAt g h) k (in_order plan.tables plan.asserts r n (map place body) path next).points → g (start_of (path ++ n ∷ [])) ≡ k
  order_first n [] path next k some e = absurd (omega arith)
  order_first n (s ∷ []) path next k some e = statement_first s (path ++ n ∷ []) next k e
  order_first n (s ∷ u ∷ body) path next k some e =
      let front = (place s (path ++ n ∷ []) (start_of (path ++ suc n ∷ []))).points in
      statement_first s (path ++ n ∷ []) (start_of (path ++ suc n ∷ [])) k
      (each_front (IsAt g h) k front (in_order plan.tables plan.asserts r (suc n) (map place (u ∷ body)) path next).points e)

  -- ---- a `case` without arms, and the end of a line

  pub no_arms_draw : (arms : List Arm) (selector : Expr) (source next : Site) (start s n : ℕ) → g source ≡ s → g next ≡ n → Draws g h (no_arms plan.tables plan.asserts r (map (placed_arm plan.tables plan.asserts r label) arms) selector source next) start (pieces.no_arms (map (laid_arm plan) arms) selector s n)
  no_arms_draw [] selector source next start s n e f = draws_way g h source next (act.Arm selector []) start s n e f
  no_arms_draw (a ∷ arms) selector source next start s n e f = draws_nothing g h start

  pub no_arms_many : (arms : List Arm) (selector : Expr) (source next : Site) → length (no_arms plan.tables plan.asserts r (map (placed_arm plan.tables plan.asserts r label) arms) selector source next).points ≡ 0
  no_arms_many [] selector source next = refl
  no_arms_many (a ∷ arms) selector source next = refl

  pub same_line : (line : Bool) (a : Act) → line_act plan.tables plan.asserts r line a ≡ pieces.line_act line a
  same_line true a = refl
  same_line false a = refl

  -- ---- the action of a statement, with what stands inside

  -- an action with calls, and nothing inside
  pub own_body : (path : Path) (calls : Sites) (faults : Faults) (rest : Site → Piece) (here : ℕ) (o : pieces.Piece) → AreReady g h plan r calls → g (start_of path) ≡ here
      → ((point : Site) (k : ℕ) → g point ≡ here + length calls → Draws g h (rest point) k o)
      → Draws g h (action plan.tables plan.asserts r path (start_of path) calls faults rest) (here + 1) (pieces.both (pieces.calls plan calls here) (pieces.both (pieces.both (pieces.judged (here + length calls) faults) o) pieces.nothing))
  own_body path calls faults rest here o are e f =
      draws_own g h _ (here + 1) (pieces.calls plan calls here) (pieces.both (pieces.judged (here + length calls) faults) o)
      (action_draws g h plan r plan.asserts path (start_of path) calls faults rest here o are e (λ point at. f point (here + 1 + length calls) at))

  -- an action without calls, and nothing inside
  pub bare_body : (p : Piece) (here : ℕ) (o : pieces.Piece) → Draws g h p (here + 1) o → Draws g h p (here + 1) (pieces.both pieces.nothing (pieces.both o pieces.nothing))
  bare_body p here o d = draws_own g h p (here + 1) pieces.nothing o (draws_bare g h p (here + 1) o d)

  -- the condition of a statement, with what stands inside it behind
  pub condition_body : (path : Path) (cond : Expr) (held failed : Site) (inner : Piece) (here m n : ℕ) (i : pieces.Piece) → AreReady g h plan r (expr_calls cond) → g (start_of path) ≡ here
      → (EachFrom (IsAt g h) (here + length (expr_calls cond) + 1) inner.points → (g held ≡ m) × (g failed ≡ n) × Draws g h inner (here + length (expr_calls cond) + 1) i)
      → Draws g h (both (condition plan.tables plan.asserts r path (start_of path) cond held failed) inner) (here + 1) (pieces.both (pieces.calls plan (expr_calls cond) here) (pieces.both (pieces.condition plan cond (here + length (expr_calls cond)) m n) i))
  condition_body path cond held failed inner here m n i are e f =
      let front = condition plan.tables plan.asserts r path (start_of path) cond held failed in
      let b = here + length (expr_calls cond) + 1 in
      let long = action_many g h plan r plan.asserts path (start_of path) (expr_calls cond) (expr_checks plan.tables cond) (λ point. both (way point (act.Test cond true) held) (way point (act.Test cond false) failed)) in
      let many : b ≡ here + 1 + length front.points = omega (arith, long) in
      draws_knowing g h (both front inner) (here + 1) _
      (λ known.
      let w = f (each_past (IsAt g h) (here + 1) b front.points inner.points many known) in
      draws_inner g h front inner (here + 1) b (pieces.calls plan (expr_calls cond) here) (pieces.condition plan cond (here + length (expr_calls cond)) m n) i many
      (condition_draws g h plan r plan.asserts path (start_of path) cond held failed here m n are e w.0 w.1) w.2)

  -- a statement without a first action, with what stands inside it behind
  pub entered_body : (path : Path) (inner : Piece) (here : ℕ) (i : pieces.Piece) → g (start_of path) ≡ here
      → (EachFrom (IsAt g h) (here + 1) inner.points → (g (start_of (path ++ 0 ∷ [])) ≡ here + 1) × Draws g h inner (here + 1) i)
      → Draws g h (both (way (start_of path) act.Skip (start_of (path ++ 0 ∷ []))) inner) (here + 1) (pieces.both pieces.nothing (pieces.both (pieces.way here act.Skip (here + 1)) i))
  entered_body path inner here i e f =
      let first = way (start_of path) act.Skip (start_of (path ++ 0 ∷ [])) in
      draws_knowing g h (both first inner) (here + 1) _
      (λ known.
      let w = f known in
      draws_inner g h first inner (here + 1) (here + 1) pieces.nothing (pieces.way here act.Skip (here + 1)) i (omega arith)
      (draws_bare g h first (here + 1) (pieces.way here act.Skip (here + 1)) (draws_way g h _ _ act.Skip (here + 1) here (here + 1) e w.0)) w.1)
