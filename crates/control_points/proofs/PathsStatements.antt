-- A statement by paths draws the one by numbers.
use Rattle.std.proofs.Common.{◌≡◌, ℕ, zero, suc, ◌+◌, ◌<◌, Bool, true, ◌&&◌, List, [], ◌∷◌, ◌++◌, map, length, refl, sym, ap, subst, ◌∙◌, Option, Some, None, ℤ, arith}
use Rattle.std.proofs.lemmas.Bool.{and_parts}
use Rattle.std.proofs.lemmas.List.{length-map}
use Rattle.std.proofs.lemmas.Option.{none-some}
use Rattle.std.specs.List.{list_all, slice_get}
use Rattle.std.specs.Option.{option_map}
use Rattle.pas_program.proofs.Weaker.{With, to_body, to_statement}
use Rattle.pas_program.specs.declared.expr.Access.{Access}
use Rattle.pas_program.specs.declared.expr.Expr.{Expr}
use Rattle.pas_program.specs.declared.statement.Arm.{Arm}
use Rattle.pas_program.specs.declared.statement.Body.{Body}
use Rattle.pas_program.specs.declared.statement.Body.TheOpen.{Arm-F, Body-F, Statement-F}
use Rattle.pas_program.specs.declared.statement.Body.TheFolds.{fold_out-Arm, ind-Statement, map-Arm, map-Body, map-Statement, para-roll-Body, para-roll-Statement}
use Rattle.pas_program.specs.declared.statement.Body.TheViews.{out-Arm, out-roll-Arm, roll-Arm, roll-Body, roll-Statement}
use Rattle.pas_program.specs.declared.statement.Statement.{Statement}
use Rattle.pas_program.specs.declared.statement.WriteItem.{WriteItem}
use Rattle.pas_program.specs.declared.statement.WriteValue.{WriteValue}
use Rattle.pas_program.specs.declared.statement.WriteValue.TheVariants as written
use Rattle.pas_program.specs.Each.{Rule, all_true, arm_of, each_access, each_arm, each_body, each_expr, each_item, each_statement, each_written, true_if_some}
use Rattle.control_points.specs.declared.edge.Act.TheVariants as act
use Rattle.control_points.specs.declared.point.PointKind.TheVariants as kind
use Rattle.control_points.specs.Acts.{callee_passes}
use Rattle.control_points.specs.Calls.{Sites, access_calls, actuals_calls, expr_calls, item_calls, width_calls, written_calls}
use Rattle.control_points.specs.Checking.{access_checks, assert_checks, assigned_checks, bounds_checks, selector_checks}
use Rattle.control_points.specs.Evaluation.{access_type, var_type}
use Rattle.control_points.specs.Edges as numbers
use Rattle.control_points.specs.Edges.{laid_arm, laid_body, laid_statement}
use Rattle.control_points.specs.Extents.{Extent, arm_extent, statement_extent}
use Rattle.control_points.specs.Pieces.{Plan, procedure_call}
use Rattle.control_points.specs.Pieces as pieces
use Rattle.control_points.specs.Sites.{Path, Piece, Placed, Placing, Site, action, arms_from, asserted_point, before, body_step, both, call_checks, call_links, condition, in_order, judged, line_act, made, no_arms, nothing, point_of, statement_step, way}
use Rattle.control_points.specs.Sites as sites
use Rattle.control_points.proofs.Fitting.{EachSite, Passes, both_sites, no_site, rule_of_access, rule_of_actuals, rule_of_expr}
use Rattle.control_points.proofs.Followed.{both_again}
use Rattle.control_points.proofs.Laying.{arm_piece_is, points_of_laid}
use Rattle.control_points.proofs.Listed.{same_some}
use Rattle.control_points.proofs.PathsActions.{AreReady, action_draws, action_many, condition_draws, reads_draw, two_ways_draw, writes_draw}
use Rattle.control_points.proofs.PathsDrawn.{Draws, IsAt, IsReady, draws_asserted, draws_both, draws_call, draws_inner, draws_judged, draws_knowing, draws_like, draws_nothing, draws_point, draws_way, none_before, none_behind, same_behind}
use Rattle.control_points.proofs.PathsLevels.{body_opened, placed, placed_arm, placed_body, placed_in, statement_opened}
use Rattle.control_points.proofs.PathsLists.{each_first, each_front, each_past}
use Rattle.control_points.proofs.Sized.{arm_is, arm_rule}
use Rattle.control_points.proofs.PathsParts.{bare_body, condition_body, entered_body, no_arms_draw, no_arms_many, order_first, own_body, same_line, start_of, statement_first, statement_many, statements_many}

pub true_at : {A : Type 0} (f : A → Bool) (xs : List A) (k : ℕ) (x : A) → slice_get xs k ≡ Some x → all_true (map f xs) ≡ true → f x ≡ true
true_at f [] k x e a = absurd (none-some x e)
true_at f (y ∷ xs) zero x e a = ap f (sym (same_some e)) ∙ (and_parts (f y) _ a).0
true_at f (y ∷ xs) (suc k) x e a = true_at f xs k x e (and_parts (f y) _ a).1

-- the rules are met by what stands in the routine: q by calls and by the length of sequences, u by labels
module _ (g h : Site → ℕ) (plan : Plan) (label : ℕ → ℕ → Site) (r : ℕ) (q u : Rule)
    (ready : (routine : ℕ) (slot : Option ℕ) → callee_passes q routine slot ≡ true → IsReady g h plan routine)
    (some : (n : ℕ) → q.sequence n ≡ true → 0 < n)
    (jumps : (s n : ℕ) → u.jump s n ≡ true → g (label s n) ≡ plan.label s n) where
  sites_ready : (calls : Sites) → EachSite (Passes q) calls → AreReady g h plan r calls
  sites_ready calls e = record { each = λ k c i. ready c.routine c.slot (and_parts (callee_passes q c.routine c.slot) _ (e.each k c i)).0 }

  expr_ready : (e : Expr) → each_expr q e ≡ true → AreReady g h plan r (expr_calls e)
  expr_ready e i = sites_ready (expr_calls e) (rule_of_expr q e i)

  written_passes : (v : WriteValue) → each_written q v ≡ true → EachSite (Passes q) (written_calls v)
  written_passes (written.Value e) i = rule_of_expr q e i
  written_passes (written.Text bytes at) i = no_site (Passes q)

  width_passes : (w : Option Expr) → true_if_some (option_map (each_expr q) w) ≡ true → EachSite (Passes q) (width_calls w)
  width_passes None i = no_site (Passes q)
  width_passes (Some e) i = rule_of_expr q e i

  item_ready : (item : WriteItem) → each_item q item ≡ true → AreReady g h plan r (item_calls item)
  item_ready item i =
      let p = and_parts (each_written q item.value) _ i in
      sites_ready (item_calls item) (both_sites (Passes q) (written_calls item.value) (width_calls item.width) (written_passes item.value p.0) (width_passes item.width p.1))

  -- ---- statements

  abbrev OfBody : Body → Type 0
  OfBody b = each_body q b ≡ true → each_body u b ≡ true → (at : ℕ) (path : Path) (next : Site) (here n : ℕ) → g (start_of g h plan label r path) ≡ here → g next ≡ n
      → Draws g h (placed_body plan.tables plan.asserts r label b at path next) (here + 1) (numbers.body_piece plan b here n)

  abbrev OfStatement : Statement → Type 0
  OfStatement s = each_statement q s ≡ true → each_statement u s ≡ true → (path : Path) (next : Site) (here n : ℕ) → g next ≡ n → Draws g h (placed plan.tables plan.asserts r label s path next) here (numbers.statement_piece plan s here n)

  abbrev OfArm : Arm → Type 0
  OfArm a = OfStatement (out-Arm a).body

  abbrev statements : List (With OfStatement) → List Statement
  statements ys = map (λ (y : With OfStatement). y.0) ys

  abbrev arms_in : List (With OfArm) → List Arm
  arms_in ys = map (λ (y : With OfArm). y.0) ys

  -- one after another, at a path
  abbrev ordered : ℕ → List Statement → Placing
  ordered k body = in_order plan.tables plan.asserts r k (map (placed plan.tables plan.asserts r label) body)

  order_draws : (k : ℕ) (ys : List (With OfStatement)) (path : Path) (next : Site) (here n : ℕ) → all_true (map (each_statement q) (statements ys)) ≡ true → all_true (map (each_statement u) (statements ys)) ≡ true → g next ≡ n
      → Draws g h (ordered k (statements ys) path next) here (numbers.in_order plan (map (laid_statement plan) (statements ys)) here n)
  order_draws k [] path next here n a b e = draws_nothing g h here
  order_draws k (y ∷ []) path next here n a b e =
      draws_like g h _ here (numbers.statement_piece plan y.0 here n) _ (λ m. sym (none_behind (numbers.statement_piece plan y.0 here n) m))
      (y.1 (and_parts (each_statement q y.0) _ a).0 (and_parts (each_statement u y.0) _ b).0 (path ++ k ∷ []) next here n e)
  order_draws k (y ∷ z ∷ ys) path next here n a b e =
      let p = and_parts (each_statement q y.0) _ a in
      let s = and_parts (each_statement u y.0) _ b in
      let second = start_of g h plan label r (path ++ suc k ∷ []) in
      let front = placed plan.tables plan.asserts r label y.0 (path ++ k ∷ []) second in
      let rest = ordered (suc k) (statements (z ∷ ys)) path next in
      let behind = here + (statement_extent y.0).points in
      let many : behind ≡ here + length front.points = ap (λ m. here + m) (sym (statement_many g h plan label r y.0 (path ++ k ∷ []) second)) in
      draws_knowing g h (both front rest) here _
      (λ known.
      let at : g second ≡ behind = order_first g h plan label r (suc k) (statements (z ∷ ys)) path next behind (omega arith) (each_past (IsAt g h) here behind front.points rest.points many known) in
      draws_both g h front rest here behind _ _ many (y.1 p.0 s.0 (path ++ k ∷ []) second here behind at) (order_draws (suc k) (z ∷ ys) path next behind n p.1 s.1 e))

  placed_arm_is : (a : Arm) → placed_arm plan.tables plan.asserts r label a ≡ ((out-Arm a).consts, placed plan.tables plan.asserts r label (out-Arm a).body)
  placed_arm_is a = fold_out-Arm (ℕ → Placing) (List ℤ × Placing) Placing (body_step plan.tables plan.asserts r label) (λ x. (x.consts, x.body)) (statement_step plan.tables plan.asserts r label) a

  arms_draw : (k : ℕ) (selector : Expr) (source : Site) (ys : List (With OfArm)) (path : Path) (next : Site) (s here n : ℕ) → all_true (map (λ (x : Bool × List ℤ). x.0) (map (arm_of q) (arms_in ys))) ≡ true → all_true (map (λ (x : Bool × List ℤ). x.0) (map (arm_of u) (arms_in ys))) ≡ true → g source ≡ s → g next ≡ n
      → Draws g h (arms_from plan.tables plan.asserts r k selector source (map (placed_arm plan.tables plan.asserts r label) (arms_in ys)) path next) here (numbers.arms_from plan selector s (map (laid_arm plan) (arms_in ys)) here n)
  arms_draw k selector source [] path next s here n a b e f = draws_nothing g h here
  arms_draw k selector source (y ∷ ys) path next s here n a b e f =
      let p = and_parts (each_arm q y.0) _ a in
      let o = and_parts (each_arm u y.0) _ b in
      let body = (out-Arm y.0).body in
      let action = act.Arm selector (out-Arm y.0).consts in
      let inside = start_of g h plan label r (path ++ k ∷ []) in
      let first = placed plan.tables plan.asserts r label body (path ++ k ∷ []) next in
      let rest = arms_from plan.tables plan.asserts r (suc k) selector source (map (placed_arm plan.tables plan.asserts r label) (arms_in ys)) path next in
      let behind = here + (arm_extent y.0).points in
      let more = numbers.arms_from plan selector s (map (laid_arm plan) (arms_in ys)) behind n in
      let many : behind ≡ here + length first.points = ap (λ m. here + m) (ap (λ (x : Extent). x.points) (arm_is y.0) ∙ sym (statement_many g h plan label r body (path ++ k ∷ []) next)) in
      let whole : Draws g h (both (way source action inside) (both first rest)) here (pieces.both (pieces.way s action here) (pieces.both (numbers.statement_piece plan body here n) more)) =
      draws_knowing g h _ here _
      (λ known.
      let at : g inside ≡ here = statement_first g h plan label r body (path ++ k ∷ []) next here (each_front (IsAt g h) here first.points rest.points known) in
      draws_both g h (way source action inside) (both first rest) here here _ _ (omega arith) (draws_way g h source inside action here s here e at)
      (draws_both g h first rest here behind _ _ many (y.1 (arm_rule q y.0 p.0) (arm_rule u y.0 o.0) (path ++ k ∷ []) next here n f) (arms_draw (suc k) selector source ys path next s behind n p.1 o.1 e f))) in
      subst (λ (z : List ℤ × Placing). Draws g h (both (way source (act.Arm selector z.0) inside) (both (z.1 (path ++ k ∷ []) next) rest)) here (pieces.both (pieces.way s action here) (pieces.both (numbers.arm_piece plan y.0 here n) more))) (sym (placed_arm_is y.0))
      (subst (λ (z : numbers.Placing). Draws g h (both (way source action inside) (both first rest)) here (pieces.both (pieces.way s action here) (pieces.both (z here n) more))) (sym (arm_piece_is plan y.0)) whole)

  -- ---- one level

  from_body : (d : Body-F Body Arm Statement) (at : ℕ) (path : Path) (next : Site) (here n : ℕ) → Draws g h (body_step plan.tables plan.asserts r label (placed_in plan.tables plan.asserts r label d) at path next) (here + 1) (numbers.body_step plan (laid_body plan d) here n)
      → Draws g h (placed_body plan.tables plan.asserts r label (roll-Body d) at path next) (here + 1) (numbers.body_piece plan (roll-Body d) here n)
  from_body d at path next here n w =
      subst (λ p. Draws g h p (here + 1) (numbers.body_piece plan (roll-Body d) here n)) (sym (body_opened plan.tables plan.asserts r label d at path next))
      (subst (λ (f : numbers.Placing). Draws g h (body_step plan.tables plan.asserts r label (placed_in plan.tables plan.asserts r label d) at path next) (here + 1) (f here n))
      (sym (para-roll-Body numbers.Placing numbers.Placing numbers.Placing (numbers.body_step plan) (λ a. a.body.1) (numbers.statement_step plan) d)) w)

  -- the number of a point behind no calls
  same_here : (here : ℕ) → here ≡ here + 0
  same_here here = omega arith

  some_of : {A : Type 0} (f : A → Bool) (xs : List A) → 0 < length (map f xs) → 0 < length xs
  some_of f xs e = omega (arith, e, length-map xs f)

  of_body : (y : Body-F (With OfBody) (With OfArm) (With OfStatement)) → OfBody (roll-Body (map-Body (With OfBody) (With OfArm) (With OfStatement) Body Arm Statement (λ e. e.0) (λ e. e.0) (λ e. e.0) y))
  of_body Body-F.Empty a b at path next here n e f =
      from_body Body-F.Empty at path next here n
      (bare_body g h plan label r _ here (pieces.way (here + 0) act.Skip n) (draws_way g h _ next act.Skip (here + 1) (here + 0) n (e ∙ same_here here) f))
  of_body (Body-F.Assign target value) a b at path next here n e f =
      let p = and_parts (each_access q target) _ (to_body q (Body-F.Assign target value) a) in
      let calls = access_calls target ++ expr_calls value in
      let are = sites_ready calls (both_sites (Passes q) (access_calls target) (expr_calls value) (rule_of_access q target p.0) (rule_of_expr q value p.1)) in
      from_body (Body-F.Assign target value) at path next here n
      (own_body g h plan label r path calls (access_checks plan.tables target ++ assigned_checks plan.tables (access_type plan.tables target) value) (λ point. way point (act.Assign target value) next) here _ are e
      (λ point k i. draws_way g h point next (act.Assign target value) k (here + length calls) n i f))
  of_body (Body-F.Copy target source) a b at path next here n e f =
      let p = and_parts (each_access q target) _ (to_body q (Body-F.Copy target source) a) in
      let calls = access_calls target ++ access_calls source in
      let are = sites_ready calls (both_sites (Passes q) (access_calls target) (access_calls source) (rule_of_access q target p.0) (rule_of_access q source p.1)) in
      from_body (Body-F.Copy target source) at path next here n
      (own_body g h plan label r path calls (access_checks plan.tables target ++ access_checks plan.tables source) (λ point. way point (act.Copy target source) next) here _ are e
      (λ point k i. draws_way g h point next (act.Copy target source) k (here + length calls) n i f))
  of_body (Body-F.Call routine actuals name) a b at path next here n e f =
      let p = and_parts (q.invoke routine) _ (to_body q (Body-F.Call routine actuals name) a) in
      let c = procedure_call routine actuals name in
      let calls = actuals_calls actuals in
      let are = sites_ready calls (rule_of_actuals q actuals p.1) in
      from_body (Body-F.Call routine actuals name) at path next here n
      (own_body g h plan label r path calls (call_checks plan.tables c) (λ point. call_links c point next) here (pieces.call_ways plan c (here + length calls) n) are e
      (λ point k i. draws_call g h plan c point next k (here + length calls) n (ready routine None p.0) i f))
  of_body (Body-F.Read targets line) a b at path next here n e f =
      let end = line_act plan.tables plan.asserts r line act.DropLine in
      let are : (j : ℕ) (target : Access) → slice_get targets j ≡ Some target → AreReady g h plan r (access_calls target) =
      λ j target i. sites_ready (access_calls target) (rule_of_access q target (true_at (each_access q) targets j target i (to_body q (Body-F.Read targets line) a))) in
      from_body (Body-F.Read targets line) at path next here n
      (bare_body g h plan label r _ here (pieces.reads plan targets (pieces.line_act line act.DropLine) (here + 0) n)
      (subst (λ s. Draws g h (sites.reads plan.tables plan.asserts r path 0 0 (start_of g h plan label r path) end targets next) (here + 1) (pieces.reads plan targets (pieces.line_act line act.DropLine) s n)) (same_here here)
      (subst (λ z. Draws g h (sites.reads plan.tables plan.asserts r path 0 0 (start_of g h plan label r path) end targets next) (here + 1) (pieces.reads plan targets z here n)) (same_line g h plan label r line act.DropLine)
      (reads_draw g h plan r plan.asserts path 0 0 (start_of g h plan label r path) end targets next here n are e f))))
  of_body (Body-F.Write items line) a b at path next here n e f =
      let end = line_act plan.tables plan.asserts r line act.EndLine in
      let are : (j : ℕ) (item : WriteItem) → slice_get items j ≡ Some item → AreReady g h plan r (item_calls item) = λ j item i. item_ready item (true_at (each_item q) items j item i (to_body q (Body-F.Write items line) a)) in
      from_body (Body-F.Write items line) at path next here n
      (bare_body g h plan label r _ here (pieces.writes plan items (pieces.line_act line act.EndLine) (here + 0) n)
      (subst (λ s. Draws g h (sites.writes plan.tables plan.asserts r path 0 0 (start_of g h plan label r path) end items next) (here + 1) (pieces.writes plan items (pieces.line_act line act.EndLine) s n)) (same_here here)
      (subst (λ z. Draws g h (sites.writes plan.tables plan.asserts r path 0 0 (start_of g h plan label r path) end items next) (here + 1) (pieces.writes plan items z here n)) (same_line g h plan label r line act.EndLine)
      (writes_draw g h plan r plan.asserts path 0 0 (start_of g h plan label r path) end items next here n are e f))))
  of_body (Body-F.Goto routine number) a b at path next here n e f =
      from_body (Body-F.Goto routine number) at path next here n
      (bare_body g h plan label r _ here (pieces.way (here + 0) (act.Goto routine) (plan.label routine number))
      (draws_way g h _ (label routine number) (act.Goto routine) (here + 1) (here + 0) (plan.label routine number) (e ∙ same_here here) (jumps routine number (to_body u (Body-F.Goto routine number) b))))
  of_body (Body-F.Begin body end) a b at path next here n e f =
      let p = and_parts (q.sequence (length (map (each_statement q) (statements body)))) _ (to_body q (Body-F.Begin (statements body) end) a) in
      let o = and_parts (u.sequence (length (map (each_statement u) (statements body)))) _ (to_body u (Body-F.Begin (statements body) end) b) in
      let many = some_of (each_statement q) (statements body) (some _ p.0) in
      from_body (Body-F.Begin (statements body) end) at path next here n
      (subst (λ s. Draws g h (both (way (start_of g h plan label r path) act.Skip (start_of g h plan label r (path ++ 0 ∷ []))) (ordered 0 (statements body) path next)) (here + 1)
      (pieces.both pieces.nothing (pieces.both (pieces.way s act.Skip (s + 1)) (numbers.in_order plan (map (laid_statement plan) (statements body)) (s + 1) n)))) (same_here here)
      (entered_body g h plan label r path (ordered 0 (statements body) path next) here _ e
      (λ known. (order_first g h plan label r 0 (statements body) path next (here + 1) many known, order_draws 0 body path next (here + 1) n p.1 o.1 f))))
  of_body (Body-F.If cond first None) a b at path next here n e f =
      let p = and_parts (each_expr q cond) _ (to_body q (Body-F.If cond first.0 None) a) in
      let o = and_parts (each_expr u cond) _ (to_body u (Body-F.If cond first.0 None) b) in
      let p1 = and_parts (each_statement q first.0) _ p.1 in
      let o1 = and_parts (each_statement u first.0) _ o.1 in
      let k = here + length (expr_calls cond) + 1 in
      let inside = placed plan.tables plan.asserts r label first.0 (path ++ 0 ∷ []) next in
      let many = statement_many g h plan label r first.0 (path ++ 0 ∷ []) next in
      from_body (Body-F.If cond first.0 None) at path next here n
      (condition_body g h plan label r path cond (start_of g h plan label r (path ++ 0 ∷ [])) next (both inside nothing) here k n _ (expr_ready cond p.0) e
      (λ known. (
        statement_first g h plan label r first.0 (path ++ 0 ∷ []) next k (each_front (IsAt g h) k inside.points [] known),
        f,
        draws_both g h inside nothing k (k + length inside.points) _ pieces.nothing refl (first.1 p1.0 o1.0 (path ++ 0 ∷ []) next k n f) (draws_nothing g h _),
      )))
  of_body (Body-F.If cond first (Some second)) a b at path next here n e f =
      let p = and_parts (each_expr q cond) _ (to_body q (Body-F.If cond first.0 (Some second.0)) a) in
      let o = and_parts (each_expr u cond) _ (to_body u (Body-F.If cond first.0 (Some second.0)) b) in
      let p1 = and_parts (each_statement q first.0) _ p.1 in
      let o1 = and_parts (each_statement u first.0) _ o.1 in
      let k = here + length (expr_calls cond) + 1 in
      let behind = k + (statement_extent first.0).points in
      let inside = placed plan.tables plan.asserts r label first.0 (path ++ 0 ∷ []) next in
      let otherwise = placed plan.tables plan.asserts r label second.0 (path ++ 1 ∷ []) next in
      let many : behind ≡ k + length inside.points = ap (λ j. k + j) (sym (statement_many g h plan label r first.0 (path ++ 0 ∷ []) next)) in
      from_body (Body-F.If cond first.0 (Some second.0)) at path next here n
      (condition_body g h plan label r path cond (start_of g h plan label r (path ++ 0 ∷ [])) (start_of g h plan label r (path ++ 1 ∷ [])) (both inside otherwise) here k behind _ (expr_ready cond p.0) e
      (λ known. (
        statement_first g h plan label r first.0 (path ++ 0 ∷ []) next k (each_front (IsAt g h) k inside.points otherwise.points known),
        statement_first g h plan label r second.0 (path ++ 1 ∷ []) next behind (each_past (IsAt g h) k behind inside.points otherwise.points many known),
        draws_both g h inside otherwise k behind _ _ many (first.1 p1.0 o1.0 (path ++ 0 ∷ []) next k n f) (second.1 p1.1 o1.1 (path ++ 1 ∷ []) next behind n f),
      )))
  of_body (Body-F.Case selector arms) a b at path next here n e f =
      let p = and_parts (each_expr q selector) _ (to_body q (Body-F.Case selector (arms_in arms)) a) in
      let o = and_parts (each_expr u selector) _ (to_body u (Body-F.Case selector (arms_in arms)) b) in
      let calls = expr_calls selector in
      let source = here + length calls in
      let k = here + 1 + length calls in
      let without = pieces.no_arms (map (laid_arm plan) (arms_in arms)) selector source n in
      let inside = numbers.arms_from plan selector source (map (laid_arm plan) (arms_in arms)) (source + 1) n in
      let judging = pieces.judged source (selector_checks plan.tables selector) in
      let none = λ (point : Site). no_arms plan.tables plan.asserts r (map (placed_arm plan.tables plan.asserts r label) (arms_in arms)) selector point next in
      let some_arms = λ (point : Site). arms_from plan.tables plan.asserts r 0 selector point (map (placed_arm plan.tables plan.asserts r label) (arms_in arms)) path next in
      from_body (Body-F.Case selector (arms_in arms)) at path next here n
      (draws_like g h _ (here + 1) (pieces.both (pieces.calls plan calls here) (pieces.both judging (pieces.both without inside))) _
      (same_behind (pieces.calls plan calls here) (pieces.both judging (pieces.both without inside)) (pieces.both (pieces.both judging without) inside) (λ m. sym (both_again judging without inside m)))
      (action_draws g h plan r plan.asserts path (start_of g h plan label r path) calls (selector_checks plan.tables selector) (λ point. both (none point) (some_arms point)) here (pieces.both without inside) (expr_ready selector p.0) e
      (λ point i.
      let many : source + 1 ≡ k + length (none point).points = omega (arith, no_arms_many g h plan label r (arms_in arms) selector point next) in
      draws_both g h (none point) (some_arms point) k (source + 1) without inside many
      (no_arms_draw g h plan label r (arms_in arms) selector point next k source n i f)
      (arms_draw 0 selector point arms path next source (source + 1) n (and_parts (q.choice _) _ p.1).1 (and_parts (u.choice _) _ o.1).1 i f))))
  of_body (Body-F.While cond body) a b at path next here n e f =
      let p = and_parts (each_expr q cond) _ (to_body q (Body-F.While cond body.0) a) in
      let o = and_parts (each_expr u cond) _ (to_body u (Body-F.While cond body.0) b) in
      let k = here + length (expr_calls cond) + 1 in
      let start = start_of g h plan label r path in
      from_body (Body-F.While cond body.0) at path next here n
      (condition_body g h plan label r path cond (start_of g h plan label r (path ++ 0 ∷ [])) next (placed plan.tables plan.asserts r label body.0 (path ++ 0 ∷ []) start) here k n _ (expr_ready cond p.0) e
      (λ known. (statement_first g h plan label r body.0 (path ++ 0 ∷ []) start k known, f, body.1 p.1 o.1 (path ++ 0 ∷ []) start k here e)))
  of_body (Body-F.Repeat body until cond) a b at path next here n e f =
      let p = and_parts (q.sequence (length (map (each_statement q) (statements body))) && all_true (map (each_statement q) (statements body))) _ (to_body q (Body-F.Repeat (statements body) until cond) a) in
      let o = and_parts (u.sequence (length (map (each_statement u) (statements body))) && all_true (map (each_statement u) (statements body))) _ (to_body u (Body-F.Repeat (statements body) until cond) b) in
      let p1 = and_parts (q.sequence (length (map (each_statement q) (statements body)))) _ p.0 in
      let o1 = and_parts (u.sequence (length (map (each_statement u) (statements body)))) _ o.0 in
      let many = some_of (each_statement q) (statements body) (some _ p1.0) in
      let inside = start_of g h plan label r (path ++ 0 ∷ []) in
      let last : Site = record { routine = r; path = path; kind = kind.Until; number = 0 } in
      let k = here + 1 + numbers.points_of (map (laid_statement plan) (statements body)) in
      let front = ordered 0 (statements body) path last in
      let test = condition plan.tables plan.asserts r path last cond next inside in
      let tested = pieces.both (pieces.calls plan (expr_calls cond) k) (pieces.condition plan cond (k + length (expr_calls cond)) n (here + 1)) in
      let long : k ≡ here + 1 + length front.points = ap (λ j. here + 1 + j) (points_of_laid plan (statements body) ∙ sym (statements_many g h plan label r 0 (statements body) path last)) in
      from_body (Body-F.Repeat (statements body) until cond) at path next here n
      (subst (λ s. Draws g h (both (way (start_of g h plan label r path) act.Skip inside) (both front (both (point_of last until) test))) (here + 1)
      (pieces.both pieces.nothing (pieces.both (pieces.way s act.Skip (s + 1)) (pieces.both (numbers.in_order plan (map (laid_statement plan) (statements body)) (here + 1) k) tested)))) (same_here here)
      (entered_body g h plan label r path (both front (both (point_of last until) test)) here _ e
      (λ known.
      let first : g inside ≡ here + 1 = order_first g h plan label r 0 (statements body) path last (here + 1) many (each_front (IsAt g h) (here + 1) front.points (record { site = last; at = until; asserts = [] } ∷ test.points) known) in
      let there : g last ≡ k = each_first (IsAt g h) k (record { site = last; at = until; asserts = [] }) test.points (each_past (IsAt g h) (here + 1) k front.points (record { site = last; at = until; asserts = [] } ∷ test.points) long known) in (
        first,
        draws_both g h front (both (point_of last until) test) (here + 1) k _ tested long (order_draws 0 body path last (here + 1) k p1.1 o1.1 there)
            (draws_like g h (both (point_of last until) test) k (pieces.both pieces.nothing tested) tested (none_before tested)
            (draws_both g h (point_of last until) test k (k + 1) pieces.nothing tested refl (draws_point g h last until k)
            (condition_draws g h plan r plan.asserts path last cond next inside k n (here + 1) (expr_ready cond p.1) there f first))),
      ))))
  of_body (Body-F.For control bound first down final body) a b at path next here n e f =
      let p = and_parts (q.loop control bound) _ (to_body q (Body-F.For control bound first down final body.0) a) in
      let p1 = and_parts (each_expr q first) _ p.1 in
      let p2 = and_parts (each_expr q final) _ p1.1 in
      let o = and_parts (u.loop control bound) _ (to_body u (Body-F.For control bound first down final body.0) b) in
      let o1 = and_parts (each_expr u first) _ o.1 in
      let o2 = and_parts (each_expr u final) _ o1.1 in
      let calls = expr_calls first ++ expr_calls final in
      let source = here + length calls in
      let k = source + 1 + (statement_extent body.0).points in
      let start = start_of g h plan label r path in
      let inside = start_of g h plan label r (path ++ 0 ∷ []) in
      let step : Site = record { routine = r; path = path; kind = kind.Step; number = 0 } in
      let ways = λ (point : Site). both (way point (act.Enter control bound first down final) inside) (way point (act.Bypass control bound first down final) next) in
      let faults = bounds_checks plan.tables (var_type plan.tables control) first final in
      let front = action plan.tables plan.asserts r path start calls faults ways in
      let turn = placed plan.tables plan.asserts r label body.0 (path ++ 0 ∷ []) step in
      let turned = both (way step (act.Next control bound down) inside) (way step (act.Finish control bound down) next) in
      let behind = both turn (both (point_of step at) turned) in
      let many : source + 1 ≡ here + 1 + length front.points = omega (arith, action_many g h plan r plan.asserts path start calls faults ways) in
      let long : k ≡ source + 1 + length turn.points = ap (λ j. source + 1 + j) (sym (statement_many g h plan label r body.0 (path ++ 0 ∷ []) step)) in
      from_body (Body-F.For control bound first down final body.0) at path next here n
      (draws_knowing g h (both front behind) (here + 1) _
      (λ known.
      let rest = each_past (IsAt g h) (here + 1) (source + 1) front.points behind.points many known in
      let in_is : g inside ≡ source + 1 = statement_first g h plan label r body.0 (path ++ 0 ∷ []) step (source + 1) (each_front (IsAt g h) (source + 1) turn.points (record { site = step; at = at; asserts = [] } ∷ []) rest) in
      let step_is : g step ≡ k = each_first (IsAt g h) k (record { site = step; at = at; asserts = [] }) [] (each_past (IsAt g h) (source + 1) k turn.points (record { site = step; at = at; asserts = [] } ∷ []) long rest) in
      draws_inner g h front behind (here + 1) (source + 1) (pieces.calls plan calls here) (pieces.bounds plan control bound first down final source n) (numbers.loop_piece plan control bound down (laid_statement plan body.0) source n) many
      (action_draws g h plan r plan.asserts path start calls faults ways here _ (sites_ready calls (both_sites (Passes q) (expr_calls first) (expr_calls final) (rule_of_expr q first p1.0) (rule_of_expr q final p2.0))) e
      (λ point i. two_ways_draw g h plan r plan.asserts point inside next (act.Enter control bound first down final) (act.Bypass control bound first down final) (here + 1 + length calls) source (source + 1) n i in_is f))
      (draws_both g h turn (both (point_of step at) turned) (source + 1) k _ _ long (body.1 p2.1 o2.1 (path ++ 0 ∷ []) step (source + 1) k step_is)
      (draws_like g h (both (point_of step at) turned) k (pieces.both pieces.nothing (pieces.turns control bound down k (source + 1) n)) _ (none_before (pieces.turns control bound down k (source + 1) n))
      (draws_both g h (point_of step at) turned k (k + 1) pieces.nothing _ refl (draws_point g h step at k)
      (two_ways_draw g h plan r plan.asserts step inside next (act.Next control bound down) (act.Finish control bound down) (k + 1) k (source + 1) n step_is in_is f))))))

  of_arm : (y : Arm-F (With OfBody) (With OfArm) (With OfStatement)) → OfArm (roll-Arm (map-Arm (With OfBody) (With OfArm) (With OfStatement) Body Arm Statement (λ e. e.0) (λ e. e.0) (λ e. e.0) y))
  of_arm y =
      let d = map-Arm (With OfBody) (With OfArm) (With OfStatement) Body Arm Statement (λ e. e.0) (λ e. e.0) (λ e. e.0) y in
      subst (λ (z : Arm-F Body Arm Statement). OfStatement z.body) (sym (out-roll-Arm d)) y.body.1

  of_statement : (y : Statement-F (With OfBody) (With OfArm) (With OfStatement)) → OfStatement (roll-Statement (map-Statement (With OfBody) (With OfArm) (With OfStatement) Body Arm Statement (λ e. e.0) (λ e. e.0) (λ e. e.0) y))
  of_statement y a b path next here n f =
      let d = map-Statement (With OfBody) (With OfArm) (With OfStatement) Body Arm Statement (λ e. e.0) (λ e. e.0) (λ e. e.0) y in
      let p = and_parts (list_all q.assertion y.asserts) _ (to_statement q d a) in
      let o = and_parts (list_all u.assertion y.asserts) _ (to_statement u d b) in
      let start = start_of g h plan label r path in
      let faults = assert_checks plan.asserts y.asserts in
      let inner = placed_body plan.tables plan.asserts r label y.body.0 y.at path next in
      let behind = both (judged start faults) inner in
      let drawn = pieces.both (pieces.judged here faults) (numbers.body_piece plan y.body.0 here n) in
      subst (λ z. Draws g h z here (numbers.statement_piece plan (roll-Statement d) here n)) (sym (statement_opened plan.tables plan.asserts r label d path next))
      (subst (λ (z : numbers.Placing). Draws g h (both (asserted_point start y.at y.asserts) behind) here (z here n)) (sym (para-roll-Statement numbers.Placing numbers.Placing numbers.Placing (numbers.body_step plan) (λ z. z.body.1) (numbers.statement_step plan) d))
      (draws_knowing g h (both (asserted_point start y.at y.asserts) behind) here drawn
      (λ known.
      let e : g start ≡ here = each_first (IsAt g h) here (record { site = start; at = y.at; asserts = y.asserts }) inner.points known in
      draws_like g h (both (asserted_point start y.at y.asserts) behind) here (pieces.both pieces.nothing drawn) drawn (none_before drawn)
      (draws_both g h (asserted_point start y.at y.asserts) behind here (here + 1) pieces.nothing drawn refl (draws_asserted g h start y.at y.asserts here)
      (draws_both g h (judged start faults) inner (here + 1) (here + 1) _ _ (omega arith) (draws_judged g h start faults (here + 1) here e) (y.body.1 p.1 o.1 y.at path next here n e f))))))

  statement_draws : (s : Statement) → OfStatement s
  statement_draws =
      ind-Statement OfBody OfArm OfStatement
      (λ z y is. subst (λ b. OfBody (roll-Body b)) is (of_body y))
      (λ z y is. subst (λ b. OfArm (roll-Arm b)) is (of_arm y))
      (λ z y is. subst (λ b. OfStatement (roll-Statement b)) is (of_statement y))

  abbrev with_all : List Statement → List (With OfStatement)
  with_all body = map (λ s. (s, statement_draws s)) body

  with_all_same : (body : List Statement) → statements (with_all body) ≡ body
  with_all_same [] = refl
  with_all_same (s ∷ body) = ap (λ xs. s ∷ xs) (with_all_same body)

  pub statements_draw : (k : ℕ) (body : List Statement) (path : Path) (next : Site) (here n : ℕ) → all_true (map (each_statement q) body) ≡ true → all_true (map (each_statement u) body) ≡ true → g next ≡ n
      → Draws g h (ordered k body path next) here (numbers.in_order plan (map (laid_statement plan) body) here n)
  statements_draw k body path next here n =
      subst (λ xs. all_true (map (each_statement q) xs) ≡ true → all_true (map (each_statement u) xs) ≡ true → g next ≡ n → Draws g h (ordered k xs path next) here (numbers.in_order plan (map (laid_statement plan) xs) here n)) (with_all_same body)
      (order_draws k (with_all body) path next here n)
