-- No point stands twice in a statement, and no two calls leave one.
use Rattle.std.proofs.Common.{◌≡◌, ℕ, ℤ, suc, ◌+◌, ◌≤◌, true, false, List, [], ◌∷◌, ◌++◌, map, refl, sym, ap, subst, Some, None, arith}
use Rattle.pas_program.proofs.Weaker.{With}
use Rattle.pas_program.specs.declared.expr.Access.{Access}
use Rattle.pas_program.specs.declared.expr.Actual.TheViews.{out-Access}
use Rattle.pas_program.specs.declared.expr.Expr.{Expr}
use Rattle.pas_program.specs.declared.routine.Assert.{Assert}
use Rattle.pas_program.specs.declared.statement.Arm.{Arm}
use Rattle.pas_program.specs.declared.statement.Body.{Body}
use Rattle.pas_program.specs.declared.statement.Body.TheOpen.{Arm-F, Body-F, Statement-F}
use Rattle.pas_program.specs.declared.statement.Body.TheFolds.{ind-Statement, map-Arm, map-Body, map-Statement}
use Rattle.pas_program.specs.declared.statement.Body.TheViews.{roll-Arm, roll-Body, roll-Statement}
use Rattle.pas_program.specs.declared.statement.Statement.{Statement}
use Rattle.pas_program.specs.declared.statement.WriteItem.{WriteItem}
use Rattle.pas_program.specs.Tables.{Tables}
use Rattle.control_points.specs.declared.edge.Act.{Act}
use Rattle.control_points.specs.declared.edge.Act.TheVariants as act
use Rattle.control_points.specs.declared.point.PointKind.TheVariants as kind
use Rattle.control_points.specs.Calls.{CallSite, Sites, access_calls, actuals_calls, expr_calls, item_calls}
use Rattle.control_points.specs.Checking.{Faults, bounds_checks, expr_checks, selector_checks}
use Rattle.control_points.specs.Evaluation.{var_type}
use Rattle.control_points.specs.Sites.{Made, Path, Piece, Placed, Placing, Site, does, action, arms_from, before, body_step, both, call_checks, call_links, condition, in_order, is_call_from, line_act, made, no_arms, nothing, place_of_written, point_of, reads, same_site, way, writes}
use Rattle.control_points.proofs.PathsLevels.{arm_opened, body_opened, placed, placed_arm, placed_body, placed_in, statement_opened}
use Rattle.control_points.proofs.PathsLists.{bit, times_both}
use Rattle.control_points.proofs.PathsOnce.{IsOnce, at_place, from_number, from_part, first_fits, in_calls, in_points, inner_place, number_split, once_both, once_call, once_nothing, once_point, once_way, once_within, one_of, part_split, room, statement_fits, within}

module _ (t : Tables) (asserts : List Assert) (r : ℕ) (x : Site) where
  -- calls in order, of which the first has the number n and leaves the point source
  record IsMadeOnce (path : Path) (n : ℕ) (source : Site) (m : Made) : Type 0 where
    points : in_points x m.piece.points + from_number x r kind.AfterCall m.number path ≤ from_number x r kind.AfterCall n path
    calls : in_calls x m.piece.links + bit (same_site m.here x) ≤ bit (same_site source x) + in_points x m.piece.points

  made_once : (path : Path) (n : ℕ) (source : Site) (sites : Sites) → IsMadeOnce path n source (made t r path n source sites)
  made_once path n source [] = record { points = omega arith; calls = omega arith }
  made_once path n source (c ∷ sites) =
      let back : Site = record { routine = r; path = path; kind = kind.AfterCall; number = n } in
      let more = made_once path (suc n) back sites in
      let split = number_split x r kind.AfterCall n path in
      record {
        points = omega (arith, more.points, split);
        calls = omega (arith, more.calls);
      }

  action_once : (path : Path) (source : Site) (sites : Sites) (faults : Faults) (rest : Site → Piece) (most : ℕ) → ((here : Site) → IsOnce x (rest here) (bit (same_site here x)) most)
      → IsOnce x (action t asserts r path source sites faults rest) (bit (same_site source x)) (from_number x r kind.AfterCall 0 path + most)
  action_once path source sites faults rest most f =
      let m = made t r path 0 source sites in
      let o = made_once path 0 source sites in
      let e = f m.here in
      let p = times_both (λ (y : Placed). same_site y.site x) m.piece.points (rest m.here).points in
      let c = times_both (is_call_from x) m.piece.links (rest m.here).links in
      record { points = omega (arith, o.points, e.points, p); calls = omega (arith, o.calls, e.calls, p, c) }

  reads_once : (path : Path) (n k : ℕ) (source : Site) (end : Act) (targets : List Access) (next : Site)
      → IsOnce x (reads t asserts r path n k source end targets next) (bit (same_site source x)) (from_number x r kind.AfterCall k path + from_number x r kind.AfterRead n path)
  reads_once path n k source end [] next = once_within x _ 0 _ 0 _ (omega arith) (omega arith) (once_way x source next end)
  reads_once path n k source end (a ∷ targets) next =
      let m = made t r path k source (access_calls a) in
      let o = made_once path k source (access_calls a) in
      let past : Site = record { routine = r; path = path; kind = kind.AfterRead; number = n } in
      let rest = reads t asserts r path (suc n) m.number past end targets next in
      let e = reads_once path (suc n) m.number past end targets next in
      let p = times_both (λ (y : Placed). same_site y.site x) m.piece.points (record { site = past; at = (out-Access a).at; asserts = [] } ∷ rest.points) in
      let c = times_both (is_call_from x) m.piece.links (record { source = m.here; deed = does (act.Read a); target = past } ∷ rest.links) in
      let split = number_split x r kind.AfterRead n path in
      record { points = omega (arith, o.points, e.points, p, split); calls = omega (arith, o.calls, e.calls, p, c) }

  writes_once : (path : Path) (n k : ℕ) (source : Site) (end : Act) (items : List WriteItem) (next : Site)
      → IsOnce x (writes t asserts r path n k source end items next) (bit (same_site source x)) (from_number x r kind.AfterCall k path + from_number x r kind.AfterWrite n path)
  writes_once path n k source end [] next = once_within x _ 0 _ 0 _ (omega arith) (omega arith) (once_way x source next end)
  writes_once path n k source end (item ∷ items) next =
      let m = made t r path k source (item_calls item) in
      let o = made_once path k source (item_calls item) in
      let past : Site = record { routine = r; path = path; kind = kind.AfterWrite; number = n } in
      let rest = writes t asserts r path (suc n) m.number past end items next in
      let e = writes_once path (suc n) m.number past end items next in
      let p = times_both (λ (y : Placed). same_site y.site x) m.piece.points (record { site = past; at = place_of_written t asserts r item.value; asserts = [] } ∷ rest.points) in
      let c = times_both (is_call_from x) m.piece.links (record { source = m.here; deed = does (act.Write item); target = past } ∷ rest.links) in
      let split = number_split x r kind.AfterWrite n path in
      record { points = omega (arith, o.points, e.points, p, split); calls = omega (arith, o.calls, e.calls, p, c) }

  one_way : (s u : Site) (a : Act) → IsOnce x (way s a u) (bit (same_site s x)) 0
  one_way s u a = once_within x _ 0 _ 0 0 (omega arith) (omega arith) (once_way x s u a)

  two_ways : (s u v : Site) (a b : Act) → IsOnce x (both (way s a u) (way s b v)) (bit (same_site s x)) 0
  two_ways s u v a b = once_within x _ 0 _ 0 0 (omega arith) (omega arith) (once_both x _ _ 0 0 0 0 (once_way x s u a) (once_way x s v b))

  condition_once : (path : Path) (source held failed : Site) (cond : Expr) → IsOnce x (condition t asserts r path source cond held failed) (bit (same_site source x)) (from_number x r kind.AfterCall 0 path + 0)
  condition_once path source held failed cond =
      action_once path source (expr_calls cond) (expr_checks t cond) (λ here. both (way here (act.Test cond true) held) (way here (act.Test cond false) failed)) 0
      (λ here. two_ways here held failed (act.Test cond true) (act.Test cond false))

module _ (t : Tables) (asserts : List Assert) (r : ℕ) (label : ℕ → ℕ → Site) (x : Site) where
  abbrev OfBody : Body → Type 0
  OfBody b = (at : ℕ) (path : Path) (next : Site) → IsOnce x (placed_body t asserts r label b at path next) (one_of x r kind.Before 0 path) (room x r path)

  abbrev OfArm : Arm → Type 0
  OfArm a = (path : Path) (next : Site) → IsOnce x ((placed_arm t asserts r label a).1 path next) 0 (within (at_place x r path))

  abbrev OfStatement : Statement → Type 0
  OfStatement s = (path : Path) (next : Site) → IsOnce x (placed t asserts r label s path next) 0 (within (at_place x r path))

  abbrev statements : List (With OfStatement) → List Statement
  statements ys = map (λ (y : With OfStatement). y.0) ys

  abbrev arms_in : List (With OfArm) → List Arm
  arms_in ys = map (λ (y : With OfArm). y.0) ys

  -- a part of a statement
  part_once : (p : Piece) (path : Path) (n : ℕ) → IsOnce x p 0 (within (at_place x r (path ++ n ∷ []))) → IsOnce x p 0 (from_part n (at_place x r path))
  part_once p path n f =
      let s = part_split n (at_place x r path) in
      let e = ap within (inner_place x r path n) in
      once_within x p 0 0 _ _ (omega arith) (omega (arith, s, e)) f

  -- a part with those behind it
  parts_once : (p q : Piece) (path : Path) (n : ℕ) → IsOnce x p 0 (within (at_place x r (path ++ n ∷ []))) → IsOnce x q 0 (from_part (suc n) (at_place x r path)) → IsOnce x (both p q) 0 (from_part n (at_place x r path))
  parts_once p q path n f g =
      let s = part_split n (at_place x r path) in
      let e = ap within (inner_place x r path n) in
      once_within x (both p q) (0 + 0) 0 _ _ (omega arith) (omega (arith, s, e)) (once_both x p q 0 0 _ _ f g)

  order_once : (n : ℕ) (ys : List (With OfStatement)) (path : Path) (next : Site) → IsOnce x (in_order t asserts r n (map (placed t asserts r label) (statements ys)) path next) 0 (from_part n (at_place x r path))
  order_once n [] path next = once_within x nothing 0 0 0 _ (omega arith) (omega arith) (once_nothing x)
  order_once n (y ∷ []) path next = part_once _ path n (y.1 (path ++ n ∷ []) next)
  order_once n (y ∷ u ∷ ys) path next = parts_once _ _ path n (y.1 (path ++ n ∷ []) (before t asserts r (path ++ suc n ∷ []))) (order_once (suc n) (u ∷ ys) path next)

  arms_once : (n : ℕ) (selector : Expr) (source : Site) (ys : List (With OfArm)) (path : Path) (next : Site) → IsOnce x (arms_from t asserts r n selector source (map (placed_arm t asserts r label) (arms_in ys)) path next) 0 (from_part n (at_place x r path))
  arms_once n selector source [] path next = once_within x nothing 0 0 0 _ (omega arith) (omega arith) (once_nothing x)
  arms_once n selector source (y ∷ ys) path next =
      once_within x _ (0 + 0) 0 (0 + from_part n (at_place x r path)) _ (omega arith) (omega arith)
      (once_both x _ _ 0 0 0 _ (once_way x source (before t asserts r (path ++ n ∷ [])) (act.Arm selector (placed_arm t asserts r label y.0).0)) (parts_once _ _ path n (y.1 (path ++ n ∷ []) next) (arms_once (suc n) selector source ys path next)))

  no_arms_once : (arms : List (List ℤ × Placing)) (selector : Expr) (source next : Site) → IsOnce x (no_arms t asserts r arms selector source next) 0 0
  no_arms_once [] selector source next = once_way x source next (act.Arm selector [])
  no_arms_once (arm ∷ arms) selector source next = once_nothing x

  from_body : (d : Body-F Body Arm Statement) (at : ℕ) (path : Path) (next : Site) (source most : ℕ) → source ≤ one_of x r kind.Before 0 path → most ≤ room x r path
      → IsOnce x (body_step t asserts r label (placed_in t asserts r label d) at path next) source most → IsOnce x (placed_body t asserts r label (roll-Body d) at path next) (one_of x r kind.Before 0 path) (room x r path)
  from_body d at path next source most a b h =
      subst (λ p. IsOnce x p (one_of x r kind.Before 0 path) (room x r path)) (sym (body_opened t asserts r label d at path next))
      (once_within x _ source _ most _ a b h)

  of_body : (y : Body-F (With OfBody) (With OfArm) (With OfStatement)) → OfBody (roll-Body (map-Body (With OfBody) (With OfArm) (With OfStatement) Body Arm Statement (λ e. e.0) (λ e. e.0) (λ e. e.0) y))
  of_body Body-F.Empty at path next = from_body Body-F.Empty at path next 0 0 (omega arith) (omega arith) (once_way x _ next act.Skip)
  of_body (Body-F.Assign target value) at path next =
      from_body (Body-F.Assign target value) at path next _ _ (omega arith) (omega arith)
      (action_once t asserts r x path (before t asserts r path) _ _ (λ here. way here (act.Assign target value) next) 0 (λ here. one_way t asserts r x here next (act.Assign target value)))
  of_body (Body-F.Copy target source) at path next =
      from_body (Body-F.Copy target source) at path next _ _ (omega arith) (omega arith)
      (action_once t asserts r x path (before t asserts r path) _ _ (λ here. way here (act.Copy target source) next) 0 (λ here. one_way t asserts r x here next (act.Copy target source)))
  of_body (Body-F.Call routine actuals name) at path next =
      let c : CallSite = record { routine = routine; actuals = actuals; slot = None; at = name } in
      from_body (Body-F.Call routine actuals name) at path next _ _ (omega arith) (omega arith)
      (action_once t asserts r x path (before t asserts r path) (actuals_calls actuals) (call_checks t c) (λ here. call_links c here next) 0 (λ here. once_call x c here next))
  of_body (Body-F.Read targets line) at path next =
      from_body (Body-F.Read targets line) at path next _ _ (omega arith) (omega arith)
      (reads_once t asserts r x path 0 0 (before t asserts r path) (line_act t asserts r line act.DropLine) targets next)
  of_body (Body-F.Write items line) at path next =
      from_body (Body-F.Write items line) at path next _ _ (omega arith) (omega arith)
      (writes_once t asserts r x path 0 0 (before t asserts r path) (line_act t asserts r line act.EndLine) items next)
  of_body (Body-F.Goto routine number) at path next = from_body (Body-F.Goto routine number) at path next 0 0 (omega arith) (omega arith) (once_way x _ (label routine number) (act.Goto routine))
  of_body (Body-F.Begin body end) at path next =
      from_body (Body-F.Begin (statements body) end) at path next (0 + 0) _ (omega arith) (omega arith)
      (once_both x _ _ 0 0 0 _ (once_way x _ (before t asserts r (path ++ 0 ∷ [])) act.Skip) (order_once 0 body path next))
  of_body (Body-F.If cond first None) at path next =
      from_body (Body-F.If cond first.0 None) at path next _ _ (omega arith) (omega arith)
      (once_both x _ _ _ 0 _ _ (condition_once t asserts r x path (before t asserts r path) (before t asserts r (path ++ 0 ∷ [])) next cond)
      (parts_once _ nothing path 0 (first.1 (path ++ 0 ∷ []) next) (once_within x nothing 0 0 0 _ (omega arith) (omega arith) (once_nothing x))))
  of_body (Body-F.If cond first (Some second)) at path next =
      from_body (Body-F.If cond first.0 (Some second.0)) at path next _ _ (omega arith) (omega arith)
      (once_both x _ _ _ 0 _ _ (condition_once t asserts r x path (before t asserts r path) (before t asserts r (path ++ 0 ∷ [])) (before t asserts r (path ++ 1 ∷ [])) cond)
      (parts_once _ _ path 0 (first.1 (path ++ 0 ∷ []) next) (part_once _ path 1 (second.1 (path ++ 1 ∷ []) next))))
  of_body (Body-F.Case selector arms) at path next =
      from_body (Body-F.Case selector (arms_in arms)) at path next _ _ (omega arith) (omega arith)
      (action_once t asserts r x path (before t asserts r path) (expr_calls selector) (selector_checks t selector)
      (λ here. both (no_arms t asserts r (map (placed_arm t asserts r label) (arms_in arms)) selector here next) (arms_from t asserts r 0 selector here (map (placed_arm t asserts r label) (arms_in arms)) path next))
      (0 + from_part 0 (at_place x r path))
      (λ here. once_within x _ (0 + 0) _ _ _ (omega arith) (omega arith) (once_both x _ _ 0 0 0 _ (no_arms_once (map (placed_arm t asserts r label) (arms_in arms)) selector here next) (arms_once 0 selector here arms path next))))
  of_body (Body-F.While cond body) at path next =
      from_body (Body-F.While cond body.0) at path next _ _ (omega arith) (omega arith)
      (once_both x _ _ _ 0 _ _ (condition_once t asserts r x path (before t asserts r path) (before t asserts r (path ++ 0 ∷ [])) next cond)
      (part_once _ path 0 (body.1 (path ++ 0 ∷ []) (before t asserts r path))))
  of_body (Body-F.Repeat body until cond) at path next =
      let last : Site = record { routine = r; path = path; kind = kind.Until; number = 0 } in
      let inside = before t asserts r (path ++ 0 ∷ []) in
      let e = until_once until cond path next in
      let f = order_once 0 body path last in
      let first = first_fits x r kind.Until path in
      from_body (Body-F.Repeat (statements body) until cond) at path next (0 + (0 + 0)) _ (omega arith) (omega (arith, first))
      (once_both x _ _ 0 (0 + 0) 0 _ (once_way x _ inside act.Skip) (once_both x _ _ 0 0 _ _ f e))
    where
      until_once : (until : ℕ) (cond : Expr) (path : Path) (next : Site)
          → IsOnce x (both (point_of (record { routine = r; path = path; kind = kind.Until; number = 0 }) until) (condition t asserts r path (record { routine = r; path = path; kind = kind.Until; number = 0 }) cond next (before t asserts r (path ++ 0 ∷ [])))) 0 (one_of x r kind.Until 0 path + from_number x r kind.AfterCall 0 path)
      until_once until cond path next =
          let last : Site = record { routine = r; path = path; kind = kind.Until; number = 0 } in
          let c = condition_once t asserts r x path last next (before t asserts r (path ++ 0 ∷ [])) cond in
          record { points = omega (arith, c.points); calls = omega (arith, c.calls) }
  of_body (Body-F.For control bound first down final body) at path next =
      let inside = before t asserts r (path ++ 0 ∷ []) in
      let step : Site = record { routine = r; path = path; kind = kind.Step; number = 0 } in
      let e = first_fits x r kind.Step path in
      from_body (Body-F.For control bound first down final body.0) at path next _ _ (omega arith) (omega (arith, e))
      (once_both x _ _ _ (0 + (0 + (0 + 0))) _ _
      (action_once t asserts r x path (before t asserts r path) (expr_calls first ++ expr_calls final) (bounds_checks t (var_type t control) first final)
      (λ here. both (way here (act.Enter control bound first down final) inside) (way here (act.Bypass control bound first down final) next)) 0
      (λ here. two_ways t asserts r x here inside next (act.Enter control bound first down final) (act.Bypass control bound first down final)))
      (once_both x _ _ 0 (0 + (0 + 0)) _ _ (part_once _ path 0 (body.1 (path ++ 0 ∷ []) step))
      (once_both x _ _ 0 (0 + 0) _ (0 + 0) (once_point x step at)
      (once_both x _ _ 0 0 0 0 (once_way x step inside (act.Next control bound down)) (once_way x step next (act.Finish control bound down))))))

  of_arm : (y : Arm-F (With OfBody) (With OfArm) (With OfStatement)) → OfArm (roll-Arm (map-Arm (With OfBody) (With OfArm) (With OfStatement) Body Arm Statement (λ e. e.0) (λ e. e.0) (λ e. e.0) y))
  of_arm y path next =
      let d = map-Arm (With OfBody) (With OfArm) (With OfStatement) Body Arm Statement (λ e. e.0) (λ e. e.0) (λ e. e.0) y in
      subst (λ (p : List ℤ × Placing). IsOnce x (p.1 path next) 0 (within (at_place x r path))) (sym (arm_opened t asserts r label d)) (y.body.1 path next)

  of_statement : (y : Statement-F (With OfBody) (With OfArm) (With OfStatement)) → OfStatement (roll-Statement (map-Statement (With OfBody) (With OfArm) (With OfStatement) Body Arm Statement (λ e. e.0) (λ e. e.0) (λ e. e.0) y))
  of_statement y path next =
      let d = map-Statement (With OfBody) (With OfArm) (With OfStatement) Body Arm Statement (λ e. e.0) (λ e. e.0) (λ e. e.0) y in
      let b = y.body.1 y.at path next in
      let fits = statement_fits x r path in
      subst (λ p. IsOnce x p 0 (within (at_place x r path))) (sym (statement_opened t asserts r label d path next))
      (record { points = omega (arith, b.points, fits); calls = omega (arith, b.calls) })

  statement_once : (s : Statement) → OfStatement s
  statement_once =
      ind-Statement OfBody OfArm OfStatement
      (λ z y is. subst (λ b. OfBody (roll-Body b)) is (of_body y))
      (λ z y is. subst (λ b. OfArm (roll-Arm b)) is (of_arm y))
      (λ z y is. subst (λ b. OfStatement (roll-Statement b)) is (of_statement y))

  abbrev with_all : List Statement → List (With OfStatement)
  with_all body = map (λ s. (s, statement_once s)) body

  with_all_same : (body : List Statement) → statements (with_all body) ≡ body
  with_all_same [] = refl
  with_all_same (s ∷ body) = ap (λ xs. s ∷ xs) (with_all_same body)

  pub statements_once : (n : ℕ) (body : List Statement) (path : Path) (next : Site) → IsOnce x (in_order t asserts r n (map (placed t asserts r label) body) path next) 0 (from_part n (at_place x r path))
  statements_once n body path next =
      subst (λ xs. IsOnce x (in_order t asserts r n (map (placed t asserts r label) xs) path next) 0 (from_part n (at_place x r path))) (with_all_same body) (order_once n (with_all body) path next)
