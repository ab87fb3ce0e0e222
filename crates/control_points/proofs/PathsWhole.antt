-- The points, edges and checks of a program by numbers are those by paths.
use Rattle.std.proofs.Common.{◌≡◌, ℕ, suc, ◌+◌, ◌-◌, ◌<◌, ◌≤◌, Bool, true, List, [], ◌∷◌, map, length, length-append, refl, sym, ap, subst, ◌∙◌, Option, Some, None, nat_eq, nat_le, arith}
use Rattle.std.proofs.lemmas.Bool.{and_from, and_parts, ltb-true, true≢false}
use Rattle.std.proofs.lemmas.List.{length-map}
use Rattle.std.specs.List.{position, slice_get, slice_index}
use Rattle.std.specs.Option.{unwrap_or}
use Rattle.pas_program.specs.declared.program.Program.{Program}
use Rattle.pas_program.specs.declared.routine.Routine.{Routine}
use Rattle.pas_program.specs.declared.statement.Body.TheOpen.{Body-F}
use Rattle.pas_program.specs.declared.statement.Body.TheViews.{out-Body, out-Statement, roll-Body, roll-out-Body}
use Rattle.pas_program.specs.Checked.{tables}
use Rattle.pas_program.specs.Each.{Rule, each_statement}
use Rattle.pas_program.specs.Labels.{count_labelled, label_rule}
use Rattle.pas_program.specs.Scopes.{is_outermost, scope_rule}
use Rattle.pas_program.specs.Tables.{Head, holds_of, is_around, is_callable, head_of}
use Rattle.control_points.specs.declared.flow.Flow.{Flow}
use Rattle.control_points.specs.declared.point.PointKind.{PointKind}
use Rattle.control_points.specs.declared.point.PointKind.TheVariants as kind
use Rattle.control_points.specs.Acts.{callee_passes}
use Rattle.control_points.specs.Edges.{checks_of, edges_of, label_point, plan_of}
use Rattle.control_points.specs.Edges as numbers
use Rattle.control_points.specs.Extents.{statements_extent}
use Rattle.control_points.specs.Labelled.{label_in}
use Rattle.control_points.specs.Marks.{mark, part_marks, routine_marks, routines_marks, starts, statements_marks}
use Rattle.control_points.specs.Pieces.{Plan}
use Rattle.control_points.specs.Sites.{Deed, IsFlowOf, Link, Piece, Placed, Site, act_of, block_piece, calls, does, edge_at, is_call_from, label_site, labels_of_body, path_of, point_number, program_piece, returns, routines_piece, same_kind, same_path, same_site}
use Rattle.control_points.specs.Wired.{asserts_of, points_of}
use Rattle.control_points.proofs.Blocks.{starts_first}
use Rattle.control_points.proofs.Inside.{nat_eq_self, statements_inside}
use Rattle.control_points.proofs.Listed.{found_of}
use Rattle.control_points.proofs.Opened.{rule_at}
use Rattle.control_points.proofs.PathsBlocks.{block_draws}
use Rattle.control_points.proofs.PathsDrawn.{Draws, IsCall, IsReady, act_by, draws_both, draws_nothing, edge_by}
use Rattle.control_points.proofs.PathsLists.{EachFrom, only_position, times}
use Rattle.control_points.proofs.PathsMarked.{before_at}
use Rattle.control_points.proofs.PathsOnce.{IsOnce, bit_small, once_within}
use Rattle.control_points.proofs.PathsRoutines.{AllOutermost, IsKnown, begins, routine_block, routine_many, routine_range, routines_known, routines_listed, routines_once, routines_points}

-- ---- numbers of points and of calls

same_kind_self : (k : PointKind) → same_kind k k ≡ true
same_kind_self kind.Entry = refl
same_kind_self kind.Before = refl
same_kind_self kind.AfterCall = refl
same_kind_self kind.AfterRead = refl
same_kind_self kind.AfterWrite = refl
same_kind_self kind.Until = refl
same_kind_self kind.Step = refl
same_kind_self kind.Exit = refl

same_path_self : (p : List ℕ) → same_path p p ≡ true
same_path_self [] = refl
same_path_self (n ∷ p) = and_from _ _ (nat_eq_self n) (same_path_self p)

same_site_self : (s : Site) → same_site s s ≡ true
same_site_self s = and_from _ _ (and_from _ _ (nat_eq_self s.routine) (same_path_self s.path)) (and_from _ _ (same_kind_self s.kind) (nat_eq_self s.number))

module _ (piece : Piece) (once : (x : Site) → IsOnce x piece 0 1) where
  abbrev number : Site → ℕ
  number = point_number piece.points

  abbrev call_number : Site → ℕ
  call_number s = unwrap_or (position (is_call_from s) piece.links) 0

  numbered : EachFrom (λ k (x : Placed). number x.site ≡ k) 0 piece.points
  numbered = record {
    each = λ k x h.
        let same : k ≡ 0 + k = omega arith in
        ap (λ o. unwrap_or o 0) (only_position (λ (p : Placed). same_site p.site x.site) piece.points k x h (same_site_self x.site) (once x.site).points) ∙ same;
  }

  calls_numbered : EachFrom (IsCall number call_number) 0 piece.links
  calls_numbered = record {
    each = λ k l h c.
        let same : k ≡ 0 + k = omega arith in
        let o = once l.source in
        let few : times (is_call_from l.source) piece.links ≤ 1 = omega (arith, o.points, o.calls) in
        ap (λ p. unwrap_or p 0) (only_position (is_call_from l.source) piece.links k l h (and_from _ _ c (same_site_self l.source)) few) ∙ same;
  }

  same_act : (d : Deed) → act_of piece.links d ≡ act_by number call_number d
  same_act (does action) = refl
  same_act (calls c) = refl
  same_act (returns s) = refl

  same_edges : (ls : List Link) → map (edge_at piece) ls ≡ map (edge_by number call_number) ls
  same_edges [] = refl
  same_edges (l ∷ ls) =
      ap (λ a. record { from = number l.source; act = a; to = number l.target } ∷ map (edge_at piece) ls) (same_act l.deed)
      ∙ ap (λ es. edge_by number call_number l ∷ es) (same_edges ls)

-- ---- all routines

record RoutineRules (q u : Rule) (d : Routine) : Type 0 where
  scopes : each_statement q d.body ≡ true
  labels : each_statement u d.body ≡ true

-- what the rule of a routine's number asks of it
module _ (g h : Site → ℕ) (plan : Plan) (label : ℕ → ℕ → Site) (q : ℕ → Rule) (u : Rule)
    (ready : (r routine : ℕ) (slot : Option ℕ) → callee_passes (q r) routine slot ≡ true → IsReady g h plan routine)
    (some : (r n : ℕ) → (q r).sequence n ≡ true → 0 < n)
    (jumps : (s n : ℕ) → u.jump s n ≡ true → g (label s n) ≡ plan.label s n) where
  routine_draws : (r : ℕ) (d : Routine) (e z : ℕ) → is_outermost d.body ≡ true → RoutineRules (q r) u d → z ≡ e + length (routine_marks r d) - 1
      → Draws g h (routine_block plan.tables plan.asserts label r d) e (numbers.part_piece plan d.result e z (out-Body (out-Statement d.body).body))
  routine_draws r d e z o rules at =
      let b = begins d o in
      let place = (out-Statement d.body).at in
      let opened = sym (roll-out-Body (out-Statement d.body).body) ∙ ap roll-Body b.is in
      let scopes = and_parts ((q r).sequence (length (map (each_statement (q r)) b.body))) _ (rule_at d.body (Body-F.Begin b.body b.end) opened (q r) rules.scopes) in
      let labels = and_parts (u.sequence (length (map (each_statement u) b.body))) _ (rule_at d.body (Body-F.Begin b.body b.end) opened u rules.labels) in
      let many : 0 < length b.body = omega (arith, some r _ scopes.0, length-map b.body (each_statement (q r))) in
      let size = ap (λ x. length (part_marks r place x)) b.is in
      let long = length-append (statements_marks r b.body) (mark r kind.Exit b.end ∷ []) in
      let count = (statements_inside r b.body).count in
      let last : z ≡ e + 1 + (statements_extent b.body).points = omega (arith, at, size, long, count) in
      subst (λ x. Draws g h (block_piece plan.tables plan.asserts r label place d.result x) e (numbers.part_piece plan d.result e z x)) (sym b.is)
      (block_draws g h plan label r (q r) u (ready r) (some r) jumps place d.result b.body b.end e z many scopes.1 labels.1 last)

  routines_draw : (first : ℕ) (routines : List Routine) (start : ℕ) → AllOutermost routines → ((k : ℕ) (d : Routine) → slice_get routines k ≡ Some d → RoutineRules (q (first + k)) u d)
      → ((k : ℕ) → slice_index plan.entries (first + k) ≡ slice_index (starts start first routines) k)
      → Draws g h (routines_piece plan.tables plan.asserts label first routines) start (numbers.routines_piece plan first routines)
  routines_draw first [] start o rules at = draws_nothing g h start
  routines_draw first (d ∷ routines) start o rules at =
      let next = start + length (routine_marks first d) in
      let many : next ≡ start + length (routine_block plan.tables plan.asserts label first d).points = ap (λ k. start + k) (sym (routine_many plan.tables plan.asserts label first d (o 0 d refl))) in
      let one : first + 0 ≡ first = omega arith in
      let two : first + 1 ≡ suc first = omega arith in
      let entry : slice_index plan.entries first ≡ start = ap (slice_index plan.entries) (sym one) ∙ at 0 in
      let exit : slice_index plan.entries (suc first) ≡ next = ap (slice_index plan.entries) (sym two) ∙ at 1 ∙ starts_first next (suc first) routines in
      draws_both g h (routine_block plan.tables plan.asserts label first d) (routines_piece plan.tables plan.asserts label (suc first) routines) start next (numbers.routine_piece plan first d) (numbers.routines_piece plan (suc first) routines) many
      (subst (λ e. Draws g h (routine_block plan.tables plan.asserts label first d) start (numbers.part_piece plan d.result e (slice_index plan.entries (suc first) - 1) (out-Body (out-Statement d.body).body))) (sym entry)
      (routine_draws first d start (slice_index plan.entries (suc first) - 1) (o 0 d refl) (subst (λ r. RoutineRules (q r) u d) one (rules 0 d refl)) (ap (λ n. n - 1) exit)))
      (routines_draw (suc first) routines next (λ k e i. o (suc k) e i)
      (λ k e i. let more : first + suc k ≡ suc first + k = omega arith in subst (λ r. RoutineRules (q r) u e) more (rules (suc k) e i))
      (λ k. let more : suc first + k ≡ first + suc k = omega arith in ap (slice_index plan.entries) more ∙ at (suc k)))

-- ---- a program

held : {A : Type 0} (f : A → Bool) (o : Option A) → holds_of f o ≡ true → (x : A) × (o ≡ Some x) × (f x ≡ true)
held f None h = absurd (true≢false (sym h))
held f (Some x) h = (x, refl, h)

module _ (p : Program) where
  abbrev label : ℕ → ℕ → Site
  label = label_site p.routines

  program_once : (x : Site) → IsOnce x (program_piece p) 0 1
  program_once x =
      let small = bit_small (nat_le 0 x.routine) in
      once_within x (program_piece p) 0 0 _ 1 (omega arith) small (routines_once (tables p) p.asserts label x 0 p.routines p.in_scope.outermost)

  abbrev g : Site → ℕ
  g = number (program_piece p) program_once

  abbrev h : Site → ℕ
  h = call_number (program_piece p) program_once

  known : (k : ℕ) (d : Routine) → slice_get p.routines k ≡ Some d → IsKnown (tables p) p.asserts label g k d (slice_index (starts 0 0 p.routines) k) (slice_index (starts 0 0 p.routines) (suc k))
  known k d e =
      let same : 0 + k ≡ k = omega arith in
      subst (λ r. IsKnown (tables p) p.asserts label g r d (slice_index (starts 0 0 p.routines) k) (slice_index (starts 0 0 p.routines) (suc k))) same
      (routines_known (tables p) p.asserts label g 0 0 p.routines p.in_scope.outermost (numbered (program_piece p) program_once) k d e)

  callable_of : (r routine : ℕ) (slot : Option ℕ) → callee_passes (scope_rule (tables p) r) routine slot ≡ true → is_callable (tables p) r routine ≡ true
  callable_of r routine None e = e
  callable_of r routine (Some slot) e = (and_parts (is_callable (tables p) r routine) _ e).0

  program_ready : (r routine : ℕ) (slot : Option ℕ) → callee_passes (scope_rule (tables p) r) routine slot ≡ true → IsReady g h (plan_of p) routine
  program_ready r routine slot e =
      let f = found_of (λ (x : Head). holds_of (λ z. is_around (tables p) r z) x.parent) head_of (slice_get p.routines routine) (callable_of r routine slot e) in
      let k = known routine f.0 f.1 in
      record { entry = k.entry; exit = k.exit }

  program_jumps : (s n : ℕ) → (label_rule p.routines).jump s n ≡ true → g (label s n) ≡ label_point (routines_marks 0 p.routines) (starts 0 0 p.routines) s n
  program_jumps s n e =
      let f = held (λ (d : Routine). nat_eq (count_labelled n d.body) 1) (slice_get p.routines s) e in
      let first = slice_index (starts 0 0 p.routines) s in
      let end = slice_index (starts 0 0 p.routines) (suc s) in
      let same : 0 + s ≡ s = omega arith in
      ap (λ o. g (before_at s (path_of (labels_of_body o) n))) f.1
      ∙ (known s f.0 f.1).jump n (end - 1) f.2
      ∙ ap (λ ms. unwrap_or (label_in first ms n) (end - 1)) (ap (λ r. routine_marks r f.0) (sym same) ∙ sym (routine_range [] 0 p.routines s f.0 f.1))

  program_draws : Draws g h (program_piece p) 0 (numbers.program_piece p)
  program_draws =
      routines_draw g h (plan_of p) label (scope_rule (tables p)) (label_rule p.routines) program_ready (λ r n e. ltb-true 0 n e) program_jumps 0 p.routines 0 p.in_scope.outermost
      (λ k d e. let same : k ≡ 0 + k = omega arith in subst (λ r. RoutineRules (scope_rule (tables p) r) (label_rule p.routines) d) same (record { scopes = p.in_scope.body k d e; labels = p.labels_stand.each k d e }))
      (λ k. let same : 0 + k ≡ k = omega arith in ap (slice_index (starts 0 0 p.routines)) same)

  pub paths_are_numbers : IsFlowOf p (points_of (routines_marks 0 p.routines)) (asserts_of (routines_marks 0 p.routines)) (edges_of p) (checks_of p)
  paths_are_numbers =
      let gives = program_draws.drawn (numbered (program_piece p) program_once) 0 (calls_numbered (program_piece p) program_once) in
      record {
        points_are = sym (routines_points (tables p) p.asserts label 0 p.routines p.in_scope.outermost);
        asserts_are = sym (routines_listed (tables p) p.asserts label 0 p.routines p.in_scope.outermost);
        edges_are = sym (same_edges (program_piece p) program_once (program_piece p).links ∙ gives.edges);
        checks_are = sym gives.checks;
      }

pub flow_is_of_paths : (f : Flow) → IsFlowOf f.program f.points f.asserts f.edges f.checks
flow_is_of_paths f =
    let w = paths_are_numbers f.program in
    record {
      points_are = f.exact.points_are ∙ w.points_are;
      asserts_are = f.exact.asserts_are ∙ w.asserts_are;
      edges_are = f.exact.edges_are ∙ w.edges_are;
      checks_are = f.exact.checks_are ∙ w.checks_are;
    }
