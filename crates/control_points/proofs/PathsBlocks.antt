-- The statement part of a routine by paths: its points, how often each stands there, and what it draws.
use Rattle.std.proofs.Common.{◌≡◌, ℕ, ◌+◌, ◌<◌, true, List, [], ◌∷◌, ◌++◌, map, length, refl, sym, ap, ◌∙◌, Option, Some, None, true≢false, is_none, arith}
use Rattle.std.proofs.lemmas.Bool.{and_parts}
use Rattle.pas_program.specs.declared.routine.Assert.{Assert}
use Rattle.pas_program.specs.declared.statement.Arm.{Arm}
use Rattle.pas_program.specs.declared.statement.Body.{Body}
use Rattle.pas_program.specs.declared.statement.Body.TheOpen.{Body-F}
use Rattle.pas_program.specs.declared.statement.Body.TheViews.{out-Body, out-Statement, roll-Body, roll-out-Body, roll-out-Statement}
use Rattle.pas_program.specs.declared.statement.Statement.{Statement}
use Rattle.pas_program.specs.Each.{Rule, all_true, each_statement}
use Rattle.pas_program.specs.Scopes.{is_begin, is_outermost}
use Rattle.pas_program.specs.Tables.{Tables}
use Rattle.control_points.specs.declared.edge.Act.TheVariants as act
use Rattle.control_points.specs.declared.point.PointKind.TheVariants as kind
use Rattle.control_points.specs.Acts.{callee_passes}
use Rattle.control_points.specs.Checking.{result_checks}
use Rattle.control_points.specs.Edges as numbers
use Rattle.control_points.specs.Edges.{laid_statement}
use Rattle.control_points.specs.Extents.{statements_extent}
use Rattle.control_points.specs.Marks.{part_marks}
use Rattle.control_points.specs.Pieces.{Plan}
use Rattle.control_points.specs.Pieces as pieces
use Rattle.control_points.specs.Sites.{Path, Piece, Site, before, block_piece, both, entry_of, exit_of, in_order, judged, labels_in, own_label, point_of, statement_labels, way}
use Rattle.control_points.proofs.PathsAlone.{statements_once}
use Rattle.control_points.proofs.PathsDrawn.{Draws, IsAt, IsReady, draws_both, draws_judged, draws_knowing, draws_like, draws_point, draws_way, none_before}
use Rattle.control_points.proofs.PathsLevels.{body_labels_opened, labels_inside, placed, statement_labels_opened}
use Rattle.control_points.proofs.PathsLists.{EachFrom, each_first, each_front, each_past}
use Rattle.control_points.proofs.PathsMarked.{IsMarked, marked_both, marked_then, one_marked}
use Rattle.control_points.proofs.PathsMarks.{statements_marks_are}
use Rattle.control_points.proofs.PathsOnce.{IsOnce, at_place, once_both, once_judged, once_point, once_way, once_within, routine_fits, within}
use Rattle.control_points.proofs.PathsParts.{order_first, statements_many}
use Rattle.control_points.proofs.PathsStatements.{statements_draw}

-- a `begin` with its statements
pub record IsBegin (b : Body-F Body Arm Statement) : Type 0 where
  pub body : List Statement
  pub end : ℕ
  pub is : b ≡ Body-F.Begin body end

pub begin_of : (b : Body-F Body Arm Statement) → is_begin b ≡ true → IsBegin b
begin_of (Body-F.Begin body end) h = record { body = body; end = end; is = refl }
begin_of Body-F.Empty h = absurd (true≢false (sym h))
begin_of (Body-F.Assign target value) h = absurd (true≢false (sym h))
begin_of (Body-F.Copy target source) h = absurd (true≢false (sym h))
begin_of (Body-F.Call routine actuals name) h = absurd (true≢false (sym h))
begin_of (Body-F.Read targets line) h = absurd (true≢false (sym h))
begin_of (Body-F.Write items line) h = absurd (true≢false (sym h))
begin_of (Body-F.Goto routine label) h = absurd (true≢false (sym h))
begin_of (Body-F.If cond first second) h = absurd (true≢false (sym h))
begin_of (Body-F.Case selector arms) h = absurd (true≢false (sym h))
begin_of (Body-F.While cond body) h = absurd (true≢false (sym h))
begin_of (Body-F.Repeat body until cond) h = absurd (true≢false (sym h))
begin_of (Body-F.For control bound first down last body) h = absurd (true≢false (sym h))

no_label : (o : Option ℕ) (path : Path) → is_none o ≡ true → own_label o path ≡ []
no_label None path h = refl
no_label (Some n) path h = absurd (true≢false (sym h))

-- the labels of a routine's body are those of the statements in it
pub labels_of_block : (s : Statement) (body : List Statement) (end : ℕ) → out-Body (out-Statement s).body ≡ Body-F.Begin body end → is_outermost s ≡ true → statement_labels s [] ≡ labels_in 0 (map statement_labels body) []
labels_of_block s body end is h =
    let d = out-Statement s in
    let none = (and_parts (is_none d.label) _ (and_parts (is_begin (out-Body d.body)) _ h).1).0 in
    ap (λ z. statement_labels z []) (sym (roll-out-Statement s))
    ∙ statement_labels_opened d []
    ∙ ap (λ ls. ls ++ labels_inside d.body []) (no_label d.label [] none)
    ∙ ap (λ z. labels_inside z []) (sym (roll-out-Body d.body) ∙ ap roll-Body is)
    ∙ body_labels_opened (Body-F.Begin body end) []

module _ (t : Tables) (asserts : List Assert) (r : ℕ) (label : ℕ → ℕ → Site) (begin : ℕ) (result : Option ℕ) (body : List Statement) (end : ℕ) where
  abbrev pub block : Piece
  block = block_piece t asserts r label begin result (Body-F.Begin body end)

  pub block_marked : IsMarked r block.points (part_marks r begin (Body-F.Begin body end)) (labels_in 0 (map statement_labels body) [])
  block_marked =
      marked_both r _ _ _ _ [] _ (one_marked r [] kind.Entry 0 begin)
      (marked_then r _ _ _ _ _ (statements_marks_are t asserts r label 0 body [] (exit_of r)) (one_marked r [] kind.Exit 0 end))

  pub block_once : (x : Site) → IsOnce x block 0 (within (at_place x r []))
  block_once x =
      let inner = statements_once t asserts r label x 0 body [] (exit_of r) in
      let fits = routine_fits x r in
      once_within x block (0 + (0 + (0 + (0 + 0)))) 0 _ _ (omega arith) (omega (arith, fits))
      (once_both x (point_of (entry_of r) begin) _ 0 _ _ _ (once_point x (entry_of r) begin)
      (once_both x (way (entry_of r) act.Skip (before t asserts r (0 ∷ []))) _ 0 _ 0 _ (once_way x (entry_of r) (before t asserts r (0 ∷ [])) act.Skip)
      (once_both x (in_order t asserts r 0 (map (placed t asserts r label) body) [] (exit_of r)) _ 0 _ _ _ inner
      (once_both x (point_of (exit_of r) end) (judged (exit_of r) (result_checks result end)) 0 0 _ 0 (once_point x (exit_of r) end) (once_judged x (exit_of r) (result_checks result end))))))

-- what a statement part draws, with its first point e and its last point z
module _ (g h : Site → ℕ) (plan : Plan) (label : ℕ → ℕ → Site) (r : ℕ) (q u : Rule)
    (ready : (routine : ℕ) (slot : Option ℕ) → callee_passes q routine slot ≡ true → IsReady g h plan routine)
    (some : (n : ℕ) → q.sequence n ≡ true → 0 < n)
    (jumps : (s n : ℕ) → u.jump s n ≡ true → g (label s n) ≡ plan.label s n) where
  pub block_draws : (begin : ℕ) (result : Option ℕ) (body : List Statement) (end e z : ℕ) → 0 < length body → all_true (map (each_statement q) body) ≡ true → all_true (map (each_statement u) body) ≡ true → z ≡ e + 1 + (statements_extent body).points
      → Draws g h (block plan.tables plan.asserts r label begin result body end) e (numbers.part_piece plan result e z (Body-F.Begin body end))
  block_draws begin result body end e z many a b at =
      let inside = before plan.tables plan.asserts r (0 ∷ []) in
      let order = in_order plan.tables plan.asserts r 0 (map (placed plan.tables plan.asserts r label) body) [] (exit_of r) in
      let faults = result_checks result end in
      let last = both (point_of (exit_of r) end) (judged (exit_of r) faults) in
      let first = way (entry_of r) act.Skip inside in
      let ordered = numbers.in_order plan (map (laid_statement plan) body) (e + 1) z in
      let judging = pieces.judged z faults in
      let drawn = pieces.both (pieces.way e act.Skip (e + 1)) (pieces.both ordered judging) in
      let long : z ≡ e + 1 + length order.points = at ∙ ap (λ k. e + 1 + k) (sym (statements_many g h plan label r 0 body [] (exit_of r))) in
      draws_knowing g h (both (point_of (entry_of r) begin) (both first (both order last))) e drawn
      (λ known.
      let entry_is : g (entry_of r) ≡ e = each_first (IsAt g h) e (record { site = entry_of r; at = begin; asserts = [] }) (order.points ++ last.points) known in
      let rest : EachFrom (IsAt g h) (e + 1) (order.points ++ last.points) = each_past (IsAt g h) e (e + 1) (record { site = entry_of r; at = begin; asserts = [] } ∷ []) (order.points ++ last.points) refl known in
      let in_is : g inside ≡ e + 1 = order_first g h plan label r 0 body [] (exit_of r) (e + 1) many (each_front (IsAt g h) (e + 1) order.points last.points rest) in
      let exit_is : g (exit_of r) ≡ z = each_first (IsAt g h) z (record { site = exit_of r; at = end; asserts = [] }) [] (each_past (IsAt g h) (e + 1) z order.points last.points long rest) in
      draws_like g h (both (point_of (entry_of r) begin) (both first (both order last))) e (pieces.both pieces.nothing drawn) drawn (none_before drawn)
      (draws_both g h (point_of (entry_of r) begin) (both first (both order last)) e (e + 1) pieces.nothing drawn refl (draws_point g h (entry_of r) begin e)
      (draws_both g h first (both order last) (e + 1) (e + 1) (pieces.way e act.Skip (e + 1)) (pieces.both ordered judging) (omega arith) (draws_way g h (entry_of r) inside act.Skip (e + 1) e (e + 1) entry_is in_is)
      (draws_both g h order last (e + 1) z ordered judging long
      (statements_draw g h plan label r q u ready some jumps 0 body [] (exit_of r) (e + 1) z a b exit_is)
      (draws_like g h last z (pieces.both pieces.nothing judging) judging (none_before judging)
      (draws_both g h (point_of (exit_of r) end) (judged (exit_of r) faults) z (z + 1) pieces.nothing judging refl (draws_point g h (exit_of r) end z) (draws_judged g h (exit_of r) faults (z + 1) z exit_is)))))))
