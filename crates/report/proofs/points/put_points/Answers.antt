use Rattle.std.proofs.Common.{◌≡◌, ◌<◌, ◌++◌, ℕ, [], List, Option, get_or, length, unwrap_or, sym, ap, subst, ◌∙◌, arith}
use Rattle.std.specs.List.{All, flat_map, range_with_len}
use Rattle.std.specs.Option.{option_map}
use Rattle.control_points.specs.declared.point.Point.{Point}
use Rattle.control_points.specs.declared.point.PointKind.TheVariants.{Entry}
use Rattle.pas_program.specs.declared.program.Program.{Program}
use Rattle.transfer_fwd.specs.Systems.{environments}
use Rattle.report.specs.Nodes.{SeesVariable}
use Rattle.report.specs.Report.{point_label, point_lines, point_lines_of, reached_lines}
use Rattle.report.specs.Visible.{visible}
use Rattle.report.proofs.Pieces.{glued}
use Rattle.report.proofs.Ranges.{mapped_at, mapped_long, pieces_more}
use Rattle.report.proofs.ReadVariables.{point_there}
use Rattle.report.proofs.VisibleVariables.{all_seen}
use Rattle.report.proofs.points.put_points.Goals as goal

inside_points : (points listed : List Point) (n : ℕ) → listed ≡ points → n < length listed → n < length points
inside_points points listed n is h = let P : List Point → Type 0 = λ ps. n < length ps in subst P is h

pub index-requires : goal.index-requires
index-requires c =
    let flow = c.args.source.now.flow.now in
    let n = c.loop-point.point in
    let inside = inside_points flow.points c.points.result.now n c.points.ensures c.loop-point-test.true in
    let there = point_there flow.points c.points-in-loop-point.result.now n (record { routine = 0; kind = Entry; at = 0 }) c.points-in-loop-point.ensures inside in
    let routine = flow.points_fit.routine n _ there in
    let long = mapped_long (visible c.args.source.now.text.now c.program.result.now) (length c.program.result.now.routines) c.in_ok-lists.lists.items c.in_ok-lists.ensures in
    let same = ap (λ (p : Program). length p.routines) c.program.ensures in
    omega (arith, routine, long, same, c.in_ok-lists.lists.ok.0)

pub put_reached-requires-clause-seen : goal.put_reached-requires-clause-seen
put_reached-requires-clause-seen c =
    let flow = c.args.source.now.flow.now in
    let text = c.args.source.now.text.now in
    let n = c.loop-point.point in
    let inside = inside_points flow.points c.points.result.now n c.points.ensures c.loop-point-test.true in
    let q = get_or c.points-in-loop-point.result.now n (record { routine = 0; kind = Entry; at = 0 }) in
    let there = point_there flow.points c.points-in-loop-point.result.now n (record { routine = 0; kind = Entry; at = 0 }) c.points-in-loop-point.ensures inside in
    let routine = flow.points_fit.routine n q there in
    let same = ap (λ (p : Program). length p.routines) c.program.ensures in
    let vars : c.deref.result.now ≡ visible text flow.program q.routine =
    c.deref.ensures.value
    ∙ mapped_at (visible text c.program.result.now) (length c.program.result.now.routines) q.routine c.in_ok-lists.lists.items c.index.result.now c.in_ok-lists.ensures (omega (arith, routine, same)) c.index.ensures
    ∙ ap (λ (p : Program). visible text p q.routine) c.program.ensures in
    let P : List ℕ → Type 0 = λ vs. All (SeesVariable flow n) vs in
    subst P (sym vars) (all_seen text flow n q there)

pub loop-point-preserved : goal.loop-point-preserved
loop-point-preserved c =
    let flow = c.args.source.now.flow.now in
    let text = c.args.source.now.text.now in
    let graph = c.args.nodes.now.graph.now in
    let table = environments c.args.way.now in
    let n = c.loop-point.point in
    let inside = inside_points flow.points c.points.result.now n c.points.ensures c.loop-point-test.true in
    let q = get_or c.points-in-loop-point.result.now n (record { routine = 0; kind = Entry; at = 0 }) in
    let there = point_there flow.points c.points-in-loop-point.result.now n (record { routine = 0; kind = Entry; at = 0 }) c.points-in-loop-point.ensures inside in
    let routine = flow.points_fit.routine n q there in
    let same = ap (λ (p : Program). length p.routines) c.program.ensures in
    let vars : c.deref.result.now ≡ visible text flow.program q.routine =
    c.deref.ensures.value
    ∙ mapped_at (visible text c.program.result.now) (length c.program.result.now.routines) q.routine c.in_ok-lists.lists.items c.index.result.now c.in_ok-lists.ensures (omega (arith, routine, same)) c.index.ensures
    ∙ ap (λ (p : Program). visible text p q.routine) c.program.ensures in
    let lines = point_lines text flow graph table in
    let label = point_label text flow q in
    let reached = reached_lines text flow graph table n c.deref.result.now in
    let point = glued c.loop-point.page.bytes.items label reached c.put_label.new.page.bytes.items c.put_reached.new.page.bytes.items c.in_ok-put_label.ensures c.in_ok-put_reached.ensures
    ∙ ap (λ (vs : List ℕ). c.loop-point.page.bytes.items ++ (label ++ reached_lines text flow graph table n vs)) vars
    ∙ ap (λ (o : Option Point). c.loop-point.page.bytes.items ++ unwrap_or (option_map (point_lines_of text flow graph table n) o) []) (sym there) in
    glued c.args.page.now.bytes.items (flat_map lines (range_with_len 0 n)) (lines n) c.loop-point.page.bytes.items c.put_reached.new.page.bytes.items c.loop-point.invariant point
    ∙ ap (λ (t : List ℕ). c.args.page.now.bytes.items ++ t) (sym (pieces_more lines n))
