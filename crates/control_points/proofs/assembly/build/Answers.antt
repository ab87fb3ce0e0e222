use Rattle.std.proofs.Common.{◌≡◌, length, sym, ap, subst, ◌∙◌, Some, arith}
use Rattle.std.specs.List.{slice_get}
use Rattle.std.proofs.lemmas.List.{length-map}
use Rattle.control_points.specs.Chart.{arriving, leaving}
use Rattle.control_points.specs.Fits.{AssertsFit, ChecksFit, PointsFit}
use Rattle.control_points.specs.Leading.{EntriesFit}
use Rattle.control_points.specs.Wired.{IsWired, asserts_of, points_of}
use Rattle.control_points.proofs.Whole.{asserts_fit, blocks_in, edges_fit, edges_lead, entries_fit, exits_return, labels_lead, points_fit, starts_rise, starts_within}
use Rattle.control_points.proofs.assembly.build.Goals as goal

pub label_tables-requires-clause-starts : goal.label_tables-requires-clause-starts
label_tables-requires-clause-starts c =
    let n = c.in_ok-numbering.numbering in
    omega (arith, (blocks_in c.args.program n.marks c.in_ok-numbering.ensures.marks n.entries c.in_ok-numbering.ensures.entries).starts, c.len.ensures)

pub label_tables-requires-clause-rise : goal.label_tables-requires-clause-rise
label_tables-requires-clause-rise c =
    let n = c.in_ok-numbering.numbering in
    λ r h. starts_rise c.args.program n.marks c.in_ok-numbering.ensures.marks n.entries c.in_ok-numbering.ensures.entries r (omega (arith, h, c.len.ensures))

pub label_tables-requires-clause-within : goal.label_tables-requires-clause-within
label_tables-requires-clause-within c =
    let n = c.in_ok-numbering.numbering in
    λ r h. starts_within c.args.program n.marks c.in_ok-numbering.ensures.marks n.entries c.in_ok-numbering.ensures.entries r (omega (arith, h, c.len.ensures))

pub wire-requires-clause-labelled : goal.wire-requires-clause-labelled
wire-requires-clause-labelled c = rw c.as_slice.ensures (record { each = c.in_ok-labels.ensures.each })

pub wire-requires-clause-jumps : goal.wire-requires-clause-jumps
wire-requires-clause-jumps c =
    let n = c.in_ok-numbering.numbering in
    rw c.as_slice.ensures (labels_lead c.args.program n.marks c.in_ok-numbering.ensures.marks n.entries c.in_ok-numbering.ensures.entries c.in_ok-labels.labels (c.in_ok-labels.ensures.many ∙ c.len.ensures) c.in_ok-labels.ensures.each)

pub by_point-requires-clause-within : goal.by_point-requires-clause-within
by_point-requires-clause-within c =
    let points = ap length (c.in_ok-points.ensures ∙ ap points_of c.as_slice-2.ensures) in
    λ k e h. omega (arith, (c.in_ok-graph.ensures.wired.each k e (ap (λ es. slice_get es k) (sym c.as_slice-4.ensures) ∙ h)).source, points, c.len-count.ensures)

pub by_point-requires-2-clause-within : goal.by_point-requires-2-clause-within
by_point-requires-2-clause-within c =
    let points = ap length (c.in_ok-points.ensures ∙ ap points_of c.as_slice-2.ensures) in
    λ k e h. omega (arith, (c.in_ok-graph.ensures.wired.each k e (ap (λ es. slice_get es k) (sym c.as_slice-5.ensures) ∙ h)).target, points, c.len-count.ensures)

pub invariant_of-result : goal.invariant_of-result
invariant_of-result c =
    let p = c.args.program in
    let n = c.in_ok-numbering.numbering in
    let marks = c.in_ok-numbering.ensures.marks in
    let edges = c.in_ok-graph.graph.edges in
    let points = c.in_ok-points.points in
    let points_are : points ≡ points_of n.marks = c.in_ok-points.ensures ∙ ap points_of c.as_slice-2.ensures in
    let asserts_are : c.in_ok-asserts.asserts ≡ asserts_of n.marks = c.in_ok-asserts.ensures ∙ ap asserts_of c.as_slice-3.ensures in
    let wired = subst (λ ps. IsWired p ps edges) (sym points_are) c.in_ok-graph.ensures.wired in
    record {
      points_fit = subst (PointsFit p) (sym points_are) (points_fit p n.marks marks);
      edges_fit = edges_fit p points edges wired;
      calls_return = wired.calls;
      checks_fit = subst (λ ps. ChecksFit ps c.in_ok-graph.graph.checks) (sym points_are) c.in_ok-graph.ensures.judged;
      asserts_fit = subst (λ ps. AssertsFit p ps c.in_ok-asserts.asserts) (sym points_are) (subst (AssertsFit p (points_of n.marks)) (sym asserts_are) (asserts_fit p n.marks marks));
      entries_fit = subst (EntriesFit p) (sym points_are) (entries_fit p n.marks marks);
      edges_lead = edges_lead p points edges wired;
      exact = record {
        points_are = points_are ∙ ap points_of marks;
        asserts_are = asserts_are ∙ ap asserts_of marks;
        edges_are = c.in_ok-graph.ensures.edges;
        checks_are = c.in_ok-graph.ensures.checks;
      };
      exits_return = exits_return p points edges wired;
      edges_listed = record {
        leaving = λ q h. c.in_ok-outgoing.ensures q (omega (arith, h, c.len-count.ensures)) ∙ ap (λ es. Some (leaving es q)) c.as_slice-4.ensures;
        arriving = λ q h. c.in_ok-incoming.ensures q (omega (arith, h, c.len-count.ensures)) ∙ ap (λ es. Some (arriving es q)) c.as_slice-5.ensures;
      };
      points_few = omega (arith, n.few, ap length points_are, length-map n.marks (λ m. m.point));
      edges_few = c.in_ok-graph.graph.few;
    }
