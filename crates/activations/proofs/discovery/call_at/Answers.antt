use Rattle.std.proofs.Common.{◌≡◌, ℕ, List, ◌<◌, length, Some, slice_get, true, false, sym, ap, ◌∙◌, subst}
use Rattle.std.proofs.lemmas.Option.{slice_get_within}
use Rattle.control_points.specs.declared.edge.Edge.{Edge}
use Rattle.control_points.specs.Chart.{leaving}
use Rattle.activations.proofs.DiscoveredSites.{call_tested, first_of, is_leaving, site_first, site_other}
use Rattle.activations.proofs.discovery.call_at.Goals as goal

pub bounds-edges-edge : goal.bounds-edges-edge
bounds-edges-edge c =
    let f = c.args.flow.now in
    let edge = c.in_ok-edge.field-0.now in
    let first : slice_get (leaving f.edges c.args.point) 0 ≡ Some edge = ap (λ (ks : List ℕ). slice_get ks 0) (sym c.outgoing.ensures) ∙ sym c.in_ok-edge.ensures.value in
    let at = is_leaving f.edges c.args.point 0 edge first in
    subst (λ (es : List Edge). edge < length es) (sym c.edges.ensures) (slice_get_within f.edges edge at.edge at.known)

pub returns-then-is_call : goal.returns-then-is_call
returns-then-is_call c =
    let f = c.args.flow.now in
    let edge = c.in_ok-edge.field-0.now in
    let first : slice_get (leaving f.edges c.args.point) 0 ≡ Some edge = ap (λ (ks : List ℕ). slice_get ks 0) (sym c.outgoing.ensures) ∙ sym c.in_ok-edge.ensures.value in
    let at = is_leaving f.edges c.args.point 0 edge first in
    let within : edge < length c.edges.result.now = subst (λ (es : List Edge). edge < length es) (sym c.edges.ensures) (slice_get_within f.edges edge at.edge at.known) in
    let list = first_of (leaving f.edges c.args.point) edge first in
    let calls = call_tested f.edges c.edges.result.now edge c.index-edges-edge.result true c.is_call.result c.edges.ensures within c.is_call.ensures c.if-is_call.true in
    sym (site_first f.edges (c.a_call_leaves_its_point_alone.ensures f) c.args.point edge list.0 list.1 calls)

pub returns-else-is_call : goal.returns-else-is_call
returns-else-is_call c =
    let f = c.args.flow.now in
    let edge = c.in_ok-edge.field-0.now in
    let first : slice_get (leaving f.edges c.args.point) 0 ≡ Some edge = ap (λ (ks : List ℕ). slice_get ks 0) (sym c.outgoing.ensures) ∙ sym c.in_ok-edge.ensures.value in
    let at = is_leaving f.edges c.args.point 0 edge first in
    let within : edge < length c.edges.result.now = subst (λ (es : List Edge). edge < length es) (sym c.edges.ensures) (slice_get_within f.edges edge at.edge at.known) in
    let list = first_of (leaving f.edges c.args.point) edge first in
    let calls = call_tested f.edges c.edges.result.now edge c.index-edges-edge.result false c.is_call.result c.edges.ensures within c.is_call.ensures c.if-is_call.false in
    sym (site_other f.edges (c.a_call_leaves_its_point_alone.ensures f) c.args.point edge list.0 list.1 calls)
