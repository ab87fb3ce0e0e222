use Rattle.std.proofs.Common.{arith, ap, sym, ◌∙◌, length, List, Some, rules}
use denote.Enum.Bare.{same_true}
use Rattle.std.proofs.lemmas.Option.{slice_get_within}
use Rattle.control_points.specs.contracts.point.PointKind.{the_type}
use Rattle.control_points.specs.declared.edge.Edge.{Edge}
use Rattle.control_points.specs.declared.edge.Act.{Act}
use Rattle.report.proofs.ReadVariables.{first_arrives, no_read, read_edge, read_is, read_point, read_seen, point_there}
use Rattle.report.specs.Conditions.{read_by}
use Rattle.report.proofs.conditions.read_at.Goals as goal

pub bounds-edges-edge : goal.bounds-edges-edge
bounds-edges-edge c =
    let first = first_arrives c.args.flow.now.edges c.args.point c.incoming.result.now c.incoming.ensures c.in-len1-up.len_at_least in
    let inside = slice_get_within c.args.flow.now.edges _ first.edge first.there in
    omega (arith, inside, ap (λ (es : List Edge). length es) c.edges.ensures)

pub returns-in-Read-clause-value : goal.returns-in-Read-clause-value
returns-in-Read-clause-value c =
    let first = first_arrives c.args.flow.now.edges c.args.point c.incoming.result.now c.incoming.ensures c.in-len1-up.len_at_least in
    let edge = read_edge c.args.flow.now.edges c.edges.result.now _ c.index-edges-edge.result first.edge c.edges.ensures first.there in
    let behind = same_true the_type (search rules) _ _ (read_point c.ne.result _ c.ne.ensures c.if-ne.false) in
    let point = point_there c.args.flow.now.points c.points.result.now c.args.point _ c.points.ensures c.requires in
    sym (read_is c.args.flow.now c.args.point _ c.incoming.result.now first.edge point behind c.incoming.ensures c.in-len1-up.len_at_least first.there
    ∙ ap (λ (a : Act). read_by c.args.flow.now (Some a)) (sym (ap (λ (e : Edge). e.act) edge) ∙ c.in-Read.is))

pub returns-in-Read-clause-seen : goal.returns-in-Read-clause-seen
returns-in-Read-clause-seen c =
    let first = first_arrives c.args.flow.now.edges c.args.point c.incoming.result.now c.incoming.ensures c.in-len1-up.len_at_least in
    let edge = read_edge c.args.flow.now.edges c.edges.result.now _ c.index-edges-edge.result first.edge c.edges.ensures first.there in
    read_seen c.args.flow.now c.args.point _ first.edge c.in-Read.to first.there first.target (sym (ap (λ (e : Edge). e.act) edge) ∙ c.in-Read.is)

pub returns-in_default : goal.returns-in_default
returns-in_default c =
    let first = first_arrives c.args.flow.now.edges c.args.point c.incoming.result.now c.incoming.ensures c.in-len1-up.len_at_least in
    let edge = read_edge c.args.flow.now.edges c.edges.result.now _ c.index-edges-edge.result first.edge c.edges.ensures first.there in
    let behind = same_true the_type (search rules) _ _ (read_point c.ne.result _ c.ne.ensures c.if-ne.false) in
    let point = point_there c.args.flow.now.points c.points.result.now c.args.point _ c.points.ensures c.requires in
    record {
      value = sym (read_is c.args.flow.now c.args.point _ c.incoming.result.now first.edge point behind c.incoming.ensures c.in-len1-up.len_at_least first.there
          ∙ no_read c.args.flow.now first.edge.act (λ x same. c.in_default.not-Read x (ap (λ (e : Edge). e.act) edge ∙ same)));
      seen = tt;
    }
