use Rattle.std.proofs.Common.{◌≡◌, refl, sym, ap, ◌∙◌}
use Rattle.std.specs.Prelude.{Some}
use Rattle.control_points.specs.declared.edge.Act.{Act}
use Rattle.control_points.specs.declared.edge.Act.TheVariants as act
use Rattle.control_points.specs.declared.edge.Edge.{Edge}
use Rattle.transfer_fwd.specs.Forward.{crossing_by}
use Rattle.transfer_fwd.proofs.AlongArcs.{action_is, call_inside, crossing_is, edge_read, is_call_of, known_call, linked}
use Rattle.transfer_fwd.proofs.along.Unfolded.crossing.Goals as goal

pub invariant_of-result : goal.invariant_of-result
invariant_of-result c =
    let x = c.args.self.now in
    let f = x.flow.now in
    let g = x.graph.now in
    let e = c.index-edges-site.result in
    let known = edge_read f.edges c.edges.result.now c.args.site e (call_inside f.edges c.args.site c.requires.entered.is_call) c.edges.ensures c.index-edges-site.is in
    let action : e.act ≡ act.Call c.in-Call.routine c.in-Call.actuals c.in-Call.slot c.in-Call.at = ap (λ (d : Edge). d.act) c.index-edges-site.is ∙ c.in-Call.is in
    let called = known_call f c.args.site e (act.Call c.in-Call.routine c.in-Call.actuals c.in-Call.slot c.in-Call.at) (record { routine = c.in-Call.routine; actuals = c.as_slice.result.now; slot = c.in-Call.slot })
    known action (ap (λ xs. Some (record { routine = c.in-Call.routine; actuals = xs; slot = c.in-Call.slot })) (sym c.as_slice.ensures)) in
    record {
      call = is_call_of f g x.outline x.fits c.args.arc.now.from c.args.inside c.args.site c.args.arc.now.call _ c.requires.arc.from c.requires.inside c.requires.entered c.requires.stands called
          c.classes.result.now c.class.result c.class-in-Call.result c.classes.ensures c.class.ensures.value c.class-in-Call.ensures.value;
      linked = linked f g c.args.arc.now.from c.args.inside c.args.site c.args.arc.now.call c.links_of.result.now c.requires.entered c.links_of.ensures
          c.classes.result.now c.class.result c.classes.ensures c.class.ensures.value;
    }

pub returns-clause-value : goal.returns-clause-value
returns-clause-value c =
    let x = c.args.self.now in
    let f = x.flow.now in
    let g = x.graph.now in
    let e = c.index-edges-site.result in
    let known = edge_read f.edges c.edges.result.now c.args.site e (call_inside f.edges c.args.site c.requires.entered.is_call) c.edges.ensures c.index-edges-site.is in
    let action : e.act ≡ act.Call c.in-Call.routine c.in-Call.actuals c.in-Call.slot c.in-Call.at = ap (λ (d : Edge). d.act) c.index-edges-site.is ∙ c.in-Call.is in
    crossing_is f g c.args.arc.now.from c.args.inside c.args.arc.now.call c.links_of.result.now (act.Call c.in-Call.routine c.in-Call.actuals c.in-Call.slot c.in-Call.at)
    c.in-Call.routine c.in-Call.actuals c.as_slice.result.now c.in-Call.slot c.links_of.ensures refl c.as_slice.ensures
    c.classes.result.now c.class.result c.class-in-Call.result c.classes.ensures c.class.ensures.value c.class-in-Call.ensures.value
    ∙ ap (λ (a : Act). crossing_by f g c.args.arc.now.from c.args.inside c.args.arc.now.call a) (sym (action_is f g c.args.site e known ∙ action))
