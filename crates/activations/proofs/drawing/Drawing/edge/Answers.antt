use Rattle.std.proofs.Common.{◌≡◌, ◌++◌, List, refl, sym, ap, subst, ◌∙◌}
use Rattle.std.proofs.lemmas.Result.{on_ok_weaker}
use Rattle.control_points.specs.declared.edge.Act.TheVariants as act
use Rattle.control_points.specs.declared.edge.Edge.{Edge}
use Rattle.control_points.specs.Fits.{callee_of}
use Rattle.control_points.specs.Leading.{goes_on_after}
use Rattle.activations.specs.declared.arc.Arc.{Arc}
use Rattle.activations.specs.Listed.{AreListed}
use Rattle.activations.specs.Walks.{drawn_of}
use Rattle.activations.proofs.Blocks.{append_nil}
use Rattle.activations.proofs.DrawnCalls.{read_edge}
use Rattle.activations.proofs.DrawnEdges.{a_call, counted_none, counted_one, goto_arcs, known_arcs, not_call, plain, plain_arcs, plain_calls}
use Rattle.activations.proofs.DrawnGotos.{goto_around, goto_class, goto_lands, goto_seen}
use Rattle.activations.proofs.drawing.Drawing.edge.Goals as goal

pub around-requires-clause-seen : goal.around-requires-clause-seen
around-requires-clause-seen c =
    let d = c.args.self.now in
    let e = c.requires.from.0 in
    let is = read_edge d.flow.now.edges c.edges.result.now c.args.edge c.index-edges-edge.result e c.requires.from.1.known c.edges.ensures c.index-edges-edge.is in
    let action : e.act ≡ act.Goto c.in-Goto.routine = ap (λ (x : Edge). x.act) (sym is ∙ c.index-edges-edge.is) ∙ c.in-Goto.is in
    goto_seen d c.requires.set c.args.class c.args.edge c.in-Goto.routine e c.requires.from.1 action c.what_is_in_scope_is_seen.ensures.routines

pub local-requires-clause-into : goal.local-requires-clause-into
local-requires-clause-into c =
    let d = c.args.self.now in
    let e = c.requires.from.0 in
    let is = read_edge d.flow.now.edges c.edges.result.now c.args.edge c.index-edges-edge.result e c.requires.from.1.known c.edges.ensures c.index-edges-edge.is in
    let action : e.act ≡ act.Goto c.in-Goto.routine = ap (λ (x : Edge). x.act) (sym is ∙ c.index-edges-edge.is) ∙ c.in-Goto.is in
    (e, goto_lands d c.requires.set c.args.class c.args.edge c.in-Goto.routine e c.requires.from.1 action c.what_is_in_scope_is_seen.ensures.routines c.around.result c.around.ensures.value)

pub local-requires-in_default : goal.local-requires-in_default
local-requires-in_default c =
    let d = c.args.self.now in
    let e = c.requires.from.0 in
    let is = read_edge d.flow.now.edges c.edges.result.now c.args.edge c.index-edges-edge.result e c.requires.from.1.known c.edges.ensures c.index-edges-edge.is in
    let goes_on = ap (λ (x : Edge). goes_on_after x.act) (sym is ∙ c.index-edges-edge.is) ∙ plain _ c.in_default.not-Call c.in_default.not-Return c.in_default.not-Goto in
    record {
      set = c.requires.set;
      from = c.requires.from;
      into = (e, record { class = c.requires.from.1.class; known = c.requires.from.1.known; lands = d.flow.now.edges_lead.inside c.args.edge e c.requires.from.1.known goes_on ∙ c.requires.from.1.stands });
    }

pub returns-in-Return-clause-arcs : goal.returns-in-Return-clause-arcs
returns-in-Return-clause-arcs c = λ nodes arcs before.
    let d = c.args.self.now in
    let e = c.requires.from.0 in
    let is = read_edge d.flow.now.edges c.edges.result.now c.args.edge c.index-edges-edge.result e c.requires.from.1.known c.edges.ensures c.index-edges-edge.is in
    let action : e.act ≡ act.Return c.in-Return.call = ap (λ (x : Edge). x.act) (sym is ∙ c.index-edges-edge.is) ∙ c.in-Return.is in
    let none = known_arcs (drawn_of d) c.args.class c.args.edge e (act.Return c.in-Return.call) c.requires.from.1.known action in
    subst (λ (zs : List Arc). AreListed nodes zs d.arcs) (sym (append_nil arcs) ∙ ap (λ (zs : List Arc). arcs ++ zs) (sym none)) before

pub returns-in-Return-clause-drawn : goal.returns-in-Return-clause-drawn
returns-in-Return-clause-drawn c =
    let d = c.args.self.now in
    let e = c.requires.from.0 in
    let is = read_edge d.flow.now.edges c.edges.result.now c.args.edge c.index-edges-edge.result e c.requires.from.1.known c.edges.ensures c.index-edges-edge.is in
    let action : e.act ≡ act.Return c.in-Return.call = ap (λ (x : Edge). x.act) (sym is ∙ c.index-edges-edge.is) ∙ c.in-Return.is in
    counted_none c.args.edge d.drawn d.drawn _ (not_call d.flow.now.edges c.args.edge e c.requires.from.1.known (ap callee_of action)) refl

pub returns-in-Call-clause-drawn : goal.returns-in-Call-clause-drawn
returns-in-Call-clause-drawn c = on_ok_weaker c.call.result (λ one.
    let d = c.args.self.now in
    let e = c.requires.from.0 in
    let is = read_edge d.flow.now.edges c.edges.result.now c.args.edge c.index-edges-edge.result e c.requires.from.1.known c.edges.ensures c.index-edges-edge.is in
    let action = ap (λ (x : Edge). x.act) (sym is ∙ c.index-edges-edge.is) ∙ c.in-Call.is in
    counted_one c.args.edge d.drawn c.call.new.self.drawn _ (a_call d.flow.now.edges c.args.edge c.in-Call.routine e c.requires.from.1.known (ap callee_of action)) one) c.call.ensures.drawn

pub returns-in-Goto-clause-arcs : goal.returns-in-Goto-clause-arcs
returns-in-Goto-clause-arcs c = on_ok_weaker c.local.result (λ listed nodes arcs before.
    let d = c.args.self.now in
    let u = drawn_of d in
    let e = c.requires.from.0 in
    let is = read_edge d.flow.now.edges c.edges.result.now c.args.edge c.index-edges-edge.result e c.requires.from.1.known c.edges.ensures c.index-edges-edge.is in
    let action : e.act ≡ act.Goto c.in-Goto.routine = ap (λ (x : Edge). x.act) (sym is ∙ c.index-edges-edge.is) ∙ c.in-Goto.is in
    let found = goto_class d c.requires.set c.args.class c.args.edge c.in-Goto.routine e c.requires.from.1 action c.what_is_in_scope_is_seen.ensures.routines c.around.result c.around.ensures.value in
    let around_is = goto_around d c.requires.set c.args.class c.args.edge c.in-Goto.routine e c.requires.from.1 action c.what_is_in_scope_is_seen.ensures.routines c.around.result c.around.ensures.value in
    let one = goto_arcs u c.requires.set.whole c.args.class c.args.edge c.in-Goto.routine c.around.result e c.requires.from.1.known action around_is found.0 found.1 in
    subst (λ (zs : List Arc). AreListed nodes (arcs ++ zs) c.local.new.self.arcs) (sym one) (listed nodes arcs e c.requires.from.1.known before)) c.local.ensures.arcs

pub returns-in-Goto-clause-drawn : goal.returns-in-Goto-clause-drawn
returns-in-Goto-clause-drawn c = on_ok_weaker c.local.result (λ same.
    let d = c.args.self.now in
    let e = c.requires.from.0 in
    let is = read_edge d.flow.now.edges c.edges.result.now c.args.edge c.index-edges-edge.result e c.requires.from.1.known c.edges.ensures c.index-edges-edge.is in
    let action : e.act ≡ act.Goto c.in-Goto.routine = ap (λ (x : Edge). x.act) (sym is ∙ c.index-edges-edge.is) ∙ c.in-Goto.is in
    counted_none c.args.edge d.drawn c.local.new.self.drawn _ (not_call d.flow.now.edges c.args.edge e c.requires.from.1.known (ap callee_of action)) same) c.local.ensures.drawn

pub returns-in_default : goal.returns-in_default
returns-in_default c =
    let d = c.args.self.now in
    let u = drawn_of d in
    let e = c.requires.from.0 in
    let is = read_edge d.flow.now.edges c.edges.result.now c.args.edge c.index-edges-edge.result e c.requires.from.1.known c.edges.ensures c.index-edges-edge.is in
    let goes_on = ap (λ (x : Edge). goes_on_after x.act) (sym is ∙ c.index-edges-edge.is) ∙ plain _ c.in_default.not-Call c.in_default.not-Return c.in_default.not-Goto in
    let one = plain_arcs u c.args.class c.args.edge e c.requires.from.1.known goes_on in
    record {
      same = c.local-in_default.ensures.same;
      arcs = on_ok_weaker c.local-in_default.result (λ listed nodes arcs before.
          subst (λ (zs : List Arc). AreListed nodes (arcs ++ zs) c.local-in_default.new.self.arcs) (sym one) (listed nodes arcs e c.requires.from.1.known before)) c.local-in_default.ensures.arcs;
      drawn = on_ok_weaker c.local-in_default.result (λ same.
          counted_none c.args.edge d.drawn c.local-in_default.new.self.drawn _ (not_call d.flow.now.edges c.args.edge e c.requires.from.1.known (plain_calls e.act goes_on)) same) c.local-in_default.ensures.drawn;
    }
