use Rattle.std.proofs.Common.{◌≡◌, ℕ, ◌<◌, true, length, get_or, sym, ap, subst, ◌∙◌}
use Rattle.alias_class.specs.Cells.{IsClass}
use Rattle.alias_class.specs.Classes.{class_at}
use Rattle.alias_class.specs.Tables.{Table}
use Rattle.activations.specs.Fitting.{class_number, class_of_node}
use Rattle.control_points.specs.Acts.{act_types_fit, each_act}
use Rattle.control_points.specs.Fits.{routine_at}
use Rattle.pas_program.specs.declared.program.Program.{Program}
use Rattle.pas_program.specs.Checked.{numbers_in, tables}
use Rattle.pas_program.specs.Each.{Rule}
use Rattle.transfer_fwd.specs.Standing.{ActStands, loop_seen}
use Rattle.environment.specs.EnvironmentLaws.{env_laws}
use Rattle.environment.specs.Environments.{Environment, cell_count, env_join}
use Rattle.abstract_expr.specs.Expressions.{Scope}
use Rattle.abstract_expr.specs.Standing.{cells_in}
use Rattle.control_points.specs.declared.edge.Act.{Act}
use Rattle.control_points.specs.declared.edge.Edge.{Edge}
use Rattle.control_points.specs.Leading.{goes_on_after}
use Rattle.transfer_fwd.specs.Actions.{after}
use Rattle.transfer_fwd.specs.Forward.{scope_at}
use Rattle.transfer_fwd.proofs.AlongArcs.{act_there, action_is, edge_read, plain_no_return}
use Rattle.transfer_fwd.proofs.StandingActs.{act_loop_seen, act_seen}
use Rattle.transfer_fwd.proofs.along.Unfolded.stay.Goals as goal

pub act-requires-clause-stands : goal.act-requires-clause-stands
act-requires-clause-stands c =
    let x = c.args.self.now in
    let f = x.flow.now in
    let g = x.graph.now in
    let arc = c.args.arc.now in
    let e = c.index-edges-arc.result in
    let known = edge_read f.edges c.edges.result.now arc.edge e c.requires.arc.edge c.edges.ensures c.index-edges-arc.is in
    let on : goes_on_after e.act ≡ true = sym (ap (λ (a : Act). goes_on_after a) (action_is f g arc.edge e known)) ∙ c.requires.stays in
    let node = x.fits.nodes arc.from c.requires.arc.from in
    let along = c.requires.arc.along e.act (act_there f arc.edge e known) (plain_no_return e.act on) in
    let stands = ap (λ (p : ℕ). routine_at f.points p) (along.leaves e known) ∙ node.stands in
    let valid = subst (λ (t : Table). (i : ℕ) → i < length t.classes → IsClass t.outline (class_at t.classes i)) c.classes.ensures c.count.ensures.each_is_a_class (class_number g arc.from) node.class in
    let accesses = c.what_is_visible_is_seen.ensures.accesses in
    let seen = act_seen f g.table.outline x.outline (class_of_node g arc.from) valid arc.edge e known stands accesses c.what_is_visible_is_seen.ensures.exprs on in
    let loops = act_loop_seen f g.table.outline x.outline (class_of_node g arc.from) valid arc.edge e known stands accesses in
    let act_is : e.act ≡ (get_or c.edges.result.now arc.edge e).act = ap (λ (d : Edge). d.act) c.index-edges-arc.is in
    let all : ActStands c.actions.result.scope e.act = record {
      numbers = subst (λ (p : Program). each_act (numbers_in p) e.act ≡ true) (sym c.actions.ensures.program) (f.edges_fit.numbers arc.edge e known);
      types = subst (λ (p : Program). act_types_fit (tables p) e.act ≡ true) (sym c.actions.ensures.program) (f.edges_fit.types arc.edge e known);
      seen = subst (λ (q : Rule). each_act q e.act ≡ true) (sym c.actions.ensures.seen) seen;
      loops = subst (λ (q : Rule). loop_seen q e.act ≡ true) (sym c.actions.ensures.seen) loops;
    } in
    subst (λ (a : Act). ActStands c.actions.result.scope a) act_is all

pub join_from-requires : goal.join_from-requires
join_from-requires c =
    let f = c.args.self.now.flow.now in
    let g = c.args.self.now.graph.now in
    let k = c.args.arc.now.edge in
    let e = c.index-edges-arc.result in
    let known = edge_read f.edges c.edges.result.now k e c.requires.arc.edge c.edges.ensures c.index-edges-arc.is in
    let class = c.requires.arc.stays e.act (act_there f k e known) (sym (ap (λ (a : Act). goes_on_after a) (action_is f g k e known)) ∙ c.requires.stays) in
    c.requires.out ∙ ap (λ (n : ℕ). cells_in g.table n) class ∙ sym (c.act.ensures.cells ∙ c.requires.from)

pub returns-clause-value : goal.returns-clause-value
returns-clause-value c =
    let f = c.args.self.now.flow.now in
    let g = c.args.self.now.graph.now in
    let a = c.args.arc.now in
    let e = c.index-edges-arc.result in
    let known = edge_read f.edges c.edges.result.now a.edge e c.requires.arc.edge c.edges.ensures c.index-edges-arc.is in
    let action = ap (λ (d : Edge). d.act) (sym c.index-edges-arc.is) ∙ sym (action_is f g a.edge e known) in
    c.join_from.ensures.value ∙ ap (λ (x : Environment). env_join c.args.out.now.env x)
    (c.act.ensures.value ∙ ap (λ (s : Scope). after s (get_or c.edges.result.now a.edge e).act c.args.scratch.now.env) c.actions.ensures.scope ∙ ap (λ (x : Act). after (scope_at f g a.from) x c.args.scratch.now.env) action)

pub returns-clause-cells : goal.returns-clause-cells
returns-clause-cells c =
    let f = c.args.self.now.flow.now in
    let g = c.args.self.now.graph.now in
    let k = c.args.arc.now.edge in
    let e = c.index-edges-arc.result in
    let known = edge_read f.edges c.edges.result.now k e c.requires.arc.edge c.edges.ensures c.index-edges-arc.is in
    let class = c.requires.arc.stays e.act (act_there f k e known) (sym (ap (λ (a : Act). goes_on_after a) (action_is f g k e known)) ∙ c.requires.stays) in
    ap cell_count c.join_from.ensures.value
    ∙ env_laws.join_shape c.args.out.now.env c.act.new.env.env (c.requires.out ∙ ap (λ (n : ℕ). cells_in g.table n) class ∙ sym (c.act.ensures.cells ∙ c.requires.from))
