use Rattle.std.proofs.Common.{◌≡◌, ℕ, ◌≤◌, get_or, refl, sym, ap, subst, ◌∙◌, false}
use Rattle.abstract_expr.specs.Standing.{cells_in}
use Rattle.activations.specs.Fitting.{exit_of}
use Rattle.control_points.specs.declared.edge.Act.{Act}
use Rattle.control_points.specs.declared.edge.Act.TheVariants as act
use Rattle.control_points.specs.declared.edge.Edge.{Edge}
use Rattle.control_points.specs.Leading.{goes_on_after}
use Rattle.environment.specs.EnvironmentLaws.{env_laws}
use Rattle.environment.specs.Environments.{Environment, cell_count, env_join, env_ops, is_reachable}
use Rattle.fixpoint.specs.System.{element}
use Rattle.transfer_fwd.specs.Actions.{after}
use Rattle.transfer_fwd.specs.Crossings.{called, kept_cells, returned}
use Rattle.transfer_fwd.specs.Forward.{action_at, along, along_by, cells_at, crossing_by, scope_at}
use Rattle.transfer_fwd.specs.Systems.{environments}
use Rattle.transfer_fwd.proofs.AlongArcs.{act_read, action_is, action_read, cells_read, edge_read, table_read}
use Rattle.transfer_fwd.proofs.AroundCells.{along_idle, along_plain, around_fewer, idle_goes_on, plain}
use Rattle.transfer_fwd.proofs.ForwardEquations.{along_cells}
use Rattle.transfer_fwd.proofs.Shapes.{KeepsCells}
use Rattle.transfer_fwd.proofs.Unreached.{LeavesLess, along_nowhere, nothing_joined}
use Rattle.transfer_fwd.proofs.along.Unfolded.join_arc.Goals as goal

-- an element that is not reached joins nothing
pub returns-then-not-reachable-clause-value : goal.returns-then-not-reachable-clause-value
returns-then-not-reachable-clause-value c =
    let x = c.args.self.now in
    let f = x.flow.now in
    let g = x.graph.now in
    let a = c.args.arc.now in
    let table = environments c.args.table.now in
    let law = c.refining_leaves_less.ensures in
    let less : LeavesLess = record { expr = law.exprs; access = law.accesses; relation = law.relations; names = law.names } in
    let keeps : KeepsCells = record { expr = law.expr_cells; access = law.access_cells; relation = law.relation_cells; names = law.name_cells } in
    let read = table_read g c.args.table.now a.from c.index-table-arc.result c.requires.table c.requires.arc.from c.index-table-arc.is in
    let nowhere : is_reachable (element env_ops table a.from) ≡ false = ap is_reachable read ∙ sym c.reachable.ensures.value ∙ c.if-not-reachable.true in
    let cells = along_cells f g x.fits keeps table a c.requires.table.cells c.requires.arc in
    sym (nothing_joined c.args.out.now.env (along f g table a) (along_nowhere less f g table a nowhere) (cells ∙ sym c.requires.out))

pub come_back-requires-clause-back : goal.come_back-requires-clause-back
come_back-requires-clause-back c =
    let f = c.args.self.now.flow.now in
    let a = c.args.arc.now in
    c.requires.arc.returns c.in-Return.call
    (act_read f c.edges.result.now a.edge c.index-edges-arc.result (act.Return c.in-Return.call) c.requires.arc.edge c.edges.ensures c.index-edges-arc.is c.in-Return.is)

pub go-requires-clause-left : goal.go-requires-clause-left
go-requires-clause-left c =
    let f = c.args.self.now.flow.now in
    let g = c.args.self.now.graph.now in
    let a = c.args.arc.now in
    let around = c.requires.arc.goto c.in-Goto.routine
    (act_read f c.edges.result.now a.edge c.index-edges-arc.result (act.Goto c.in-Goto.routine) c.requires.arc.edge c.edges.ensures c.index-edges-arc.is c.in-Goto.is) in
    let fewer : cells_at g a.to ≤ cells_at g a.from = around_fewer g.table.outline _ _ c.in-Goto.routine around in
    let cells = cells_read g c.args.table.now a.from c.index-table-arc.result c.requires.table c.requires.arc.from c.index-table-arc.is in
    subst (λ (n : ℕ). cells_at g a.to ≤ n) (sym cells) fewer

pub stay-requires : goal.stay-requires
stay-requires c =
    let f = c.args.self.now.flow.now in
    let g = c.args.self.now.graph.now in
    let a = c.args.arc.now in
    let e = c.index-edges-arc.result in
    let known = edge_read f.edges c.edges.result.now a.edge e c.requires.arc.edge c.edges.ensures c.index-edges-arc.is in
    let goes_on = ap (λ (x : Act). goes_on_after x) (action_is f g a.edge e known ∙ ap (λ (d : Edge). d.act) c.index-edges-arc.is) ∙ plain _ c.in_default.not-Call c.in_default.not-Return c.in_default.not-Goto in
    let cells = cells_read g c.args.table.now a.from c.index-table-arc.result c.requires.table c.requires.arc.from c.index-table-arc.is in
    record {
      arc = c.requires.arc;
      stays = goes_on;
      from = ap cell_count c.copy_from-in_default.ensures.value ∙ cells;
      out = c.requires.out;
    }

pub returns-in-Call-clause-value : goal.returns-in-Call-clause-value
returns-in-Call-clause-value c =
    let f = c.args.self.now.flow.now in
    let g = c.args.self.now.graph.now in
    let a = c.args.arc.now in
    let table = environments c.args.table.now in
    let out = c.args.out.now.env in
    let action = action_read f g c.edges.result.now a.edge c.index-edges-arc.result (act.Call c.in-Call.routine c.in-Call.actuals c.in-Call.slot c.in-Call.at) c.requires.arc.edge c.edges.ensures c.index-edges-arc.is c.in-Call.is in
    let read = table_read g c.args.table.now a.from c.index-table-arc.result c.requires.table c.requires.arc.from c.index-table-arc.is in
    c.enter.ensures.value
    ∙ ap (λ (e : Environment). env_join out (called (crossing_by f g a.from a.to a.call (action_at f g a.edge)) e)) (c.copy_from.ensures.value ∙ sym read)
    ∙ ap (λ (x : Act). env_join out (called (crossing_by f g a.from a.to a.call x) (element env_ops table a.from))) action
    ∙ sym (ap (λ (x : Act). env_join out (along_by f g table a x)) action)

pub returns-in-Return-clause-value : goal.returns-in-Return-clause-value
returns-in-Return-clause-value c =
    let f = c.args.self.now.flow.now in
    let g = c.args.self.now.graph.now in
    let a = c.args.arc.now in
    let table = environments c.args.table.now in
    let out = c.args.out.now.env in
    let action = action_read f g c.edges.result.now a.edge c.index-edges-arc.result (act.Return c.in-Return.call) c.requires.arc.edge c.edges.ensures c.index-edges-arc.is c.in-Return.is in
    let read = table_read g c.args.table.now a.from c.index-table-arc.result c.requires.table c.requires.arc.from c.index-table-arc.is in
    c.come_back.ensures.value
    ∙ ap (λ (e : Environment). env_join out (returned (crossing_by f g a.from (exit_of a) a.call (action_at f g c.in-Return.call)) (element env_ops table (exit_of a)) e)) (c.copy_from-in-Return.ensures.value ∙ sym read)
    ∙ sym (ap (λ (x : Act). env_join out (along_by f g table a x)) action)

pub returns-in-Goto-clause-value : goal.returns-in-Goto-clause-value
returns-in-Goto-clause-value c =
    let f = c.args.self.now.flow.now in
    let g = c.args.self.now.graph.now in
    let a = c.args.arc.now in
    let table = environments c.args.table.now in
    let out = c.args.out.now.env in
    let action = action_read f g c.edges.result.now a.edge c.index-edges-arc.result (act.Goto c.in-Goto.routine) c.requires.arc.edge c.edges.ensures c.index-edges-arc.is c.in-Goto.is in
    let read = table_read g c.args.table.now a.from c.index-table-arc.result c.requires.table c.requires.arc.from c.index-table-arc.is in
    c.go.ensures.value
    ∙ ap (λ (e : Environment). env_join out (kept_cells (cells_at g a.to) e)) (sym read)
    ∙ sym (ap (λ (x : Act). env_join out (along_by f g table a x)) action)

pub returns-in_default : goal.returns-in_default
returns-in_default c =
    let f = c.args.self.now.flow.now in
    let g = c.args.self.now.graph.now in
    let a = c.args.arc.now in
    let e = c.index-edges-arc.result in
    let table = environments c.args.table.now in
    let out = c.args.out.now.env in
    let known = edge_read f.edges c.edges.result.now a.edge e c.requires.arc.edge c.edges.ensures c.index-edges-arc.is in
    let goes_on = ap (λ (x : Act). goes_on_after x) (action_is f g a.edge e known ∙ ap (λ (d : Edge). d.act) c.index-edges-arc.is) ∙ plain _ c.in_default.not-Call c.in_default.not-Return c.in_default.not-Goto in
    let read = table_read g c.args.table.now a.from c.index-table-arc.result c.requires.table c.requires.arc.from c.index-table-arc.is in
    record {
      value = c.stay.ensures.value
          ∙ ap (λ (x : Environment). env_join out (after (scope_at f g a.from) (action_at f g a.edge) x)) (c.copy_from-in_default.ensures.value ∙ sym read)
          ∙ ap (λ (x : Environment). env_join out x) (sym (along_plain f g table a (action_at f g a.edge) goes_on));
      cells = c.stay.ensures.cells;
      room = c.stay.ensures.room;
      scratch = c.stay.ensures.scratch ∙ c.copy_from-in_default.ensures.room;
    }

pub join_from-requires : goal.join_from-requires
join_from-requires c =
    let f = c.args.self.now.flow.now in
    let g = c.args.self.now.graph.now in
    let a = c.args.arc.now in
    let action = (get_or c.edges.result.now a.edge c.index-edges-arc.result).act in
    let known = act_read f c.edges.result.now a.edge c.index-edges-arc.result action c.requires.arc.edge c.edges.ensures c.index-edges-arc.is refl in
    let class = c.requires.arc.stays action known (idle_goes_on action c.in-Skip.is) in
    let cells = cells_read g c.args.table.now a.from c.index-table-arc.result c.requires.table c.requires.arc.from c.index-table-arc.is in
    c.requires.out ∙ ap (λ (n : ℕ). cells_in g.table n) class ∙ sym cells

pub returns-in-Skip-clause-value : goal.returns-in-Skip-clause-value
returns-in-Skip-clause-value c =
    let f = c.args.self.now.flow.now in
    let g = c.args.self.now.graph.now in
    let a = c.args.arc.now in
    let table = environments c.args.table.now in
    let action = (get_or c.edges.result.now a.edge c.index-edges-arc.result).act in
    let read_action = action_read f g c.edges.result.now a.edge c.index-edges-arc.result action c.requires.arc.edge c.edges.ensures c.index-edges-arc.is refl in
    let read = table_read g c.args.table.now a.from c.index-table-arc.result c.requires.table c.requires.arc.from c.index-table-arc.is in
    c.join_from.ensures.value
    ∙ ap (λ (x : Environment). env_join c.args.out.now.env x) (sym read ∙ sym (along_idle f g table a action c.in-Skip.is) ∙ sym (ap (λ (x : Act). along_by f g table a x) read_action))

pub returns-in-Skip-clause-cells : goal.returns-in-Skip-clause-cells
returns-in-Skip-clause-cells c =
    let f = c.args.self.now.flow.now in
    let g = c.args.self.now.graph.now in
    let a = c.args.arc.now in
    let action = (get_or c.edges.result.now a.edge c.index-edges-arc.result).act in
    let known = act_read f c.edges.result.now a.edge c.index-edges-arc.result action c.requires.arc.edge c.edges.ensures c.index-edges-arc.is refl in
    let class = c.requires.arc.stays action known (idle_goes_on action c.in-Skip.is) in
    let cells = cells_read g c.args.table.now a.from c.index-table-arc.result c.requires.table c.requires.arc.from c.index-table-arc.is in
    ap cell_count c.join_from.ensures.value
    ∙ env_laws.join_shape c.args.out.now.env c.index-table-arc.result.env (c.requires.out ∙ ap (λ (n : ℕ). cells_in g.table n) class ∙ sym cells)
