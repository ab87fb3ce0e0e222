use Rattle.std.proofs.Common.{◌≡◌, ℕ, Option, sym, ap, ◌∙◌}
use Rattle.std.specs.Option.{unwrap_or}
use Rattle.environment.specs.EnvironmentLaws.{env_laws}
use Rattle.environment.specs.Environments.{Environment, cell_count, env_join, env_ops}
use Rattle.abstract_expr.specs.Standing.{cells_in}
use Rattle.activations.specs.Fitting.{exit_of}
use Rattle.fixpoint.specs.System.{element}
use Rattle.transfer_fwd.specs.Crossed.{crossing_of}
use Rattle.transfer_fwd.specs.Crossings.{Crossing, back_from, returned}
use Rattle.transfer_fwd.specs.Forward.{action_at, crossing_by}
use Rattle.transfer_fwd.specs.Systems.{environments}
use Rattle.transfer_fwd.proofs.AlongArcs.{table_read}
use Rattle.transfer_fwd.proofs.along.Unfolded.come_back.Goals as goal

pub returns-clause-value : goal.returns-clause-value
returns-clause-value c =
    let f = c.args.self.now.flow.now in
    let g = c.args.self.now.graph.now in
    let a = c.args.arc.now in
    let out = c.args.out.now.env in
    let scratch = c.args.scratch.now.env in
    let exit : c.in-Some.exit ≡ exit_of a = ap (λ (o : Option ℕ). unwrap_or o 0) (sym c.in-Some.is) in
    let read : c.index-table-exit.result.env ≡ element env_ops (environments c.args.table.now) (exit_of a) =
    sym (table_read g c.args.table.now c.in-Some.exit c.index-table-exit.result c.requires.table (c.requires.arc.exit c.in-Some.exit c.in-Some.is) c.index-table-exit.is)
    ∙ ap (λ (n : ℕ). element env_ops (environments c.args.table.now) n) exit in
    let crossing : crossing_of c.crossing-crossing.result ≡ crossing_by f g a.from (exit_of a) a.call (action_at f g c.args.site) =
    c.crossing-crossing.ensures.value ∙ ap (λ (n : ℕ). crossing_by f g a.from n a.call (action_at f g c.args.site)) exit in
    c.join_from.ensures.value ∙ ap (λ (e : Environment). env_join out e)
    (c.come_back.ensures.value
    ∙ ap (λ (e : Environment). back_from (crossing_of c.crossing-crossing.result) c.index-table-exit.result.env e) c.leave.ensures.value
    ∙ ap (λ (e : Environment). returned (crossing_of c.crossing-crossing.result) e scratch) read
    ∙ ap (λ (x : Crossing). returned x (element env_ops (environments c.args.table.now) (exit_of a)) scratch) crossing)

pub returns-clause-cells : goal.returns-clause-cells
returns-clause-cells c =
    let g = c.args.self.now.graph.now in
    ap cell_count c.join_from.ensures.value
    ∙ env_laws.join_shape c.args.out.now.env c.come_back.new.left.env
    (c.requires.out ∙ ap (λ (n : ℕ). cells_in g.table n) c.requires.back.class ∙ sym (c.come_back.ensures.cells ∙ c.leave.ensures.cells ∙ c.requires.from))
