use Rattle.std.proofs.Common.{sym, ap, ◌∙◌}
use Rattle.environment.specs.EnvironmentLaws.{env_laws}
use Rattle.environment.specs.Environments.{cell_count}
use Rattle.transfer_fwd.proofs.along.Unfolded.go.Goals as goal

pub returns-clause-cells : goal.returns-clause-cells
returns-clause-cells c =
    ap cell_count c.join_from.ensures.value
    ∙ env_laws.join_shape c.args.out.now.env c.keep_cells.new.env.env (sym (c.keep_cells.ensures.cells ∙ c.cells.ensures))
