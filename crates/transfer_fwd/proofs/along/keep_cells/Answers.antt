use Rattle.std.proofs.Common.{◌<◌, ℕ, sym, subst, ◌∙◌}
use Rattle.transfer_fwd.proofs.KeptCells.{all_copied, copied_count, one_copied}
use Rattle.transfer_fwd.proofs.along.keep_cells.Goals as goal

pub set-requires-clause-in_range : goal.set-requires-clause-in_range
set-requires-clause-in_range c =
    let reached = sym c.reachable.ensures.value ∙ c.if-reachable.true in
    subst (λ (n : ℕ). c.loop-cell.cell < n) (sym (copied_count c.args.from.now.env c.loop-cell.env.env c.args.cells c.loop-cell.cell reached c.requires.from c.loop-cell.invariant.0)) c.loop-cell-test.true

pub loop-cell-preserved : goal.loop-cell-preserved
loop-cell-preserved c =
    let reached = sym c.reachable.ensures.value ∙ c.if-reachable.true in (
      one_copied c.args.from.now.env c.loop-cell.env.env c.set.new.self.env c.get.result c.args.cells c.loop-cell.cell c.loop-cell.invariant.0 c.loop-cell-test.true reached c.requires.from
          c.get.ensures.value c.get.ensures.something c.set.ensures.value,
      c.set.ensures.room ∙ c.loop-cell.invariant.1,
    )

pub returns-after-loop-cell-clause-value : goal.returns-after-loop-cell-clause-value
returns-after-loop-cell-clause-value c =
    all_copied c.args.from.now.env c.loop-cell.env.env c.args.cells c.loop-cell.cell c.loop-cell.invariant.0 c.loop-cell-test.false (sym c.reachable.ensures.value ∙ c.if-reachable.true)

pub returns-after-loop-cell-clause-cells : goal.returns-after-loop-cell-clause-cells
returns-after-loop-cell-clause-cells c =
    copied_count c.args.from.now.env c.loop-cell.env.env c.args.cells c.loop-cell.cell (sym c.reachable.ensures.value ∙ c.if-reachable.true) c.requires.from c.loop-cell.invariant.0
