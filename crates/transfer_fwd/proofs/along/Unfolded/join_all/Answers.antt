use Rattle.std.proofs.Common.{ℕ, None, ◌∙◌, sym, ap}
use Rattle.transfer_fwd.specs.Forward.{cells_at}
use Rattle.transfer_fwd.proofs.AlongArcs.{one_leads}
use Rattle.transfer_fwd.proofs.along.Unfolded.join_all.Goals as goal

pub join_arc-requires-clause-arc : goal.join_arc-requires-clause-arc
join_arc-requires-clause-arc c =
    let x = c.args.self.now in
    (one_leads x.flow.now x.graph.now x.fits c.args.node c.loop-arc.arc-index c.incoming-arc-items.result.now (record { from = 0; to = 0; edge = 0; other = None; call = 0 }) c.incoming-arc-items.ensures c.loop-arc-test.true).0

pub join_arc-requires-clause-out : goal.join_arc-requires-clause-out
join_arc-requires-clause-out c =
    let x = c.args.self.now in
    let leads = one_leads x.flow.now x.graph.now x.fits c.args.node c.loop-arc.arc-index c.incoming-arc-items.result.now (record { from = 0; to = 0; edge = 0; other = None; call = 0 }) c.incoming-arc-items.ensures c.loop-arc-test.true in
    c.loop-arc.invariant.1 ∙ c.requires.out ∙ ap (λ (n : ℕ). cells_at x.graph.now n) (sym leads.1)
