use Rattle.std.proofs.Common.{◌≡◌, length, not, sym, ap, ◌∙◌}
use Rattle.interval.specs.Values.{val_meet}
use Rattle.environment.specs.Pointwise.{each}
use Rattle.environment.specs.Environments.{has_empty_cell, env_meet}
use Rattle.environment.specs.Environments.Environment.{Reachable}
use Rattle.environment.specs.CellLaws.{alike, length-each}
use Rattle.environment.proofs.Kept.{reached, as_long, pass_settles}
use Rattle.environment.proofs.env.order.EnvLattice.meet_from.Goals as goal

pub returns-clause-value : goal.returns-clause-value
returns-clause-value c =
    let vs = c.self.inside.cells.items in
    let ws = c.other.inside.cells.items in
    let met = c.meet_cells-self-inside in
    let first : c.args.self.now.env ≡ Reachable vs = reached _ _ _ _ _ c.self.view_is c.self.invariant.something c.if-not-self.false in
    let second : c.args.other.now.env ≡ Reachable ws = reached _ _ _ _ _ c.other.view_is c.other.invariant.something c.if-not-other.false in
    let same : length vs ≡ length ws = as_long c.args.self.now.env c.args.other.now.env vs ws first second c.requires in
    let inputs : each val_meet c.deref_mut.result.now c.deref.result.now ≡ each val_meet vs ws = cc in
    pass_settles _ _ _ vs _ (each val_meet vs ws)
    (met.ensures.settled ∙ ap (λ us. not (has_empty_cell us)) inputs) (λ h. met.ensures.value h ∙ inputs)
    (c.self.invariant.counted c.if-not-self.false) c.self.inside.cells.ok.0 (met.auto.cells ∙ ap length c.deref_mut.ensures.value)
    (length-each val_meet (alike vs ws same)) ∙
    ap (λ y. env_meet (Reachable vs) y) (sym second) ∙ ap (λ x. env_meet x c.args.other.now.env) (sym first)
