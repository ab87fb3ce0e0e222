use Rattle.std.proofs.Common.{◌≡◌, IsTrue, ap, sym, ◌∙◌}
use Rattle.interval.specs.Values.{val_join}
use Rattle.environment.specs.Environments.{env_join}
use Rattle.environment.specs.Environments.Environment.{Reachable}
use Rattle.environment.specs.Pointwise.{each, each_below}
use Rattle.environment.proofs.Kept.{reached, as_long, join_above, pass_is_kept, pass_value}
use Rattle.environment.proofs.env.order.EnvLattice.join_from.Goals as goal

pub invariant_of-self : goal.invariant_of-self
invariant_of-self c =
    let vs = c.self.inside.cells.items in
    let ws = c.other.inside.cells.items in
    let first : c.args.self.now.env ≡ Reachable vs = reached _ _ _ _ _ c.self.view_is c.self.invariant.something c.if-not-self.false in
    let second : c.args.other.now.env ≡ Reachable ws = reached _ _ _ _ _ c.other.view_is c.other.invariant.something c.if-other.true in
    let joined : c.join_cells.new.cells ≡ each val_join vs ws = cc in
    pass_is_kept _ _ _ _ _ _ _ c.self.invariant c.if-not-self.false c.self.inside.cells.ok.0
    (join_above vs ws _ (as_long c.args.self.now.env c.args.other.now.env vs ws first second c.requires) joined)

pub returns-then-other-clause-value : goal.returns-then-other-clause-value
returns-then-other-clause-value c =
    let vs = c.self.inside.cells.items in
    let ws = c.other.inside.cells.items in
    let first : c.args.self.now.env ≡ Reachable vs = reached _ _ _ _ _ c.self.view_is c.self.invariant.something c.if-not-self.false in
    let second : c.args.other.now.env ≡ Reachable ws = reached _ _ _ _ _ c.other.view_is c.other.invariant.something c.if-other.true in
    let joined : c.join_cells.new.cells ≡ each val_join vs ws = cc in
    let above : IsTrue (each_below vs c.join_cells.new.cells) =
    join_above vs ws _ (as_long c.args.self.now.env c.args.other.now.env vs ws first second c.requires) joined in
    pass_value _ _ _ _ _ c.if-not-self.false c.self.inside.cells.ok.0 above (c.self.invariant.something c.if-not-self.false) ∙ ap Reachable joined ∙
    ap (λ y. env_join (Reachable vs) y) (sym second) ∙ ap (λ x. env_join x c.args.other.now.env) (sym first)
