use Rattle.std.proofs.Common.{◌≡◌, IsTrue, ap, sym, ◌∙◌}
use Rattle.interval.specs.Values.{val_widen}
use Rattle.environment.specs.Environments.{env_widen}
use Rattle.environment.specs.Environments.Environment.{Reachable}
use Rattle.environment.specs.Pointwise.{each_within, each_below}
use Rattle.environment.proofs.Kept.{reached, limit_reached, within_reached, widen_above, pass_is_kept, pass_value}
use Rattle.environment.proofs.env.order.EnvLattice.widen_from.Goals as goal

pub invariant_of-self : goal.invariant_of-self
invariant_of-self c =
    let vs = c.self.inside.cells.items in
    let ws = c.y.inside.cells.items in
    let ls = c.limit.inside.cells.items in
    let first : c.args.self.now.env ≡ Reachable vs = reached _ _ _ _ _ c.self.view_is c.self.invariant.something c.if-not-self.false in
    let second : c.args.y.now.env ≡ Reachable ws = reached _ _ _ _ _ c.y.view_is c.y.invariant.something c.if-not-y.false in
    let widened : c.widen_cells.new.cells ≡ each_within (val_widen c.args.steps.now) vs ws ls = cc in
    pass_is_kept _ _ _ _ _ _ _ c.self.invariant c.if-not-self.false c.self.inside.cells.ok.0
    (widen_above c.args.steps.now vs ws ls _ c.requires.steps
    (within_reached c.args.self.now.env _ vs ls _ _ _ first c.limit.view_is c.limit.invariant.something c.requires.within)
    (within_reached c.args.y.now.env _ ws ls _ _ _ second c.limit.view_is c.limit.invariant.something c.requires.y_within)
    widened)

pub returns-clause-value : goal.returns-clause-value
returns-clause-value c =
    let vs = c.self.inside.cells.items in
    let ws = c.y.inside.cells.items in
    let ls = c.limit.inside.cells.items in
    let steps = c.args.steps.now in
    let limit = c.args.limit.now.env in
    let first : c.args.self.now.env ≡ Reachable vs = reached _ _ _ _ _ c.self.view_is c.self.invariant.something c.if-not-self.false in
    let second : c.args.y.now.env ≡ Reachable ws = reached _ _ _ _ _ c.y.view_is c.y.invariant.something c.if-not-y.false in
    let third : limit ≡ Reachable ls = limit_reached c.args.self.now.env _ vs ls _ _ _ first c.limit.view_is c.limit.invariant.something c.requires.within in
    let widened : c.widen_cells.new.cells ≡ each_within (val_widen steps) vs ws ls = cc in
    let above : IsTrue (each_below vs c.widen_cells.new.cells) =
    widen_above steps vs ws ls _ c.requires.steps
    (within_reached c.args.self.now.env _ vs ls _ _ _ first c.limit.view_is c.limit.invariant.something c.requires.within)
    (within_reached c.args.y.now.env _ ws ls _ _ _ second c.limit.view_is c.limit.invariant.something c.requires.y_within)
    widened in
    pass_value _ _ _ _ _ c.if-not-self.false c.self.inside.cells.ok.0 above (c.self.invariant.something c.if-not-self.false) ∙ ap Reachable widened ∙
    ap (λ l. env_widen steps (Reachable vs) (Reachable ws) l) (sym third) ∙ ap (λ y. env_widen steps (Reachable vs) y limit) (sym second) ∙
    ap (λ x. env_widen steps x c.args.y.now.env limit) (sym first)
