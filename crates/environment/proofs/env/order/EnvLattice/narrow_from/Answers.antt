use Rattle.std.proofs.Common.{◌≡◌, ◌⊎◌, ℕ, List, length, ap, inl, inr, refl, sym, subst, ◌∙◌, IsTrue}
use Rattle.interval.specs.declared.val.Val.{Val}
use Rattle.interval.specs.Values.{val_narrow}
use Rattle.environment.specs.Pointwise.{each_within}
use Rattle.environment.specs.Environments.{cell_count, has_empty_cell, limits}
use Rattle.environment.specs.Environments.Environment.{Unreachable, Reachable}
use Rattle.environment.proofs.Kept.{reached, unreached, same_limits, narrow_value, narrow_emptied}
use Rattle.environment.proofs.env.order.EnvLattice.narrow_from.Goals as goal
use Rattle.environment.proofs.env.order.EnvLattice.narrow_from.Goals.{then-limit, else-limit}

pub returns-in-None-clause-value : goal.returns-in-None-clause-value
returns-in-None-clause-value c =
    let vs : List Val = c.self.inside.cells.items in
    let ws : List Val = c.y.inside.cells.items in
    let ls : List Val = c.if-limit.limits.now.items in
    let limit = c.args.limit.now.env in
    let first : c.args.self.now.env ≡ Reachable vs = reached _ _ _ _ _ c.self.view_is c.self.invariant.something c.if-not-self.false in
    let second : c.args.y.now.env ≡ Reachable ws = reached _ _ _ _ _ c.y.view_is c.y.invariant.something c.if-not-y.false in
    let chosen : (limit ≡ Reachable ls) ⊎ ((m : ℕ) × (limit ≡ Unreachable m) × (ls ≡ ws)) =
    elim c.if-limit.branch [
      | then-limit w ↦
          inl (reached _ _ _ _ _ c.limit.view_is c.limit.invariant.something w.if-limit.true ∙ ap (λ b. Reachable b.now.items) (sym w.limits-is))
      | else-limit w ↦
          inr (c.limit.inside.count, unreached c.limit.inside.reachable c.limit.inside.count c.limit.inside.room c.limit.inside.cells.items c.args.limit.now c.limit.view_is w.if-limit.false, ap (λ b. b.now.items) w.limits-is)
    ] in
    let same : each_within val_narrow vs ws ls ≡ each_within val_narrow vs ws (limits limit) =
    same_limits limit vs ws ls (ap cell_count (sym first) ∙ c.requires.shape) (ap cell_count (sym second) ∙ c.requires.shape_of_y) chosen in
    let inputs : each_within val_narrow c.deref_mut.result.now c.deref.result.now c.deref-2.result.now ≡ each_within val_narrow vs ws ls = cc in
    let P : List Val → Type 0 = λ us. IsTrue (has_empty_cell us) in
    narrow_emptied c.args.self.now.env c.args.y.now.env limit vs ws _ first second
    (c.self.invariant.counted c.if-not-self.false) c.requires.shape c.requires.shape_of_y (subst P (inputs ∙ same) (c.in-None.ensures.emptied.0 refl))

pub returns-in-Some-clause-value : goal.returns-in-Some-clause-value
returns-in-Some-clause-value c =
    let vs : List Val = c.self.inside.cells.items in
    let ws : List Val = c.y.inside.cells.items in
    let ls : List Val = c.if-limit.limits.now.items in
    let limit = c.args.limit.now.env in
    let first : c.args.self.now.env ≡ Reachable vs = reached _ _ _ _ _ c.self.view_is c.self.invariant.something c.if-not-self.false in
    let second : c.args.y.now.env ≡ Reachable ws = reached _ _ _ _ _ c.y.view_is c.y.invariant.something c.if-not-y.false in
    let chosen : (limit ≡ Reachable ls) ⊎ ((m : ℕ) × (limit ≡ Unreachable m) × (ls ≡ ws)) =
    elim c.if-limit.branch [
      | then-limit w ↦
          inl (reached _ _ _ _ _ c.limit.view_is c.limit.invariant.something w.if-limit.true ∙ ap (λ b. Reachable b.now.items) (sym w.limits-is))
      | else-limit w ↦
          inr (c.limit.inside.count, unreached c.limit.inside.reachable c.limit.inside.count c.limit.inside.room c.limit.inside.cells.items c.args.limit.now c.limit.view_is w.if-limit.false, ap (λ b. b.now.items) w.limits-is)
    ] in
    let same : each_within val_narrow vs ws ls ≡ each_within val_narrow vs ws (limits limit) =
    same_limits limit vs ws ls (ap cell_count (sym first) ∙ c.requires.shape) (ap cell_count (sym second) ∙ c.requires.shape_of_y) chosen in
    let inputs : each_within val_narrow c.deref_mut.result.now c.deref.result.now c.deref-2.result.now ≡ each_within val_narrow vs ws ls = cc in
    narrow_value c.args.self.now.env c.args.y.now.env limit _ _ _ vs ws _ first second c.if-not-self.false c.self.inside.cells.ok.0
    (c.narrow_cells.auto.cells ∙ ap length c.deref_mut.ensures.value) (c.in-Some.ensures.value ∙ inputs ∙ same)
