use Rattle.environment.proofs.Kept.{set_is_kept, set_value}
use Rattle.environment.proofs.env.Env.set.Goals as goal

pub invariant_of-self : goal.invariant_of-self
invariant_of-self c =
    set_is_kept _ _ _ _ _ _ _ _ c.self.view_is c.self.invariant c.requires.reachable c.requires.in_range _ c.is_bottom.ensures

pub returns-clause-value : goal.returns-clause-value
returns-clause-value c =
    set_value _ _ _ _ _ _ _ _ c.self.view_is c.self.invariant c.requires.reachable c.requires.in_range _ c.is_bottom.ensures
