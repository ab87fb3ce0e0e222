use Rattle.environment.proofs.Kept.{weak_set_is_kept, weak_set_value}
use Rattle.environment.proofs.env.Env.weak_set.Goals as goal

pub invariant_of-self : goal.invariant_of-self
invariant_of-self c =
    weak_set_is_kept _ _ _ _ _ _ _ _ c.self.view_is c.self.invariant c.requires.reachable c.requires.in_range
    _ _ c.index_mut.ensures.value c.join_from.ensures.value

pub returns-clause-value : goal.returns-clause-value
returns-clause-value c =
    weak_set_value _ _ _ _ _ _ _ _ c.self.view_is c.self.invariant c.requires.reachable c.requires.in_range
    _ _ c.index_mut.ensures.value c.join_from.ensures.value
