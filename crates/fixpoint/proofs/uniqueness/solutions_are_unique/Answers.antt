use Rattle.fixpoint.specs.Ascent.{bottoms}
use Rattle.fixpoint.proofs.OneOutcome.{one_ascent, one_descent}
use Rattle.fixpoint.proofs.uniqueness.solutions_are_unique.Goals as goal

pub returns-clause-ascent : goal.returns-clause-ascent
returns-clause-ascent g c system limits steps elements t u =
    one_ascent g.L.Lattice.ops system limits steps elements (bottoms g.L.Lattice.ops limits) t u

pub returns-clause-descent : goal.returns-clause-descent
returns-clause-descent g c system limits elements from t u = one_descent g.L.Lattice.ops system limits elements from t u
