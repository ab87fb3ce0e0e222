use Rattle.std.proofs.Common.{◌≤◌, ℕ, List, length, ap, sym, subst, arith}
use Rattle.std.specs.List.{All}
use Rattle.alias_class.specs.Cells.{foreign_cells}
use Rattle.alias_class.proofs.Entering.{foreign_past}
use Rattle.alias_class.proofs.Outlining.{length-foreign_cells}
use Rattle.alias_class.proofs.tests.passed.Goals as goal

pub links-requires-clause-fits : goal.links-requires-clause-fits
links-requires-clause-fits c =
    let few = length-foreign_cells c.args.inherited c.args.named.now in
    let long = ap length c.in_ok-passing.ensures.foreign in
    let same = c.in_ok-passing.ensures.same_first in
    omega arith

pub links-requires-clause-behind : goal.links-requires-clause-behind
links-requires-clause-behind c =
    subst (λ (ns : List ℕ). All (λ n. c.in_ok-passing.passing.inherited ≤ n) ns) (sym c.in_ok-passing.ensures.foreign)
    (subst (λ (i : ℕ). All (λ n. i ≤ n) (foreign_cells c.args.inherited c.args.named.now)) (sym c.in_ok-passing.ensures.same_inherited) (foreign_past c.args.inherited c.args.named.now))
