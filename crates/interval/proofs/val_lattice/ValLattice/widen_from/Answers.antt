use Rattle.std.proofs.Common.{sym}
use Rattle.std.proofs.lemmas.Bool.{OnTrue_at}
use Rattle.interval.specs.ValueLaws.{val_widen_of_below}
use Rattle.interval.proofs.val_lattice.ValLattice.widen_from.Goals as goal

pub returns-then-spans-clause-value : goal.returns-then-spans-clause-value
returns-then-spans-clause-value c =
    sym (val_widen_of_below c.args.steps.now c.args.self.now c.args.y.now c.args.limit.now (OnTrue_at c.if-spans.true c.spans.ensures))
