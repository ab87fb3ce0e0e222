use Rattle.std.proofs.Common.{sym}
use Rattle.std.proofs.lemmas.Bool.{OnTrue_at}
use Rattle.interval.specs.ValueLaws.{val_meet_of_below}
use Rattle.interval.proofs.val_lattice.ValLattice.meet_from.Goals as goal

pub returns-then-spans-clause-value : goal.returns-then-spans-clause-value
returns-then-spans-clause-value c =
    sym (val_meet_of_below c.args.self.now c.args.other.now (OnTrue_at c.if-spans.true c.spans.ensures))
