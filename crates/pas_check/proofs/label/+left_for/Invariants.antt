use Rattle.std.proofs.Common.{length}
use Rattle.pas_check.proofs.label.+left_for.Given as goal

abbrev pub decreases-left_for : goal.decreases-left_for
decreases-left_for l = length l.scopes.now
