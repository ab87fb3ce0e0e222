use Rattle.std.proofs.Common.{length}
use Rattle.pas_check.proofs.scope.+denoted.Given as goal

abbrev pub decreases-denoted : goal.decreases-denoted
decreases-denoted l = length l.scopes.now
