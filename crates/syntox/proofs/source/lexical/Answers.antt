use Rattle.syntox.proofs.Faults.{lexical_fault, lexical_in}
use Rattle.syntox.specs.Source as source
use Rattle.syntox.proofs.source.lexical.Goals as goal

pub returns-in_default : goal.returns-in_default
returns-in_default c = record {
  fault = λ text r. source.lexical (lexical_fault text c.args.fault c.in_default.not-Memory r);
  place = λ text r. lexical_in text c.args.fault (lexical_fault text c.args.fault c.in_default.not-Memory r);
}
