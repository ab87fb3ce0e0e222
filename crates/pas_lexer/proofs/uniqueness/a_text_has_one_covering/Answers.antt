use Rattle.pas_lexer.proofs.Coverings.{same-covering, one-list, tokens-or-fault, one-fault}
use Rattle.pas_lexer.proofs.uniqueness.a_text_has_one_covering.Goals as goal

pub returns-clause-coverings : goal.returns-clause-coverings
returns-clause-coverings c = same-covering

pub returns-clause-tokens : goal.returns-clause-tokens
returns-clause-tokens c = one-list

pub returns-clause-either : goal.returns-clause-either
returns-clause-either c = tokens-or-fault

pub returns-clause-faults : goal.returns-clause-faults
returns-clause-faults c = one-fault
