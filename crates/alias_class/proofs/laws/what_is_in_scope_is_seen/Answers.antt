use Rattle.std.proofs.Common.{refl}
use Rattle.alias_class.proofs.Seen.{is_around_class, is_seen_class, some_of}
use Rattle.alias_class.proofs.laws.what_is_in_scope_is_seen.Goals as goal

pub returns-clause-variables : goal.returns-clause-variables
returns-clause-variables c = λ f x v is visible. is_seen_class f.program x is _ refl v visible

pub returns-clause-routines : goal.returns-clause-routines
returns-clause-routines c = λ f x s is around. some_of _ (is_around_class f.program x is _ refl s around)
