use Rattle.std.proofs.Common.{◌≡◌, take}
use Rattle.alias_class.specs.Calls.{named}
use Rattle.alias_class.specs.Classes.{class_at}
use Rattle.alias_class.proofs.classes.Classes.named_by.Given as goal

abbrev pub invariant-loop-actual : goal.invariant-loop-actual
invariant-loop-actual l = l.named.items ≡ named l.self.outline (class_at l.self.classes l.class) (take l.actual-index l.actuals)
