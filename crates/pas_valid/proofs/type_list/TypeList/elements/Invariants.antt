use Rattle.std.proofs.Common.{◌≡◌, ◌*◌, ◌<◌, length}
use Rattle.pas_program.specs.Types.{layout}
use Rattle.pas_valid.proofs.type_list.TypeList.elements.Given as goal

-- the count so far, times that of the type reached, is that of the type
abbrev pub invariant-loop-index : goal.invariant-loop-index
invariant-loop-index l = (l.t < length l.self.list) × (l.count * (layout l.self.list l.t).count ≡ (layout l.self.list l.fn.t).count)

abbrev pub decreases-loop-index : goal.decreases-loop-index
decreases-loop-index l = l.t
