use Rattle.std.proofs.Common.{◌≡◌, ℕ, ◌<◌, get_or, false}
use Rattle.interp.specs.InputItems as spec
use Rattle.interp.proofs.items.word_end.Given as goal

-- no byte so far ends a run
abbrev pub invariant-loop-i : goal.invariant-loop-i
invariant-loop-i l = (k : ℕ) → k < l.i → spec.is_between (get_or l.bytes k 0) ≡ false
