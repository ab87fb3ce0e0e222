-- How reading a whole file ends.
use Rattle.std.specs.Prelude.{Bool, true, false, Result, Ok, Err}
use Rattle.px_base.specs.declared.reading.ReadEnd.{ReadEnd}
use Rattle.px_base.specs.declared.reading.ReadEnd.TheVariants.{Failed, TooLarge, Memory}

-- whether it ended by a fault of the outside
abbrev pub is_fault : {T : Type 0} → Result T ReadEnd → Bool
is_fault (Ok v) = false
is_fault (Err Failed) = true
is_fault (Err TooLarge) = false
is_fault (Err (Memory e)) = false
