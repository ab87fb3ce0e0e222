use Rattle.std.proofs.Common.{◌≡◌, drop}
use Rattle.px_base.specs.Memory.{file_named}
use Rattle.px_base.specs.Named.{named}
use Rattle.px_base.proofs.memory.shelf.position_of.Given as goal

abbrev pub invariant-loop-i : goal.invariant-loop-i
invariant-loop-i l = file_named (named (drop l.i l.files)) l.name ≡ file_named (named l.files) l.name
