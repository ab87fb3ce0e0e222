-- The lines that say why there is no text, and the limits of what is read.
use Rattle.std.specs.Prelude.{ℕ, List, ◌++◌, codes}
use Rattle.px_base.specs.Faults.{Rose}
use Rattle.syntox.specs.declared.due.Stream.{Stream}
use Rattle.syntox.specs.declared.due.Stream.TheVariants.{Complaints}
use Rattle.syntox.specs.declared.status.Status.{Status}
use Rattle.syntox.specs.declared.status.Status.TheVariants.{ReadFault}

-- the most bytes of a source
abbrev pub max_source : ℕ
max_source = 1048576

-- the most bytes of the input of a run
abbrev pub max_input : ℕ
max_input = 1048576

abbrev pub usage_line : List ℕ
usage_line = codes "usage: syntox analyse FILE [--rounds N] [--points] | run FILE [--steps N] | make N\n"

-- `WHO: why`
abbrev pub line : List ℕ → List ℕ → List ℕ
line who why = who ++ codes ": " ++ why ++ codes "\n"

-- a file, or `input`
abbrev pub unreadable_line : List ℕ → List ℕ
unreadable_line who = line who (codes "cannot be read")

abbrev pub large_input_line : List ℕ
large_input_line = line (codes "input") (codes "too large")

-- A count of faults rose, and the line is due that this file, or the input, cannot be read.
pub data IsUnreadable (who : List ℕ) (before after : ℕ) : Stream → List ℕ → Status → Type 0 where
  unreadable : Rose before after → IsUnreadable who before after Complaints (unreadable_line who) ReadFault
