-- Places in a text.
use Rattle.std.specs.Prelude.{ℕ, ◌+◌, ◌==◌, Bool, List, length, take, count_by}
use Rattle.std.specs.List.{after_last}
use Rattle.px_base.specs.declared.place.Pos.{Pos}

-- whether a byte is a line feed
abbrev pub is_line_feed : ℕ → Bool
is_line_feed byte = byte == 10

-- The place behind these bytes: lines are counted by line feeds and columns by bytes, both from 1.
abbrev pub place_after : List ℕ → Pos
place_after bytes = record { line = 1 + count_by is_line_feed bytes; col = 1 + length (after_last is_line_feed bytes) }

-- The place of the byte at this offset, or of the end of the text.
abbrev pub place_at : List ℕ → ℕ → Pos
place_at text at = place_after (take at text)
