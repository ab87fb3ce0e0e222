-- The input of a run (ISO 7185, 6.9.1 and 6.9.2), as items: integers, line ends, and what is neither.
use Rattle.std.specs.Prelude.{List, [], ◌∷◌, ℤ, Option, Some, None}
use Rattle.control_points.specs.declared.item.Item.{Item}
use Rattle.control_points.specs.declared.item.Item.TheVariants.{Number, LineEnd, Junk}

-- an integer that was read, and the items after it
pub record Taken : Type 0 where
  pub number : ℤ
  pub rest : List Item

-- `read` goes over line ends to the next item, which must be an integer
abbrev pub next_number : List Item → Option Taken
next_number [] = None
next_number (LineEnd ∷ items) = next_number items
next_number (Number z ∷ items) = Some (record { number = z; rest = items })
next_number (Junk ∷ items) = None

-- `readln` goes past the next line end, or to the end
abbrev pub after_line : List Item → List Item
after_line [] = []
after_line (LineEnd ∷ items) = items
after_line (item ∷ items) = after_line items
