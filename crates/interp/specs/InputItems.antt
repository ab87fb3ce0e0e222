-- The items of an input's bytes (ISO 7185, 6.9.1). Lines end with line feeds. Within a line, spaces, tabs and carriage returns
-- separate words, and each word is a number or junk.
use Rattle.std.specs.Prelude.{ℕ, ◌+◌, ◌*◌, ◌-◌, Bool, true, false, ◌&&◌, ◌||◌, ◌==◌, nat_le, List, [], ◌∷◌, ◌++◌, map, filter, fold, ℤ, pos, neg_ℤ, Option, Some, None, if◌then◌else◌}
use Rattle.std.specs.List.{list_all}
use Rattle.control_points.specs.declared.item.Item.{Item}
use Rattle.control_points.specs.declared.item.Item.TheVariants.{Number, LineEnd, Junk}

-- ---- the parts of a text

abbrev pub in_front : {A : Type 0} → A → List (List A) → List (List A)
in_front x [] = (x ∷ []) ∷ []
in_front x (part ∷ parts) = (x ∷ part) ∷ parts

-- the parts between the bytes that separate; there is one more than there are such bytes
abbrev pub parts : (ℕ → Bool) → List ℕ → List (List ℕ)
parts separates [] = [] ∷ []
parts separates (b ∷ bytes) = if separates b then [] ∷ parts separates bytes else in_front b (parts separates bytes)

abbrev pub is_line_feed : ℕ → Bool
is_line_feed b = b == 10

-- a space, a tab or a carriage return
abbrev pub is_blank : ℕ → Bool
is_blank b = (b == 32) || ((b == 9) || (b == 13))

-- a byte at which a word ends
abbrev pub is_between : ℕ → Bool
is_between b = is_line_feed b || is_blank b

abbrev pub is_word : List ℕ → Bool
is_word [] = false
is_word (b ∷ bytes) = true

-- the longest runs of bytes of a line that are no blanks
abbrev pub words : List ℕ → List (List ℕ)
words line = filter is_word (parts is_blank line)

-- ---- words

abbrev pub is_digit : ℕ → Bool
is_digit b = nat_le 48 b && nat_le b 57

-- the number that digits stand for
abbrev pub decimal_value : List ℕ → ℕ
decimal_value digits = fold (λ n b. n * 10 + (b - 48)) 0 digits

-- one or more digits whose value is at most maxint
abbrev pub magnitude : List ℕ → Option ℕ
magnitude digits = if (is_word digits && list_all is_digit digits) && nat_le (decimal_value digits) 2147483647 then Some (decimal_value digits) else None

abbrev pub number_item : (ℕ → ℤ) → Option ℕ → Item
number_item signed None = Junk
number_item signed (Some n) = Number (signed n)

abbrev pub signed : Bool → ℕ → ℤ
signed true n = neg_ℤ (pos n)
signed false n = pos n

-- an optional sign before digits
abbrev pub word_item : List ℕ → Item
word_item [] = Junk
word_item (b ∷ bytes) =
    if b == 45 then number_item (signed true) (magnitude bytes)
    else (if b == 43 then number_item (signed false) (magnitude bytes) else number_item (signed false) (magnitude (b ∷ bytes)))

-- ---- items

-- lines one after another, with a line end between each two
abbrev pub joined : List (List Item) → List Item
joined [] = []
joined (line ∷ []) = line
joined (line ∷ next ∷ lines) = line ++ LineEnd ∷ joined (next ∷ lines)

abbrev pub line_items : List ℕ → List Item
line_items line = map word_item (words line)

abbrev pub items_of : List ℕ → List Item
items_of bytes = joined (map line_items (parts is_line_feed bytes))
