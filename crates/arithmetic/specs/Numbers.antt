-- The numbers of the language (ISO 7185, 6.4.2.2): the integers from -maxint to maxint, and the Booleans as 0 and 1.
use Rattle.std.specs.Prelude.{Bool, true, false, ◌&&◌, ℤ, pos, neg_ℤ, ◌≤ℤ◌, int_le}

-- the greatest integer
abbrev pub maxint : ℤ
maxint = pos 2147483647

-- z is an integer of the language
abbrev pub IsNumber : ℤ → Type 0
IsNumber z = (neg_ℤ maxint ≤ℤ z) × (z ≤ℤ maxint)

-- the same as a test
abbrev pub is_number : ℤ → Bool
is_number z = int_le (neg_ℤ maxint) z && int_le z maxint

-- whether z stands for a Boolean
abbrev pub is_boolean : ℤ → Bool
is_boolean z = int_le (pos 0) z && int_le z (pos 1)

-- the number that stands for a Boolean
abbrev pub truth : Bool → ℤ
truth false = pos 0
truth true = pos 1
