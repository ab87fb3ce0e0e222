-- The text that `write` gives (ISO 7185, 6.9.3). Without a width it has no padding.
use Rattle.std.specs.Prelude.{ℕ, ◌-◌, Bool, true, false, List, ◌++◌, length, take, replicate, ℤ, pos, int_le, ◌&&◌, codes, if◌then◌else◌}
use Rattle.std.specs.Fmt.{signed_decimal}
use Rattle.std.specs.Ordering.{int_eq}

-- A value's text, and whether a width may cut it.
pub record Written : Type 0 where
  pub bytes : List ℕ
  pub is_cut : Bool

-- a Boolean or an integer
abbrev pub text_of : Bool → ℤ → Written
text_of true z = record { bytes = if int_eq z (pos 0) then codes "false" else codes "true"; is_cut = true }
text_of false z = record { bytes = signed_decimal z; is_cut = false }

abbrev pub space : ℕ
space = 32

abbrev pub line_feed : ℕ
line_feed = 10

-- the text in n columns, at the right
abbrev pub in_columns : ℕ → Written → List ℕ
in_columns n w =
    let bytes = if w.is_cut then take n w.bytes else w.bytes in
    replicate (n - length bytes) space ++ bytes

-- whether a width is allowed
abbrev pub is_width : ℤ → Bool
is_width z = int_le (pos 1) z && int_le z (pos 10000)
