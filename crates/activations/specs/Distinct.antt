-- Classes of which no two are the same.
use Rattle.std.specs.Prelude.{◌≡◌, ℕ, ◌<◌, List, false, Some, slice_get}
use Rattle.alias_class.specs.Classes.{Class, same_class}

-- each differs from those before it
abbrev pub AreApart : List Class → Type 0
AreApart classes = (i j : ℕ) (c d : Class) → i < j → slice_get classes i ≡ Some c → slice_get classes j ≡ Some d → same_class d c ≡ false
