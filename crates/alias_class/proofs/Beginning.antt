-- The table that has the class of the program's block alone.
use Rattle.std.proofs.Common.{◌≡◌, List, [], ◌∷◌, length, refl, arith}
use Rattle.std.proofs.lemmas.List.Elements.{All-cons, All-nil}
use Rattle.alias_class.specs.declared.outline.Outline.{Outline}
use Rattle.alias_class.specs.Cells.{IsClass}
use Rattle.alias_class.specs.Kept.{OutlineFits}
use Rattle.alias_class.specs.Tables.{IsKept, row_of}

pub kept_first : (o : Outline) → OutlineFits o → IsKept o [] (row_of o [] ∷ [])
kept_first o fits = record {
  outline = fits;
  rows = refl;
  few = omega arith;
  classes = All-cons (IsClass o) [] [] tt (All-nil (IsClass o));
  parents = λ i key e. absurd (grind arith);
  distinct = λ i j h k same. omega arith;
}

pub none_long : {A : Type 0} (xs : List A) → length xs ≡ 0 → xs ≡ []
none_long [] e = refl
none_long (x ∷ xs) e = absurd (omega arith)
