-- A map from names to declarations, as the list of its pairs.
use Rattle.std.proofs.Common.{◌≡◌, ℕ, Bool, true, false, cond, List, [], ◌∷◌, map, nat_eq, Some, refl, ap, ◌∙◌}
use Rattle.std.specs.Cmp.Lexicographic.{pointwise}
use Rattle.std.specs.Map.{lookup}
use Rattle.indexmap.specs.IndexMap.{insert_entry}
use Rattle.pas_check.specs.declared.scope.Declaration.{Declaration}
use Rattle.pas_check.specs.Names.{Name, Names, found_in, with_meaning}

module _ {K : Type 0} (spelled : K → List ℕ) where
  abbrev pub shown : List (K × Declaration) → Names
  shown es = map (λ (e : K × Declaration). (spelled e.0, e.1)) es

  pub found_shown : (name : Name) (es : List (K × Declaration)) → lookup (λ (k : K). pointwise nat_eq name (spelled k)) es ≡ found_in name (shown es)
  found_shown name [] = refl
  found_shown name (e ∷ es) = ap (cond (pointwise nat_eq name (spelled e.0)) (Some e.1)) (found_shown name es)

  shown_cond : (b : Bool) (xs ys : List (K × Declaration)) → shown (cond b xs ys) ≡ cond b (shown xs) (shown ys)
  shown_cond true xs ys = refl
  shown_cond false xs ys = refl

  pub with_shown : (k : K) (d : Declaration) (es : List (K × Declaration)) → shown (insert_entry (λ (x y : K). pointwise nat_eq (spelled x) (spelled y)) es k d) ≡ with_meaning (spelled k) d (shown es)
  with_shown k d [] = refl
  with_shown k d (e ∷ es) =
      shown_cond (pointwise nat_eq (spelled k) (spelled e.0)) ((e.0, d) ∷ es) (e ∷ insert_entry (λ (x y : K). pointwise nat_eq (spelled x) (spelled y)) es k d)
      ∙ ap (λ ys. cond (pointwise nat_eq (spelled k) (spelled e.0)) ((spelled e.0, d) ∷ shown es) ((spelled e.0, e.1) ∷ ys)) (with_shown k d es)
