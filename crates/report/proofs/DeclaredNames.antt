-- Sets of names, and one more name.
use Rattle.std.proofs.Common.{◌≡◌, ℕ, ◌+◌, ◌<◌, Bool, true, false, cond, Global, List, Vec, [], ◌∷◌, ◌++◌, get_or, length, map, take, refl, sym, ap, ◌∙◌, Decides}
use Rattle.std.specs.Prelude.{◌||◌}
use Rattle.std.specs.HashSet.{HashSet, contains_by}
use Rattle.std.specs.List.{filter, list_any}
use Rattle.std.specs.Str.{bytes_eq}
use Rattle.std.proofs.lemmas.Bool.Decides.{same_from_decides}
use Rattle.std.proofs.lemmas.List.{append-nil, map-append, take_more}
use Rattle.std.proofs.lemmas.List.Elements.{filter_more}
use Rattle.std.proofs.lemmas.List.Folds.{list_any-append}
use Rattle.std.proofs.lemmas.Slice.Eq.{bytes_eq-Decides}
use Rattle.report.specs.Visible.{HasNames, Text}

bytes_eq_symmetric : (xs ys : Text) → bytes_eq xs ys ≡ bytes_eq ys xs
bytes_eq_symmetric xs ys =
    let d = bytes_eq-Decides ys xs in
    let turned : Decides (bytes_eq ys xs) (xs ≡ ys) = (λ e. sym (d.0 e), λ p. d.1 (sym p)) in
    same_from_decides (bytes_eq xs ys) (bytes_eq ys xs) (bytes_eq-Decides xs ys) turned

at_end : (before last : Bool) → cond last true before ≡ (before || (last || false))
at_end true true = refl
at_end true false = refl
at_end false true = refl
at_end false false = refl

-- a set that has no keys
pub no_names : {S : Type 0} (names : HashSet (Vec ℕ Global) S) → names.keys ≡ [] → HasNames names []
no_names names none = record { each = λ name. ap (list_any (λ (other : Vec ℕ Global). bytes_eq name.items other.items)) none }

pub one_more_name : {S : Type 0} (old new : HashSet (Vec ℕ Global) S) (added : Vec ℕ Global) (name : Text) (listed : List Text) → added.items ≡ name
    → ((k : Vec ℕ Global) → contains_by (λ (other : Vec ℕ Global). bytes_eq k.items other.items) new ≡ cond (bytes_eq added.items k.items) true (contains_by (λ (other : Vec ℕ Global). bytes_eq k.items other.items) old))
    → HasNames old listed → HasNames new (listed ++ name ∷ [])
one_more_name old new added name listed is updates has = record {
  each = λ k.
      updates k
      ∙ ap (λ b. cond (bytes_eq added.items k.items) true b) (has.each k)
      ∙ at_end (list_any (bytes_eq k.items) listed) (bytes_eq added.items k.items)
      ∙ ap (λ b. list_any (bytes_eq k.items) listed || (b || false)) (bytes_eq_symmetric added.items k.items ∙ ap (bytes_eq k.items) is)
      ∙ sym (list_any-append (bytes_eq k.items) listed (name ∷ []));
}

pub map_more : {X : Type 0} (f : X → Text) (xs : List X) (i : ℕ) (d : X) → i < length xs → map f (take (i + 1) xs) ≡ map f (take i xs) ++ f (get_or xs i d) ∷ []
map_more {X = X} f xs i d inside = ap (λ (ys : List X). map f ys) (take_more xs i d inside) ∙ map-append f (take i xs) (get_or xs i d ∷ [])

-- one more element that passes a test, or doesn't
pub filter_kept : (test : ℕ → Bool) (xs : List ℕ) (i : ℕ) (b : Bool) → i < length xs → test (get_or xs i 0) ≡ b → b ≡ true → filter test (take i xs) ++ get_or xs i 0 ∷ [] ≡ filter test (take (i + 1) xs)
filter_kept test xs i b inside is passes =
    sym (filter_more test xs i 0 inside ∙ ap (λ c. filter test (take i xs) ++ cond c (get_or xs i 0 ∷ []) []) (is ∙ passes))

pub filter_dropped : (test : ℕ → Bool) (xs : List ℕ) (i : ℕ) (b : Bool) → i < length xs → test (get_or xs i 0) ≡ b → b ≡ false → filter test (take i xs) ≡ filter test (take (i + 1) xs)
filter_dropped test xs i b inside is fails =
    sym (filter_more test xs i 0 inside ∙ ap (λ c. filter test (take i xs) ++ cond c (get_or xs i 0 ∷ []) []) (is ∙ fails) ∙ append-nil (filter test (take i xs)))
