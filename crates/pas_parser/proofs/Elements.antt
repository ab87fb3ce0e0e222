-- What holds of each element of a list of parts holds of the one at a place.
use Rattle.std.proofs.Common.{◌≡◌, ℕ, ◌<◌, Bool, true, List, length, get_or, map, refl, ap, ◌∙◌}
use Rattle.std.proofs.lemmas.List.Recursion.{and_at}
use Rattle.std.specs.List.{list_all}
use Rattle.pas_parser.specs.Each.{all_true}

-- x is the element at k, as a loop over a slice knows it: it answers, beside `search (rules, the_lemmas)` for the
-- measure, what a call for each part of a list asks
pub all_true_at : {A : Type 0} (f : A → Bool) (xs : List A) (k : ℕ) (x : A) → k < length xs → x ≡ get_or xs k x → all_true (map f xs) ≡ true → f x ≡ true
all_true_at f xs k x h is e = ap f is ∙ and_at (λ ys. all_true (map f ys)) f refl (λ y ys. refl) xs k x h e

-- the same of a list of parts that are in no cycle with the whole
pub list_all_at : {A : Type 0} (f : A → Bool) (xs : List A) (k : ℕ) (x : A) → k < length xs → x ≡ get_or xs k x → list_all f xs ≡ true → f x ≡ true
list_all_at f xs k x h is e = ap f is ∙ and_at (list_all f) f refl (λ y ys. refl) xs k x h e
