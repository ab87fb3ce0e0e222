-- Names that are noted, one after the other.
use Rattle.std.proofs.Common.{◌≡◌, ℕ, ◌+◌, ◌<◌, List, [], ◌∷◌, ◌++◌, length, get_or, drop, refl, sym, ap, ◌∙◌}
use Rattle.std.specs.Prelude.{flat_map}
use Rattle.px_base.specs.declared.place.Span.{Span}
use Rattle.pas_check.specs.Names.{Names, name_at, noted, noted_all}
use Rattle.pas_check.proofs.Passing.{drop_next}

pub noted_append : (text : List ℕ) (xs ys : List Span) (names : Names) → noted_all text (xs ++ ys) names ≡ noted_all text ys (noted_all text xs names)
noted_append text [] ys names = refl
noted_append text (x ∷ xs) ys names = noted_append text xs ys (noted (name_at text x) x.start names)

-- the names of one more part are noted
pub noted_more : {A : Type 0} (names_of : A → List Span) (text : List ℕ) (start old new : Names) (xs : List A) (k : ℕ) (x : A) (names : List Span) → start ≡ noted_all text (flat_map names_of (drop k xs)) old → k < length xs → x ≡ get_or xs k x
    → names ≡ names_of x → new ≡ noted_all text names old → start ≡ noted_all text (flat_map names_of (drop (k + 1) xs)) new
noted_more names_of text start old new xs k x names so h e same is =
    so ∙ ap (λ ys. noted_all text (flat_map names_of ys) old) (drop_next xs k x h e)
    ∙ noted_append text (names_of x) (flat_map names_of (drop (k + 1) xs)) old
    ∙ ap (noted_all text (flat_map names_of (drop (k + 1) xs))) (ap (λ ns. noted_all text ns old) (sym same) ∙ sym is)
