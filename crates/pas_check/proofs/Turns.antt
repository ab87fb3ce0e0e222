-- Tests that are made one after the other, from a place in a list on.
use Rattle.std.proofs.Common.{◌≡◌, ℕ, ◌+◌, ◌<◌, List, [], ◌∷◌, length, get_or, drop, map, refl, ap, ◌∙◌, Ok, Err}
use Rattle.pas_check.specs.declared.fault.Fault.{Fault}
use Rattle.pas_check.specs.Outcome.{Outcome, ◌>>=◌, each}
use Rattle.pas_check.proofs.Passing.{drop_next}

module _ {A : Type 0} (test : A → Outcome (Unit {0})) where
  each_next : (xs : List A) (k : ℕ) (x : A) → k < length xs → x ≡ get_or xs k x → each test (drop k xs) ≡ (test x >>= (λ done. each test (drop (k + 1) xs)))
  each_next xs k x h e = ap (each test) (drop_next xs k x h e)

  -- the test at hand passes
  pub each_goes : (start : Outcome (Unit {0})) (xs : List A) (k : ℕ) (x : A) → start ≡ each test (drop k xs) → k < length xs → x ≡ get_or xs k x → test x ≡ Ok tt → start ≡ each test (drop (k + 1) xs)
  each_goes start xs k x so h e is = so ∙ each_next xs k x h e ∙ ap (λ (o : Outcome (Unit {0})). o >>= (λ done. each test (drop (k + 1) xs))) is

  -- it fails
  pub each_fails : (start : Outcome (Unit {0})) (xs : List A) (k : ℕ) (x : A) (f : Fault) → start ≡ each test (drop k xs) → k < length xs → x ≡ get_or xs k x → test x ≡ Err f → start ≡ Err f
  each_fails start xs k x f so h e is = so ∙ each_next xs k x h e ∙ ap (λ (o : Outcome (Unit {0})). o >>= (λ done. each test (drop (k + 1) xs))) is

pub each_map : {A B : Type 0} (test : A → Outcome (Unit {0})) (f : B → A) (xs : List B) → each test (map f xs) ≡ each (λ x. test (f x)) xs
each_map test f [] = refl
each_map test f (x ∷ xs) = ap (λ o. test (f x) >>= (λ done. o)) (each_map test f xs)
