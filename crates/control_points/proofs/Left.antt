-- A loop that says what is left: at its end nothing is.
use Rattle.std.proofs.Common.{◌≡◌, map, ℕ, ◌≤◌, List, [], ◌++◌, length, drop, sym, ap, ◌∙◌, append_assoc, Result, Ok, Err, IfOk, OnOk}
use Rattle.std.proofs.lemmas.List.{append-nil, at_drop_all, map-append}

pub left_done : {A B : Type 0} (f : List A → List B) (xs : List A) (i : ℕ) (ys zs : List B) → f [] ≡ [] → length xs ≤ i → ys ++ f (drop i xs) ≡ zs → ys ≡ zs
left_done f xs i ys zs none h is = sym (append-nil ys) ∙ ap (λ ws. ys ++ ws) (sym (at_drop_all f xs i h ∙ none)) ∙ is

-- what two steps append, one after the other
pub appended : {B : Type 0} (old a b mid new : List B) → mid ≡ old ++ a → new ≡ mid ++ b → new ≡ old ++ (a ++ b)
appended old a b mid new first second = second ∙ ap (λ xs. xs ++ b) first ∙ append_assoc old a b

-- the same, where the second may fail
pub ok_appended : {A E B : Type 0} (r : Result A E) (old a b mid new : List B) → mid ≡ old ++ a → OnOk r (new ≡ mid ++ b) → OnOk r (new ≡ old ++ (a ++ b))
ok_appended (Ok x) old a b mid new first second = appended old a b mid new first second
ok_appended (Err e) old a b mid new first second = tt

-- one more step of a loop that appends what is made of its items
pub mapped_step : {A B : Type 0} (f : A → B) (old new total : List B) (x rest whole : List A) → new ≡ old ++ map f x → whole ≡ x ++ rest → old ++ map f whole ≡ total → new ++ map f rest ≡ total
mapped_step f old new total x rest whole n w is =
    ap (λ ys. ys ++ map f rest) n
    ∙ append_assoc old (map f x) (map f rest)
    ∙ ap (λ ys. old ++ ys) (sym (map-append f x rest) ∙ ap (map f) (sym w))
    ∙ is

pub ok_appended3 : {A E B : Type 0} (r : Result A E) (old a b c first second new : List B) → first ≡ old ++ a → second ≡ first ++ b → OnOk r (new ≡ second ++ c) → OnOk r (new ≡ old ++ (a ++ (b ++ c)))
ok_appended3 r old a b c first second new x y z = ok_appended r old a (b ++ c) first new x (ok_appended r first b c second new y z)

pub both_ok : {A E : Type 0} (r : Result A E) {P Q R : Type 0} → OnOk r P → OnOk r Q → (P → Q → R) → OnOk r R
both_ok (Ok x) p q f = f p q
both_ok (Err e) p q f = tt

pub then_ok : {A E : Type 0} (r : Result A E) {P Q : Type 0} → OnOk r P → (P → Q) → OnOk r Q
then_ok (Ok x) p f = f p
then_ok (Err e) p f = tt

pub then_if : {A E : Type 0} (r : Result A E) {P Q : A → Type 0} → IfOk r P → ((x : A) → P x → Q x) → IfOk r Q
then_if (Ok x) p f = f x p
then_if (Err e) p f = tt
