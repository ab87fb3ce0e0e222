-- What is answered where no rule is broken: how it is kept from one test to the next.
use Rattle.std.proofs.Common.{ℕ, Bool, true, false, List, [], ◌∷◌, Ok, Err}
use Rattle.std.specs.List.{AllByRecursion}
use Rattle.pas_check.specs.Declarations.{led, led_by}
use Rattle.pas_check.specs.declared.fault.Rule.{Rule}
use Rattle.pas_check.specs.Outcome.{Outcome, ◌>>=◌, unless}

abbrev pub Fine : {A : Type 0} → Outcome A → (A → Type 0) → Type 0
Fine (Ok a) P = P a
Fine (Err e) P = Unit {0}

pub goes : {A B : Type 0} (o : Outcome A) (f : A → Outcome B) (P : A → Type 0) (Q : B → Type 0) → Fine o P → ((a : A) → P a → Fine (f a) Q) → Fine (o >>= f) Q
goes (Ok a) f P Q h k = k a h
goes (Err e) f P Q h k = tt

pub anyhow : {A B : Type 0} (o : Outcome A) (f : A → Outcome B) (Q : B → Type 0) → ((a : A) → Fine (f a) Q) → Fine (o >>= f) Q
anyhow (Ok a) f Q k = k a
anyhow (Err e) f Q k = tt

pub unless_kept : {A : Type 0} (Q : A → Type 0) (c : Bool) (rule : Rule) (at : ℕ) (o : Outcome A) → Fine o Q → Fine (unless c rule at o) Q
unless_kept Q true rule at o h = tt
unless_kept Q false rule at o h = h

module _ {S A : Type 0} (P : S → Type 0) (R : A → Type 0) where
  pub led_kept : (step : S → A → S) → ((s : S) (a : A) → P s → R a → P (step s a)) → (s : S) (xs : List A) → P s → AllByRecursion R xs → P (led step s xs)
  led_kept step k s [] h r = h
  led_kept step k s (x ∷ xs) h r = led_kept step k (step s x) xs (k s x h r.0) r.1

  pub led_by_kept : (step : S → A → Outcome S) → ((s : S) (a : A) → P s → R a → Fine (step s a) P) → (s : S) (xs : List A) → P s → AllByRecursion R xs → Fine (led_by step s xs) P
  led_by_kept step k s [] h r = h
  led_by_kept step k s (x ∷ xs) h r = goes (step s x) (λ t. led_by step t xs) P P (k s x h r.0) (λ t p. led_by_kept step k t xs p r.1)
