-- Declarations one after the other, and what stands innermost.
use Rattle.std.proofs.Common.{◌≡◌, ℕ, zero, suc, arith, ◌+◌, ◌<◌, ◌≤◌, List, [], ◌∷◌, ◌++◌, length, get_or, drop, reverse, refl, sym, ap, subst, ◌∙◌, Ok, Err}
use Rattle.std.proofs.lemmas.List.{drop_all, reverse-append}
use Rattle.pas_check.specs.declared.fault.Fault.{Fault}
use Rattle.pas_check.specs.Declarations.{led, led_by}
use Rattle.pas_check.specs.Outcome.{IsBroken, Meets, Outcome, ◌>>=◌}
use Rattle.pas_check.proofs.Passing.{drop_next}

module _ {S A : Type 0} (step : S → A → Outcome S) where
  led_next : (v : S) (xs : List A) (k : ℕ) (x : A) → k < length xs → x ≡ get_or xs k x → led_by step v (drop k xs) ≡ (step v x >>= (λ w. led_by step w (drop (k + 1) xs)))
  led_next v xs k x h e = ap (led_by step v) (drop_next xs k x h e)

  -- the declaration at hand leads on
  pub led_goes : (start : Outcome S) (v w : S) (xs : List A) (k : ℕ) (x : A) → start ≡ led_by step v (drop k xs) → k < length xs → x ≡ get_or xs k x → step v x ≡ Ok w → start ≡ led_by step w (drop (k + 1) xs)
  led_goes start v w xs k x so h e is = so ∙ led_next v xs k x h e ∙ ap (λ (o : Outcome S). o >>= (λ u. led_by step u (drop (k + 1) xs))) is

  -- it breaks a rule
  pub led_fails : (start : Outcome S) (v : S) (xs : List A) (k : ℕ) (x : A) (f : Fault) → start ≡ led_by step v (drop k xs) → k < length xs → x ≡ get_or xs k x → step v x ≡ Err f → start ≡ Err f
  led_fails start v xs k x f so h e is = so ∙ led_next v xs k x h e ∙ ap (λ (o : Outcome S). o >>= (λ u. led_by step u (drop (k + 1) xs))) is

  -- there is no more
  pub led_ends : (start : Outcome S) (v : S) (xs : List A) (k : ℕ) → start ≡ led_by step v (drop k xs) → length xs ≤ k → start ≡ Ok v
  led_ends start v xs k so h = so ∙ ap (led_by step v) (drop_all k xs h)

-- the same of declarations that break no rule
module _ {S A : Type 0} (step : S → A → S) where
  pub leads_on : (start v w : S) (xs : List A) (k : ℕ) (x : A) → start ≡ led step v (drop k xs) → k < length xs → x ≡ get_or xs k x → w ≡ step v x → start ≡ led step w (drop (k + 1) xs)
  leads_on start v w xs k x so h e is = so ∙ ap (led step v) (drop_next xs k x h e) ∙ ap (λ u. led step u (drop (k + 1) xs)) (sym is)

  pub leads_to : (start v : S) (xs : List A) (k : ℕ) → start ≡ led step v (drop k xs) → length xs ≤ k → v ≡ start
  leads_to start v xs k so h = sym (so ∙ ap (led step v) (drop_all k xs h))

-- ---- the innermost block

-- the last one stands first from the inside
pub last_is : {A : Type 0} (xs ys : List A) (x : A) → xs ≡ ys ++ x ∷ [] → reverse xs ≡ x ∷ reverse ys
last_is xs ys x e = ap reverse e ∙ reverse-append ys (x ∷ [])

-- a place inside a list has an element, whatever stands for one outside
pub any_default : {A : Type 0} (xs : List A) (k : ℕ) (d e : A) → k < length xs → get_or xs k d ≡ get_or xs k e
any_default [] k d e h = absurd (omega (arith, h))
any_default (x ∷ xs) zero d e h = refl
any_default (x ∷ xs) (suc k) d e h = any_default xs k d e (omega (arith, h))

-- the answer is a fault that may be answered
pub meets_wrong : {A B : Type 0} (shown : A → B) (May : Outcome B → Type 0) (r : Outcome A) (e : Fault) → r ≡ Err e → (IsBroken e → May (Err e)) → Meets shown May r
meets_wrong shown May r e is wrong = subst (λ x. Meets shown May x) (sym is) wrong
