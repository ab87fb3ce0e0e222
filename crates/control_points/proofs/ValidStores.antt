-- Stores in which each number is one of a scalar that exists, and what the changes of a store keep of that.
use Rattle.std.proofs.Common.{◌≡◌, ℕ, ◌<◌, true, List, [], ◌∷◌, ◌++◌, ℤ, length, refl, sym, ap, subst, ◌∙◌, inl, inr, Option, Some, None, nat_eq, nat_lt, int_eq, eqb-true, ltb-true}
use Rattle.std.proofs.lemmas.Bool.{and_parts, cases_Bool, cond-true, cond-false, true≢false}
use Rattle.std.proofs.lemmas.Bool.Decides.{Decides-int_eq}
use Rattle.std.proofs.lemmas.Option.{none-some, same_Some}
use Rattle.control_points.specs.Actions.{Change, sets, copies}
use Rattle.control_points.specs.Chart.{Chart}
use Rattle.control_points.specs.Evaluation.{is_value_of}
use Rattle.control_points.specs.Finding.{frame_at}
use Rattle.control_points.specs.States.{Stack}
use Rattle.control_points.specs.Steps.{change, change_all}
use Rattle.control_points.specs.Storage.{Place, Store, part, same_subscripts, same_variable, same_place, subscripts_after, within, copied, put, keep_below, empty_store}
use Rattle.control_points.specs.ValidStates.{Exists, IsStored, led_to, type_of_place, type_of_variable}
use Rattle.control_points.proofs.ValidStacks.{exists_moved, frame_below}
use Rattle.control_points.proofs.ValidPlaces.{led_on}

-- ---- one place

subscripts_same : (xs ys : List ℤ) → same_subscripts xs ys ≡ true → xs ≡ ys
subscripts_same [] [] h = refl
subscripts_same [] (y ∷ ys) h = absurd (true≢false (sym h))
subscripts_same (x ∷ xs) [] h = absurd (true≢false (sym h))
subscripts_same (x ∷ xs) (y ∷ ys) h =
    let p = and_parts (int_eq x y) _ h in
    ap (λ z. z ∷ xs) ((Decides-int_eq x y).0 p.0) ∙ ap (λ zs. y ∷ zs) (subscripts_same xs ys p.1)

place_is : (p q : Place) → p.depth ≡ q.depth → p.var ≡ q.var → p.subscripts ≡ q.subscripts → p ≡ q
place_is p q d v s = λ i. record { depth = d i; var = v i; subscripts = s i }

pub place_same : (p q : Place) → same_place p q ≡ true → p ≡ q
place_same p q h =
    let x = and_parts (same_variable p q) _ h in
    let y = and_parts (nat_eq p.depth q.depth) _ x.0 in
    place_is p q (eqb-true p.depth q.depth y.0) (eqb-true p.var q.var y.1) (subscripts_same p.subscripts q.subscripts x.1)

follows_is : (xs ys zs : List ℤ) → subscripts_after xs ys ≡ Some zs → ys ≡ xs ++ zs
follows_is [] ys zs h = same_Some ys zs h
follows_is (x ∷ xs) [] zs h = absurd (none-some zs h)
follows_is (x ∷ xs) (y ∷ ys) zs h =
    elim (cases_Bool (int_eq x y)) [
      | inl e ↦
          ap (λ z. z ∷ ys) (sym ((Decides-int_eq x y).0 e))
          ∙ ap (λ l. x ∷ l) (follows_is xs ys zs (sym (cond-true (int_eq x y) (subscripts_after xs ys) None e) ∙ h))
      | inr e ↦ absurd (none-some zs (sym (cond-false (int_eq x y) (subscripts_after xs ys) None e) ∙ h))
    ]

-- a place that lies within another is a part of it
pub within_is : (p q : Place) (zs : List ℤ) → within p q ≡ Some zs → q ≡ part p zs
within_is p q zs h =
    elim (cases_Bool (same_variable p q)) [
      | inl e ↦
          let x = and_parts (nat_eq p.depth q.depth) _ e in
          place_is q (part p zs) (sym (eqb-true p.depth q.depth x.0)) (sym (eqb-true p.var q.var x.1))
          (follows_is p.subscripts q.subscripts zs (sym (cond-true (same_variable p q) (subscripts_after p.subscripts q.subscripts) None e) ∙ h))
      | inr e ↦ absurd (none-some zs (sym (cond-false (same_variable p q) (subscripts_after p.subscripts q.subscripts) None e) ∙ h))
    ]

-- ---- stores

abbrev pub StoreFits : Chart → Stack → Store → Type 0
StoreFits c stack store = (p : Place) (z : ℤ) → store p ≡ Some z → IsStored c stack p z

-- a number is put where there is a scalar of which it is a value; parts are copied between things of one type
abbrev pub ChangeFits : Chart → Stack → Change → Type 0
ChangeFits c stack (sets p None) = Unit {0}
ChangeFits c stack (sets p (Some z)) = IsStored c stack p z
ChangeFits c stack (copies p q) = Exists c stack p × (type_of_place c.tables p ≡ type_of_place c.tables q)

abbrev pub ChangesFit : Chart → Stack → List Change → Type 0
ChangesFit c stack [] = Unit {0}
ChangesFit c stack (x ∷ changes) = ChangeFits c stack x × ChangesFit c stack changes

pub empty_fits : (c : Chart) (stack : Stack) → StoreFits c stack empty_store
empty_fits c stack p z h = absurd (none-some z h)

pub stored_moved : (c : Chart) (old new : Stack) (p : Place) (z : ℤ) → frame_at new p.depth ≡ frame_at old p.depth → IsStored c old p z → IsStored c new p z
stored_moved c old new p z same x = record { exists = exists_moved c old new p same x.exists; fits = x.fits }

-- what is kept of a store, where the frames of what is kept stay
pub kept_fits : (c : Chart) (old new : Stack) (n : ℕ) → ((d : ℕ) → d < n → frame_at new d ≡ frame_at old d) → (store : Store) → StoreFits c old store → StoreFits c new (keep_below n store)
kept_fits c old new n same store fits p z h =
    elim (cases_Bool (nat_lt p.depth n)) [
      | inl e ↦ stored_moved c old new p z (same p.depth (ltb-true p.depth n e)) (fits p z (sym (cond-true (nat_lt p.depth n) (store p) None e) ∙ h))
      | inr e ↦ absurd (none-some z (sym (cond-false (nat_lt p.depth n) (store p) None e) ∙ h))
    ]

module _ (c : Chart) (stack : Stack) where
  put_number : (p q : Place) (y z : ℤ) → IsStored c stack p y → Some y ≡ Some z → same_place p q ≡ true → IsStored c stack q z
  put_number p q y z x e same =
      subst (λ w. IsStored c stack q w) (same_Some y z e) (subst (λ w. IsStored c stack w y) (place_same p q same) x)

  put_fits : (store : Store) (p : Place) (v : Option ℤ) → StoreFits c stack store → ChangeFits c stack (sets p v) → StoreFits c stack (put store p v)
  put_fits store p None fits x q z h =
      elim (cases_Bool (same_place p q)) [
        | inl e ↦ absurd (none-some z (sym (cond-true (same_place p q) None (store q) e) ∙ h))
        | inr e ↦ fits q z (sym (cond-false (same_place p q) None (store q) e) ∙ h)
      ]
  put_fits store p (Some y) fits x q z h =
      elim (cases_Bool (same_place p q)) [
        | inl e ↦ put_number p q y z x (sym (cond-true (same_place p q) (Some y) (store q) e) ∙ h) e
        | inr e ↦ fits q z (sym (cond-false (same_place p q) (Some y) (store q) e) ∙ h)
      ]

  -- a number within the target of a copy
  copied_number : (store : Store) (p source q : Place) (z : ℤ) → StoreFits c stack store → Exists c stack p → type_of_place c.tables p ≡ type_of_place c.tables source
      → (o : Option (List ℤ)) → within p q ≡ o → copied store source q o ≡ Some z → IsStored c stack q z
  copied_number store p source q z fits x same None is h = fits q z h
  copied_number store p source q z fits x same (Some zs) is h =
      let from = fits (part source zs) z h in
      let typed : type_of_place c.tables (part p zs) ≡ type_of_place c.tables (part source zs) =
      led_on c.tables p.subscripts zs (type_of_variable c.tables p.var)
      ∙ ap (led_to c.tables zs) same
      ∙ sym (led_on c.tables source.subscripts zs (type_of_variable c.tables source.var)) in
      subst (λ w. IsStored c stack w z) (sym (within_is p q zs is))
      (record {
        exists = record {
          frame = x.frame;
          variable = x.variable;
          of_type = from.exists.of_type;
          activation = x.activation;
          known = x.known;
          own = x.own;
          stored = x.stored;
          typed = typed ∙ from.exists.typed;
        };
        fits = ap (λ o. is_value_of o z) typed ∙ from.fits;
      })

  pub change_fits : (store : Store) (x : Change) → StoreFits c stack store → ChangeFits c stack x → StoreFits c stack (change x store)
  change_fits store (sets p v) fits x = put_fits store p v fits x
  change_fits store (copies p source) fits x = λ q z h. copied_number store p source q z fits x.0 x.1 (within p q) refl h

  pub changes_fit : (changes : List Change) (store : Store) → StoreFits c stack store → ChangesFit c stack changes → StoreFits c stack (change_all changes store)
  changes_fit [] store fits x = fits
  changes_fit (y ∷ changes) store fits x = changes_fit changes (change y store) (change_fits store y fits x.0) x.1

-- ---- changes in a stack of which others are known

pub change_moved : (c : Chart) (old new : Stack) → ((d : ℕ) → d < length old → frame_at new d ≡ frame_at old d) → (x : Change) → ChangeFits c old x → ChangeFits c new x
change_moved c old new same (sets p None) x = tt
change_moved c old new same (sets p (Some z)) x = stored_moved c old new p z (same p.depth (frame_below old p.depth x.exists.frame x.exists.activation)) x
change_moved c old new same (copies p q) x = (exists_moved c old new p (same p.depth (frame_below old p.depth (x.0).frame (x.0).activation)) x.0, x.1)

pub changes_moved : (c : Chart) (old new : Stack) → ((d : ℕ) → d < length old → frame_at new d ≡ frame_at old d) → (changes : List Change) → ChangesFit c old changes → ChangesFit c new changes
changes_moved c old new same [] x = tt
changes_moved c old new same (y ∷ changes) x = (change_moved c old new same y x.0, changes_moved c old new same changes x.1)

pub changes_joined : (c : Chart) (stack : Stack) (xs ys : List Change) → ChangesFit c stack xs → ChangesFit c stack ys → ChangesFit c stack (xs ++ ys)
changes_joined c stack [] ys x y = y
changes_joined c stack (z ∷ xs) ys x y = (x.0, changes_joined c stack xs ys x.1 y)
