-- The constants of a `case`, put into a set one by one.
use Rattle.std.proofs.Common.{◌≡◌, ℕ, ◌+◌, ◌<◌, Bool, true, false, not, cond, List, [], ◌∷◌, ◌++◌, ℤ, length, get_or, drop, map, refl, sym, ap, subst, ◌∙◌}
use Rattle.std.proofs.lemmas.Bool.{and_parts, and_from, or_from, true≢false}
use Rattle.std.specs.HashSet.{contains}
use Rattle.std.specs.List.{list_all, list_any}
use Rattle.std.specs.Ordering.{int_eq}
use Rattle.pas_program.specs.declared.statement.Arm.{Arm}
use Rattle.pas_program.specs.declared.statement.Body.TheFolds.{fold_out-Arm}
use Rattle.pas_program.specs.declared.statement.Body.TheViews.{out-Arm}
use Rattle.pas_program.specs.Each.{Rule, arm_of, arm_step, body_step, constants, statement_step}
use Rattle.pas_program.specs.Labels.{all_differ}
use Rattle.pas_program.specs.Tables.{Tables}
use Rattle.pas_program.specs.Typed.{arm_types, body_type_step, statement_type_step}
use Rattle.pas_valid.specs.Standing.{Values, fresh}
use Rattle.pas_valid.proofs.Lists.{drop_next}

not_true : (b : Bool) → true ≡ not b → b ≡ false
not_true true e = e
not_true false e = refl

record Neither (a b : Bool) : Type 0 where
  pub first : a ≡ false
  pub second : b ≡ false

neither : (same had : Bool) → not (cond same true had) ≡ true → Neither same had
neither true had e = absurd (true≢false (sym e))
neither false true e = absurd (true≢false (sym e))
neither false false e = record { first = refl; second = refl }

record Apart (s : Values) (z : ℤ) (zs : List ℤ) : Type 0 where
  pub none : list_all (λ y. not (contains int_eq s y)) zs ≡ true
  pub other : list_any (λ y. int_eq z y) zs ≡ false

module _ (s t : Values) (z : ℤ) (new : true ≡ not (contains int_eq s z)) (added : (q : ℤ) → contains int_eq t q ≡ cond (int_eq z q) true (contains int_eq s q)) where
  apart : (zs : List ℤ) → list_all (λ y. not (contains int_eq t y)) zs ≡ true → Apart s z zs
  apart [] h = record { none = refl; other = refl }
  apart (y ∷ ys) h =
      let p = and_parts (not (contains int_eq t y)) _ h in
      let n = neither (int_eq z y) (contains int_eq s y) (sym (ap not (added y)) ∙ p.0) in
      let rest = apart ys p.1 in
      record {
        none = and_from _ _ (ap not n.second) rest.none;
        other = or_from (int_eq z y) _ n.first rest.other;
      }

  pub fresh_added : (zs : List ℤ) → fresh t zs ≡ true → fresh s (z ∷ zs) ≡ true
  fresh_added zs h =
      let p = and_parts (list_all (λ y. not (contains int_eq t y)) zs) _ h in
      let a = apart zs p.0 in
      and_from _ _ (and_from _ _ (sym new) a.none) (and_from _ _ (ap not a.other) p.1)

-- the same where the constant is written in another way
pub fresh_added_as : (s t : Values) (v z : ℤ) → v ≡ z → true ≡ not (contains int_eq s v) → ((q : ℤ) → contains int_eq t q ≡ cond (int_eq v q) true (contains int_eq s q)) → (zs : List ℤ) → fresh t zs ≡ true → fresh s (z ∷ zs) ≡ true
fresh_added_as s t v z same new added zs h = subst (λ x. fresh s (x ∷ zs) ≡ true) same (fresh_added s t v new added zs h)

pub fresh_differ : (s : Values) (zs : List ℤ) → fresh s zs ≡ true → all_differ zs ≡ true
fresh_differ s zs h = (and_parts (list_all (λ y. not (contains int_eq s y)) zs) _ h).1

-- ---- one constant after the other

pub fresh_next : (old new : Values) (before : List ℤ → Type 0) (xs : List ℤ) (k : ℕ) (x : ℤ) → k < length xs → x ≡ get_or xs k x → ((zs : List ℤ) → fresh new zs ≡ true → fresh old (x ∷ zs) ≡ true)
    → ((zs : List ℤ) → fresh old (drop k xs ++ zs) ≡ true → before zs) → (zs : List ℤ) → fresh new (drop (k + 1) xs ++ zs) ≡ true → before zs
fresh_next old new before xs k x h e step w zs f = w zs (subst (λ ys. fresh old (ys ++ zs) ≡ true) (sym (drop_next xs k x h e)) (step (drop (k + 1) xs ++ zs) f))

arm_constants : (q : Rule) (a : Arm) → (arm_of q a).1 ≡ (out-Arm a).consts
arm_constants q a = ap (λ b. b.1) (fold_out-Arm Bool (Bool × List ℤ) Bool (body_step q) arm_step (statement_step q) a)

pub typed_constants : (t : Tables) (a : Arm) → (arm_types t a).1 ≡ (out-Arm a).consts
typed_constants t a = ap (λ b. b.1) (fold_out-Arm Bool (Bool × List ℤ) Bool (body_type_step t) arm_step statement_type_step a)

-- one arm after the other
pub arms_next : (q : Rule) (old new : Values) (P : Type 0) (xs : List Arm) (k : ℕ) (x : Arm) → k < length xs → x ≡ get_or xs k x → ((zs : List ℤ) → fresh new zs ≡ true → fresh old ((out-Arm x).consts ++ zs) ≡ true)
    → (fresh old (constants (map (arm_of q) (drop k xs))) ≡ true → P) → fresh new (constants (map (arm_of q) (drop (k + 1) xs))) ≡ true → P
arms_next q old new P xs k x h e step w f =
    let rest = constants (map (arm_of q) (drop (k + 1) xs)) in
    let all : constants (map (arm_of q) (drop k xs)) ≡ (out-Arm x).consts ++ rest = ap (λ ys. constants (map (arm_of q) ys)) (drop_next xs k x h e) ∙ ap (λ zs. zs ++ rest) (arm_constants q x) in
    w (subst (λ zs. fresh old zs ≡ true) (sym all) (step rest f))
