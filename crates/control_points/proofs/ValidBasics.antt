-- What follows from the answers of tests, of look-ups and of evaluations.
use Rattle.std.proofs.Common.{◌≡◌, ℕ, Bool, true, false, cond, ℤ, refl, sym, ap, ◌∙◌, Option, Some, None, Ok, Err, option_map, option_and_then}
use Rattle.std.proofs.lemmas.Bool.{true≢false}
use Rattle.std.proofs.lemmas.Option.{none-some, same_Some}
use Rattle.px_base.specs.declared.kind.Kind.{Kind}
use Rattle.pas_program.specs.Tables.{holds_of, is_kind}
use Rattle.pas_program.specs.declared.variable.VarKind.{VarKind}
use Rattle.pas_program.specs.declared.variable.VarKind.TheVariants as kind
use Rattle.control_points.specs.declared.fault.Fault.{Fault}
use Rattle.control_points.specs.Actions.{Effect, Outcome}
use Rattle.control_points.specs.Evaluation.{Answer, then_with, checked, defined}

-- ---- answers

pub no_error : {A : Type 0} (e : Fault) (x : A) → ◌≡◌ {A = Answer A} (Err e) (Ok x) → ⊥
no_error e x h = cc

pub same_Ok : {A : Type 0} (x y : A) → ◌≡◌ {A = Answer A} (Ok x) (Ok y) → x ≡ y
same_Ok x y h = cc

-- a value that comes of two steps
pub then_ok : {A B : Type 0} (x : Answer A) (f : A → Answer B) (y : B) → then_with x f ≡ Ok y → (v : A) × (x ≡ Ok v) × (f v ≡ Ok y)
then_ok (Ok v) f y h = (v, refl, h)
then_ok (Err e) f y h = absurd (no_error e y h)

pub checked_ok : (b : Bool) (kind : Kind) (at : ℕ) (z w : ℤ) → checked b kind at z ≡ Ok w → (b ≡ true) × (z ≡ w)
checked_ok true kind at z w h = (refl, same_Ok z w h)
checked_ok false kind at z w h = absurd (no_error _ w h)

pub defined_ok : (at : ℕ) (o : Option ℤ) (z : ℤ) → defined at o ≡ Ok z → o ≡ Some z
defined_ok at (Some y) z h = ap (λ (w : ℤ). Some w) (same_Ok y z h)
defined_ok at None z h = absurd (no_error _ z h)

-- an action that is the one to be done, as its condition says
pub not_done : (e : Effect) → ◌≡◌ {A = Outcome} (Ok None) (Ok (Some e)) → ⊥
not_done e h = none-some e (same_Ok _ _ h)

pub if_done : (b : Bool) (x : Outcome) (e : Effect) → cond b x (Ok None) ≡ Ok (Some e) → (b ≡ true) × (x ≡ Ok (Some e))
if_done true x e h = (refl, h)
if_done false x e h = absurd (not_done e h)

pub unless_done : (b : Bool) (x : Outcome) (e : Effect) → cond b (Ok None) x ≡ Ok (Some e) → (b ≡ false) × (x ≡ Ok (Some e))
unless_done true x e h = absurd (not_done e h)
unless_done false x e h = (refl, h)

pub same_effect : (d e : Effect) → ◌≡◌ {A = Outcome} (Ok (Some d)) (Ok (Some e)) → d ≡ e
same_effect d e h = same_Some d e (same_Ok _ _ h)

-- ---- look-ups

pub and_then_found : {A B : Type 0} (f : A → Option B) (o : Option A) (y : B) → option_and_then f o ≡ Some y → (x : A) × (o ≡ Some x) × (f x ≡ Some y)
and_then_found f (Some x) y h = (x, refl, h)
and_then_found f None y h = absurd (none-some y h)

pub map_found : {A B : Type 0} (f : A → B) (o : Option A) (y : B) → option_map f o ≡ Some y → (x : A) × (o ≡ Some x) × (f x ≡ y)
map_found f (Some x) y h = (x, refl, same_Some (f x) y h)
map_found f None y h = absurd (none-some y h)

pub holds_found : {A : Type 0} (p : A → Bool) (o : Option A) → holds_of p o ≡ true → (x : A) × (o ≡ Some x) × (p x ≡ true)
holds_found p (Some x) h = (x, refl, h)
holds_found p None h = absurd (true≢false (sym h))

-- what is found in two ways is one thing
pub found_once : {A : Type 0} (o : Option A) (x y : A) → o ≡ Some x → o ≡ Some y → x ≡ y
found_once o x y e f = same_Some x y (sym e ∙ f)

-- ---- kinds of variables

pub same_kind : (k l : VarKind) → is_kind k l ≡ true → k ≡ l
same_kind kind.Local kind.Local h = refl
same_kind kind.Value kind.Value h = refl
same_kind kind.Var kind.Var h = refl
same_kind kind.Result kind.Result h = refl
same_kind kind.Slot kind.Slot h = refl
same_kind kind.Bound kind.Bound h = refl
same_kind _ _ h = absurd (true≢false (sym h))
