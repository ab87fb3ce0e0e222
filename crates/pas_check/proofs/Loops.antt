-- The control variables of the `for` statements around.
use Rattle.std.proofs.Common.{◌≡◌, ℕ, Bool, true, false, cond, Option, None, refl, sym, ap, subst, ◌∙◌, nat_eq, eqb-true}
use Rattle.std.specs.Prelude.{is_some, ◌||◌, if◌then◌else◌}
use Rattle.pas_check.specs.Sight.{Sight}
use Rattle.pas_check.specs.Statements.{over}

pub some_out : (b : Bool) (o : Option (Unit {0})) → is_some (cond b None o) ≡ (if b then false else is_some o)
some_out true o = refl
some_out false o = refl

left_at : (at n : ℕ) (b : Bool) (looping : ℕ → Bool) → (b ≡ true → at ≡ n) → looping at ≡ false → (if b then false else (b || looping n)) ≡ looping n
left_at at n true looping e none = sym (subst (λ m. looping m ≡ false) (e refl) none)
left_at at n false looping e none = refl

-- a variable that was not there before is taken out again
pub left : (v w : Sight) (at : ℕ) (looping : ℕ → Bool) → v.looping at ≡ false → w ≡ over v at → ((n : ℕ) → looping n ≡ (if nat_eq at n then false else w.looping n)) → record w { looping = looping } ≡ v
left v w at looping none is out =
    let each : (n : ℕ) → looping n ≡ v.looping n = λ n. out n ∙ ap (λ (u : Sight). if nat_eq at n then false else u.looping n) is ∙ left_at at n (nat_eq at n) v.looping (eqb-true at n) none in
    let same : looping ≡ v.looping = λ i n. each n i in
    ap (λ (u : Sight). record u { looping = looping }) is ∙ ap (λ l. record v { looping = l }) same
