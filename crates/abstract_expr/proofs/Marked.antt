-- The marks that verdicts leave.
use Rattle.std.proofs.Common.{◌≡◌, ℕ, zero, suc, ◌+◌, ◌-◌, Bool, true, false, cond, not, ◌&&◌, ◌||◌, List, [], ◌∷◌, ◌++◌, length, map, drop, refl, sym, ap, ◌∙◌, arith, append_assoc, Some}
use Rattle.std.proofs.Common.{length-append}
use Rattle.std.proofs.lemmas.Bool.Decides.{nat_tests}
use Rattle.std.specs.Prelude.{nat_lt}
use Rattle.std.specs.List.{slice_get}
use Rattle.abstract_expr.specs.Tallies.{Tallied, after_verdicts, tallied, with_mark}
use Rattle.abstract_expr.specs.Verdicts.{marks_with}

unmarked : (todo : List Bool) → todo ≡ marks_with todo []
unmarked [] = refl
unmarked (m ∷ ms) = refl

no_marks : (vs : List Bool) → marks_with [] vs ≡ []
no_marks [] = refl
no_marks (v ∷ vs) = refl

-- the mark behind those that are done
marked_next : (done ms : List Bool) (m holds : Bool) → with_mark (done ++ m ∷ ms) (length done) holds ≡ (done ++ (m || not holds) ∷ []) ++ ms
marked_next [] ms m holds = refl
marked_next (d ∷ done) ms m holds = ap (λ (l : List Bool). d ∷ l) (marked_next done ms m holds)

all_done : (done : List Bool) → nat_lt (length done) (length (done ++ [])) ≡ false
all_done done = grind (arith, nat_tests, length-append done [])

one_left : (done ms : List Bool) (m : Bool) → nat_lt (length done) (length (done ++ m ∷ ms)) ≡ true
one_left done ms m = grind (arith, nat_tests, length-append done (m ∷ ms))

one_more : (done : List Bool) (b : Bool) → length done + 1 ≡ length (done ++ b ∷ [])
one_more done b = omega (arith, length-append done (b ∷ []))

some_before : (n : ℕ) → nat_lt 0 (suc n) ≡ true
some_before n = grind (arith, nat_tests)

one_less : (n : ℕ) → suc n - 1 ≡ n
one_less n = omega arith

pub marks_by : (vs : List Bool) (before : ℕ) (all : Bool) (done todo : List Bool)
    → (after_verdicts vs (tallied (record { before = before; marked = length done; all_hold = all }) (done ++ todo))).marks ≡ done ++ marks_with todo (drop before vs)
marks_by [] zero all done todo = ap (λ (l : List Bool). done ++ l) (unmarked todo)
marks_by [] (suc before) all done todo = ap (λ (l : List Bool). done ++ l) (unmarked todo)
marks_by (v ∷ vs) (suc before) all done todo =
    let skip : Tallied = tallied (record { before = suc before - 1; marked = length done; all_hold = all && v }) (done ++ todo) in
    let put : Tallied = tallied (record { before = suc before; marked = length done + 1; all_hold = all && v }) (with_mark (done ++ todo) (length done) v) in
    let kept : Tallied = tallied (record { before = suc before; marked = length done; all_hold = all && v }) (done ++ todo) in
    ap (λ (b : Bool). (after_verdicts vs (cond b skip (cond (nat_lt (length done) (length (done ++ todo))) put kept))).marks) (some_before before)
    ∙ ap (λ (n : ℕ). (after_verdicts vs (tallied (record { before = n; marked = length done; all_hold = all && v }) (done ++ todo))).marks) (one_less before)
    ∙ marks_by vs before (all && v) done todo
marks_by (v ∷ vs) zero all done [] =
    let kept : Tallied = tallied (record { before = 0; marked = length done; all_hold = all && v }) (done ++ []) in
    let put : Tallied = tallied (record { before = 0; marked = length done + 1; all_hold = all && v }) (with_mark (done ++ []) (length done) v) in
    ap (λ (b : Bool). (after_verdicts vs (cond b put kept)).marks) (all_done done)
    ∙ marks_by vs zero (all && v) done []
    ∙ ap (λ (l : List Bool). done ++ l) (no_marks vs)
marks_by (v ∷ vs) zero all done (m ∷ ms) =
    let kept : Tallied = tallied (record { before = 0; marked = length done; all_hold = all && v }) (done ++ m ∷ ms) in
    let put : Tallied = tallied (record { before = 0; marked = length done + 1; all_hold = all && v }) (with_mark (done ++ m ∷ ms) (length done) v) in
    ap (λ (b : Bool). (after_verdicts vs (cond b put kept)).marks) (one_left done ms m)
    ∙ ap (λ (n : ℕ). (after_verdicts vs (tallied (record { before = 0; marked = n; all_hold = all && v }) (with_mark (done ++ m ∷ ms) (length done) v))).marks) (one_more done (m || not v))
    ∙ ap (λ (l : List Bool). (after_verdicts vs (tallied (record { before = 0; marked = length (done ++ (m || not v) ∷ []); all_hold = all && v }) l)).marks) (marked_next done ms m v)
    ∙ marks_by vs zero (all && v) (done ++ (m || not v) ∷ []) ms
    ∙ append_assoc done ((m || not v) ∷ []) (marks_with ms vs)

module _ {A : Type 0} (f : A → Bool) where
  -- where all hold, no mark is put
  pub none_marked : ((x : A) → f x ≡ true) → (xs : List A) (n : ℕ) (marks : List Bool) → marks ≡ marks_with marks (drop n (map f xs))
  none_marked always [] zero marks = unmarked marks
  none_marked always [] (suc n) marks = unmarked marks
  none_marked always (x ∷ xs) (suc n) marks = none_marked always xs n marks
  none_marked always (x ∷ xs) zero [] = refl
  none_marked always (x ∷ xs) zero (m ∷ ms) = ap (λ (b : Bool). b ∷ ms) (kept m (f x) (always x)) ∙ ap (λ (l : List Bool). (m || not (f x)) ∷ l) (none_marked always xs zero ms)
    where
      kept : (m b : Bool) → b ≡ true → m ≡ (m || not b)
      kept true b e = refl
      kept false b e = sym (ap not e)

  -- the mark of one verdict
  pub one_marked : (xs : List A) (n : ℕ) (x : A) → slice_get xs n ≡ Some x → marks_with (false ∷ []) (drop n (map f xs)) ≡ not (f x) ∷ []
  one_marked [] n x e = absurd (cc)
  one_marked (y ∷ xs) zero x e =
      let same : y ≡ x = cc in
      ap (λ (l : List Bool). not (f y) ∷ l) (no_marks (map f xs)) ∙ ap (λ (z : A). not (f z) ∷ []) same
  one_marked (y ∷ xs) (suc n) x e = one_marked xs n x e

pub map_same : {A : Type 0} (f g : A → Bool) → ((x : A) → f x ≡ g x) → (xs : List A) → map f xs ≡ map g xs
map_same f g same [] = refl
map_same f g same (x ∷ xs) = ap (λ (b : Bool). b ∷ map f xs) (same x) ∙ ap (λ (l : List Bool). g x ∷ l) (map_same f g same xs)

pub not_twice : (b : Bool) → not (not b) ≡ b
not_twice true = refl
not_twice false = refl
