-- What the walk over the constants keeps: the first different ones of what it has read, one part more at a time.
use Rattle.std.proofs.Common.{◌≡◌, ℕ, ◌+◌, ◌<◌, ◌≤◌, List, [], ◌∷◌, ◌++◌, ℤ, map, length, get_or, drop, refl, sym, ap, ◌∙◌, Result, Ok, Err, OnOk, OnErr}
use Rattle.std.proofs.lemmas.List.{append-nil, at_drop_all, at_drop_more}
use Rattle.px_base.specs.declared.operator.BinOp.{BinOp}
use Rattle.pas_program.specs.declared.expr.Actual.TheFolds.{fold-roll-ExprForm, fold_out-Expr}
use Rattle.pas_program.specs.declared.expr.Actual.TheOpen.{ExprForm-F}
use Rattle.pas_program.specs.declared.expr.Expr.{Expr}
use Rattle.pas_program.specs.declared.expr.ExprForm.TheVariants as form
use Rattle.control_points.specs.Marks.{joined}
use Rattle.control_points.specs.Thresholds.{Constants, access_step, actual_step, expr_constants, expr_step, first_different, form_constants, form_step}
use Rattle.control_points.proofs.FirstDifferent.{found_more}

-- the constants of an expression are those of its form
pub expr_constants_is : (e : Expr) → expr_constants e ≡ form_constants e.form
expr_constants_is e = fold_out-Expr Constants Constants Constants Constants actual_step form_step access_step expr_step e

pub binary_constants : (op : BinOp) (l r : Expr) (at : ℕ) → form_constants (form.Binary op l r at) ≡ expr_constants l ++ expr_constants r
binary_constants op l r at = ap form_constants (sym (form.rolls-Binary op l r at)) ∙ fold-roll-ExprForm Constants Constants Constants Constants actual_step form_step access_step expr_step (ExprForm-F.Binary op l r at)

-- two parts, of which the second may fail
pub ok_found : {A E : Type 0} (r : Result A E) (v w u xs ys : List ℤ) → w ≡ first_different (v ++ xs) → OnOk r (u ≡ first_different (w ++ ys)) → OnOk r (u ≡ first_different (v ++ (xs ++ ys)))
ok_found (Ok x) v w u xs ys first second = second ∙ found_more v w xs ys first
ok_found (Err e) v w u xs ys first second = tt

pub ok_found3 : {A E : Type 0} (r : Result A E) (v w x u ds bs cs : List ℤ) → w ≡ first_different (v ++ ds) → x ≡ first_different (w ++ bs) → OnOk r (u ≡ first_different (x ++ cs)) → OnOk r (u ≡ first_different (v ++ (ds ++ (bs ++ cs))))
ok_found3 r v w x u ds bs cs first second third = ok_found r v w u ds (bs ++ cs) first (ok_found r w x u bs cs second third)

-- a loop over parts, of which `found` says what is found in several, and `part` what in one
module _ {A : Type 0} (found : List A → List ℤ) (part : A → List ℤ) (xs : List A) where
  pub more_by : ((x : A) (ys : List A) → found (x ∷ ys) ≡ part x ++ found ys) → (k : ℕ) (x : A) (old new total : List ℤ) → k < length xs → x ≡ get_or xs k x
      → new ≡ first_different (old ++ part x) → first_different (old ++ found (drop k xs)) ≡ total → first_different (new ++ found (drop (k + 1) xs)) ≡ total
  more_by first k x old new total within is more h =
      found_more old new (part x) (found (drop (k + 1) xs)) more
      ∙ ap (λ ys. first_different (old ++ ys)) (ap (λ y. part y ++ found (drop (k + 1) xs)) is ∙ sym (first (get_or xs k x) (drop (k + 1) xs)) ∙ sym (at_drop_more found xs k x within))
      ∙ h

  pub all_by : found [] ≡ [] → (k : ℕ) (v total : List ℤ) → first_different v ≡ v → length xs ≤ k → first_different (v ++ found (drop k xs)) ≡ total → v ≡ total
  all_by none k v total own done h =
      sym own ∙ ap first_different (sym (append-nil v)) ∙ ap (λ ys. first_different (v ++ ys)) (sym (at_drop_all found xs k done ∙ none)) ∙ h

module _ {A : Type 0} (f : A → List ℤ) (xs : List A) where
  pub walked_more : (k : ℕ) (x : A) (old new total : List ℤ) → k < length xs → x ≡ get_or xs k x → new ≡ first_different (old ++ f x)
      → first_different (old ++ joined (map f (drop k xs))) ≡ total → first_different (new ++ joined (map f (drop (k + 1) xs))) ≡ total
  walked_more = more_by (λ ys. joined (map f ys)) f xs (λ x ys. refl)

  pub walked_all : (k : ℕ) (v total : List ℤ) → first_different v ≡ v → length xs ≤ k → first_different (v ++ joined (map f (drop k xs))) ≡ total → v ≡ total
  walked_all = all_by (λ ys. joined (map f ys)) f xs refl

-- ---- one constant

-- after an attempt to add a constant
pub added_first : {A E : Type 0} (r : Result A E) (v w : List ℤ) (y z : ℤ) → y ≡ z → first_different v ≡ v → first_different (v ++ z ∷ []) ≡ v ++ z ∷ [] → OnOk r (w ≡ v ++ y ∷ []) → OnErr r (w ≡ v) → first_different w ≡ w
added_first (Ok x) v w y z same own more added kept = let is = added ∙ ap (λ u. v ++ u ∷ []) same in ap first_different is ∙ more ∙ sym is
added_first (Err e) v w y z same own more added kept = ap first_different kept ∙ own ∙ sym kept

pub ok_added : {A E : Type 0} (r : Result A E) (v w : List ℤ) (y z : ℤ) → y ≡ z → v ++ z ∷ [] ≡ first_different (v ++ z ∷ []) → OnOk r (w ≡ v ++ y ∷ []) → OnOk r (w ≡ first_different (v ++ z ∷ []))
ok_added (Ok x) v w y z same more added = added ∙ ap (λ u. v ++ u ∷ []) same ∙ more
ok_added (Err e) v w y z same more added = tt
