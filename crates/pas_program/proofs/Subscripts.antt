-- How the subscripts of an access lead from the type of its variable to that of the part, one by one.
use Rattle.std.proofs.Common.{◌≡◌, ℕ, ℤ, suc, ◌+◌, ◌<◌, ◌≤◌, Bool, true, false, ◌&&◌, List, ◌∷◌, length, drop, get_or, map, refl, sym, ap, subst, ◌∙◌, arith, add-one, Option, Some, None}
use Rattle.std.proofs.Math.Seq.{drop-cons}
use Rattle.std.proofs.lemmas.Bool.{and_parts, true≢false}
use Rattle.std.proofs.lemmas.List.{drop_all, length-map}
use Rattle.pas_program.specs.declared.expr.Access.{Access}
use Rattle.pas_program.specs.declared.expr.Actual.TheFolds.{fold_out-Access}
use Rattle.pas_program.specs.declared.expr.Actual.TheViews.{out-Access}
use Rattle.pas_program.specs.declared.expr.Expr.{Expr}
use Rattle.pas_program.specs.declared.type_def.TypeDef.TheVariants.{Scalar, Array}
use Rattle.pas_program.specs.declared.variable.VarDef.{VarDef}
use Rattle.pas_program.specs.Tables.{Tables}
use Rattle.pas_program.specs.Typed.{Hosted, Reached, Passed, hosted, reached, subscripted, element_of, access_from, actual_type_step, form_type_step, access_type_step, expr_type_step}
use Rattle.pas_program.specs.Types.{has_host}

-- from the type n the subscripts left lead to the whole's type
pub record Leads (t : Tables) (whole : Reached) (n : ℕ) (rest : List Hosted) : Type 0 where
  pub fits : (subscripted t n rest).fits ≡ true
  pub same : (subscripted t n rest).of_type ≡ whole.of_type

module _ (t : Tables) where
  reached_is : (a : Access) → reached t a ≡ access_from t (map (hosted t) (out-Access a).subscripts) (t.var_at (out-Access a).var)
  reached_is a = fold_out-Access Passed Hosted Reached Hosted actual_type_step (form_type_step t) (access_type_step t) expr_type_step a

  some_var : (subscripts : List Hosted) (o : Option VarDef) → (access_from t subscripts o).fits ≡ true → (d : VarDef) × (o ≡ Some d)
  some_var subscripts None h = absurd (true≢false (sym h))
  some_var subscripts (Some d) h = (d, refl)

  -- the variable of an access that fits
  pub access_var : (a : Access) → (reached t a).fits ≡ true → (d : VarDef) × (t.var_at (out-Access a).var ≡ Some d)
  access_var a h = some_var (map (hosted t) (out-Access a).subscripts) (t.var_at (out-Access a).var) (sym (ap (λ (r : Reached). r.fits) (reached_is a)) ∙ h)

  pub leads_first : (a : Access) (d : VarDef) → (reached t a).fits ≡ true → t.var_at (out-Access a).var ≡ Some d → Leads t (reached t a) d.of_type (map (hosted t) (out-Access a).subscripts)
  leads_first a d h e =
      let is = reached_is a ∙ ap (access_from t (map (hosted t) (out-Access a).subscripts)) e in
      record { fits = sym (ap (λ (r : Reached). r.fits) is) ∙ h; same = sym (ap (λ (r : Reached). r.of_type) is) }

  leads_down : (whole : Reached) (n index element : ℕ) (s : Hosted) (rest : List Hosted) → t.type_at n ≡ Some (Array index element) → Leads t whole n (s ∷ rest) → Leads t whole element rest
  leads_down whole n index element s rest e l =
      let is = ap (element_of t s (λ m. subscripted t m rest)) e in
      record {
        fits = (and_parts (s.fits && has_host s.boolean (t.type_at index)) _ (sym (ap (λ (r : Reached). r.fits) is) ∙ l.fits)).1;
        same = sym (ap (λ (r : Reached). r.of_type) is) ∙ l.same;
      }

  -- one subscript on, at an array
  pub leads_next : (whole : Reached) (n index element k : ℕ) (xs : List Expr) → k < length xs → t.type_at n ≡ Some (Array index element) → Leads t whole n (drop k (map (hosted t) xs)) → Leads t whole element (drop (k + 1) (map (hosted t) xs))
  leads_next whole n index element k xs h e l =
      let d : Hosted = record { fits = false; boolean = false } in
      let is = drop-cons (map (hosted t) xs) k d (omega (arith, length-map xs (hosted t))) in
      rw add-one (leads_down whole n index element (get_or (map (hosted t) xs) k d) (drop (suc k) (map (hosted t) xs)) e (subst (Leads t whole n) is l))

  -- and there is an array
  pub leads_not_scalar : (whole : Reached) (n : ℕ) (boolean : Bool) (lo hi : ℤ) (k : ℕ) (xs : List Expr) → k < length xs → t.type_at n ≡ Some (Scalar boolean lo hi) → Leads t whole n (drop k (map (hosted t) xs)) → ⊥
  leads_not_scalar whole n boolean lo hi k xs h e l =
      let d : Hosted = record { fits = false; boolean = false } in
      let is = drop-cons (map (hosted t) xs) k d (omega (arith, length-map xs (hosted t))) in
      let m = subst (Leads t whole n) is l in
      true≢false (sym m.fits ∙ ap (λ (r : Reached). r.fits) (ap (element_of t (get_or (map (hosted t) xs) k d) (λ j. subscripted t j (drop (suc k) (map (hosted t) xs)))) e))

  -- at the end stands the type
  pub leads_last : (whole : Reached) (n k : ℕ) (xs : List Expr) → length xs ≤ k → Leads t whole n (drop k (map (hosted t) xs)) → n ≡ whole.of_type
  leads_last whole n k xs h l = (subst (Leads t whole n) (drop_all k (map (hosted t) xs) (omega (arith, h, length-map xs (hosted t)))) l).same
