-- The type of what an access names, in two ways.
use Rattle.std.proofs.Common.{◌≡◌, ℕ, true, List, [], ◌∷◌, map, refl, sym, ap, ◌∙◌, Option, Some, None}
use Rattle.std.specs.Option.{option_map, unwrap_or}
use Rattle.std.proofs.lemmas.Bool.{true≢false, and_parts}
use Rattle.pas_program.specs.declared.expr.Access.{Access}
use Rattle.pas_program.specs.declared.expr.Actual.TheFolds.{fold_out-Access}
use Rattle.pas_program.specs.declared.expr.Actual.TheViews.{out-Access}
use Rattle.pas_program.specs.declared.expr.Expr.{Expr}
use Rattle.pas_program.specs.declared.type_def.TypeDef.{TypeDef}
use Rattle.pas_program.specs.declared.type_def.TypeDef.TheVariants.{Scalar, Array}
use Rattle.pas_program.specs.declared.variable.VarDef.{VarDef}
use Rattle.pas_program.specs.Tables.{Tables}
use Rattle.pas_program.specs.Typed.{Hosted, Passed, Reached, hosted, reached, subscripted, element_of, access_from, actual_type_step, form_type_step, access_type_step, expr_type_step}
use Rattle.control_points.specs.Evaluation.{element_type, part_type, access_type, var_type}

part_element : (t : Tables) (e : Expr) (subscripts : List Expr) (o : Option TypeDef)
    → ((n : ℕ) → (subscripted t n (map (hosted t) subscripts)).fits ≡ true → (subscripted t n (map (hosted t) subscripts)).of_type ≡ part_type t n subscripts)
    → (element_of t (hosted t e) (λ n. subscripted t n (map (hosted t) subscripts)) o).fits ≡ true → (element_of t (hosted t e) (λ n. subscripted t n (map (hosted t) subscripts)) o).of_type ≡ part_type t (element_type o) subscripts
part_element t e subscripts None rest h = absurd (true≢false (sym h))
part_element t e subscripts (Some (Scalar boolean lo hi)) rest h = absurd (true≢false (sym h))
part_element t e subscripts (Some (Array index element)) rest h = rest element (and_parts _ (subscripted t element (map (hosted t) subscripts)).fits h).1

-- that subscripts lead to
part_same : (t : Tables) (subscripts : List Expr) (n : ℕ) → (subscripted t n (map (hosted t) subscripts)).fits ≡ true → (subscripted t n (map (hosted t) subscripts)).of_type ≡ part_type t n subscripts
part_same t [] n h = refl
part_same t (e ∷ subscripts) n h = part_element t e subscripts (t.type_at n) (part_same t subscripts) h

from_variable : (t : Tables) (subscripts : List Expr) (o : Option VarDef) → (access_from t (map (hosted t) subscripts) o).fits ≡ true
    → (access_from t (map (hosted t) subscripts) o).of_type ≡ part_type t (unwrap_or (option_map (λ (d : VarDef). d.of_type) o) 0) subscripts
from_variable t subscripts None h = absurd (true≢false (sym h))
from_variable t subscripts (Some d) h = part_same t subscripts d.of_type h

reached_is : (t : Tables) (a : Access) → reached t a ≡ access_from t (map (hosted t) (out-Access a).subscripts) (t.var_at (out-Access a).var)
reached_is t a = fold_out-Access Passed Hosted Reached Hosted actual_type_step (form_type_step t) (access_type_step t) expr_type_step a

pub type_same : (t : Tables) (a : Access) → (reached t a).fits ≡ true → (reached t a).of_type ≡ access_type t a
type_same t a h =
    let x = out-Access a in
    ap (λ (y : Reached). y.of_type) (reached_is t a) ∙ from_variable t x.subscripts (t.var_at x.var) (ap (λ (y : Reached). y.fits) (sym (reached_is t a)) ∙ h)

fits_from : (t : Tables) (subscripts : List Expr) (o : Option VarDef) → (access_from t (map (hosted t) subscripts) o).fits ≡ true
    → (subscripted t (unwrap_or (option_map (λ (d : VarDef). d.of_type) o) 0) (map (hosted t) subscripts)).fits ≡ true
fits_from t subscripts None h = absurd (true≢false (sym h))
fits_from t subscripts (Some d) h = h

-- the subscripts fit the variable's type
pub subscripts_fit : (t : Tables) (a : Access) → (reached t a).fits ≡ true → (subscripted t (var_type t (out-Access a).var) (map (hosted t) (out-Access a).subscripts)).fits ≡ true
subscripts_fit t a h = fits_from t (out-Access a).subscripts (t.var_at (out-Access a).var) (ap (λ (y : Reached). y.fits) (sym (reached_is t a)) ∙ h)
