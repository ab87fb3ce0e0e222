-- What a table that is open is known to hold.
use Rattle.std.proofs.Common.{◌≡◌, ℕ, ◌+◌, ◌<◌, ◌^◌, List, [], length, Option, Some, refl, ap, ◌∙◌, subst, arith}
use Rattle.std.specs.Option.{unwrap_or}
use Rattle.std.specs.Prelude.{slice_get}
use Rattle.alias_class.specs.declared.classes.Row.{Row}
use Rattle.alias_class.specs.declared.key.Key.{Key}
use Rattle.alias_class.specs.declared.outline.Outline.{Outline}
use Rattle.pas_program.specs.declared.expr.Actual.{Actual}
use Rattle.alias_class.specs.declared.bind.Bind.{Bind}
use Rattle.alias_class.specs.Calls.{named, parent_in}
use Rattle.alias_class.specs.Cells.{IsClass, cell_count, own_count}
use Rattle.alias_class.specs.Classes.{Class, class_at}
use Rattle.alias_class.specs.Kept.{OutlineFits}
use Rattle.alias_class.specs.Outlines.{own_of}
use Rattle.alias_class.specs.Passings.{IsCallFrom}
use Rattle.alias_class.specs.Tables.{IsKept, Table, classes_of}
use Rattle.alias_class.proofs.Called.{length-named, parent_room}
use Rattle.alias_class.proofs.Variables.{is_class}

-- the cells of the class of a number that is found
pub cells_are : (t : Table) (n : ℕ) (d : Class) → slice_get t.classes n ≡ Some d → (count : ℕ) → count ≡ cell_count t.outline (class_at t.classes n) → count ≡ cell_count t.outline d
cells_are t n d at count same = same ∙ ap (λ (x : Option Class). cell_count t.outline (unwrap_or x [])) at

module _ (o : Outline) (keys : List Key) (rows : List Row) (kept : IsKept o keys rows) (t : Table) (view : record { outline = o; classes = classes_of keys } ≡ t) where
  pub fits_outline : OutlineFits t.outline
  fits_outline = subst (λ (x : Table). OutlineFits x.outline) view kept.outline

  pub open_class : (class : ℕ) → class < length t.classes → IsClass t.outline (class_at t.classes class)
  open_class class h = subst (λ (x : Table). IsClass x.outline (class_at x.classes class)) view (is_class o keys rows kept t view class h)

  -- ---- room for the cells of a callee

  module _ (class : ℕ) (h : class < length t.classes) (r : ℕ) (actuals : List Actual) (call : IsCallFrom t.outline (class_at t.classes class) r actuals) (inherited : ℕ) (same : inherited ≡ cell_count t.outline (parent_in t.outline (class_at t.classes class) r)) (own : List ℕ) (own_same : own ≡ own_of o r) where
    own_count_is : length own ≡ own_count t.outline r
    own_count_is = ap length own_same ∙ ap (λ (x : Table). own_count x.outline r) view

    pub names_fit : (names : List Bind) → names ≡ named t.outline (class_at t.classes class) actuals → inherited + length own + length names < 2 ^ 32
    names_fit names is =
        let room = parent_room t.outline fits_outline (class_at t.classes class) (open_class class h) r call.declared in
        let few = fits_outline.few in
        let own_is = own_count_is in
        let long = ap length is in
        let passed = length-named t.outline (class_at t.classes class) r actuals call in
        omega arith

    pub own_fits : inherited + length own < 2 ^ 32
    own_fits = let fit = names_fit (named t.outline (class_at t.classes class) actuals) refl in omega arith
