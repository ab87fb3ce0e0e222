-- The actuals of variable parameters.
use Rattle.std.proofs.Common.{◌≡◌, ℕ, zero, suc, ◌+◌, ◌<◌, List, [], ◌∷◌, ◌++◌, length, get_or, map, take, Option, Some, None, refl, ap, ◌∙◌, subst, arith}
use Rattle.std.proofs.Common.{Bor}
use Rattle.std.specs.List.{All, cons_option}
use Rattle.std.specs.Option.{option_copied}
use Rattle.std.proofs.lemmas.List.{append-nil, map-append, take_more}
use Rattle.std.proofs.lemmas.List.Elements.{All-head, All-tail, filter_map-append}
use Rattle.pas_program.specs.declared.expr.Access.{Access}
use Rattle.pas_program.specs.declared.expr.Actual.{Actual}
use Rattle.pas_program.specs.declared.expr.Actual.TheViews.{out-Actual}
use Rattle.alias_class.specs.declared.outline.Outline.{Outline}
use Rattle.alias_class.specs.Calls.{named, var_actual, var_actuals}
use Rattle.alias_class.specs.Cells.{resolve_access}
use Rattle.alias_class.specs.Classes.{Class}

-- ---- one actual more

pub named-push : (o : Outline) (c : Class) (actuals : List Actual) (n : ℕ) (d : Actual) → n < length actuals
    → named o c (take (n + 1) actuals) ≡ named o c (take n actuals) ++ map (resolve_access o c) (cons_option (var_actual (out-Actual (get_or actuals n d))) [])
named-push o c actuals n d h =
    ap (named o c) (take_more actuals n d h)
    ∙ ap (map (resolve_access o c)) (filter_map-append (λ a. var_actual (out-Actual a)) (take n actuals) (get_or actuals n d ∷ []))
    ∙ map-append (resolve_access o c) (var_actuals (take n actuals)) (cons_option (var_actual (out-Actual (get_or actuals n d))) [])

pub named-some : (o : Outline) (c : Class) (actuals : List Actual) (n : ℕ) (d : Actual) → n < length actuals → (a : Access) → var_actual (out-Actual (get_or actuals n d)) ≡ Some a → named o c (take (n + 1) actuals) ≡ named o c (take n actuals) ++ resolve_access o c a ∷ []
named-some o c actuals n d h a e = named-push o c actuals n d h ∙ ap (λ (x : Option Access). named o c (take n actuals) ++ map (resolve_access o c) (cons_option x [])) e

pub named-none : (o : Outline) (c : Class) (actuals : List Actual) (n : ℕ) (d : Actual) → n < length actuals → var_actual (out-Actual (get_or actuals n d)) ≡ None → named o c (take (n + 1) actuals) ≡ named o c (take n actuals)
named-none o c actuals n d h e = named-push o c actuals n d h ∙ ap (λ (x : Option Access). named o c (take n actuals) ++ map (resolve_access o c) (cons_option x [])) e ∙ append-nil (named o c (take n actuals))

pub none_copied : {A : Type 0} (r : Option (Bor A)) → ((a : Bor A) → r ≡ Some a → ⊥) → option_copied r ≡ None
none_copied None h = refl
none_copied (Some a) h = absurd (h a refl)

-- what holds of each actual of a variable parameter
pub each_passed : (P : Access → Type 0) (actuals : List Actual) → All P (var_actuals actuals) → (n : ℕ) (d : Actual) → n < length actuals → (a : Access) → var_actual (out-Actual (get_or actuals n d)) ≡ Some a → P a
each_passed P [] all n d h a e = absurd (omega arith)
each_passed P (x ∷ actuals) all zero d h a e = All-head P a (var_actuals actuals) (subst (λ (o : Option Access). All P (cons_option o (var_actuals actuals))) e all)
each_passed P (x ∷ actuals) all (suc n) d h a e = each_passed P actuals (rest (var_actual (out-Actual x)) all) n d (omega arith) a e
  where
    rest : (o : Option Access) → All P (cons_option o (var_actuals actuals)) → All P (var_actuals actuals)
    rest None all = all
    rest (Some y) all = All-tail P y (var_actuals actuals) all
