-- A section of formals.
use Rattle.std.proofs.Common.{◌≡◌, ℕ, List, [], ◌∷◌, ◌++◌, length, sym, ap, ◌∙◌, Ok, Err}
use Rattle.px_base.specs.declared.place.Span.{Span}
use Rattle.pas_program.specs.declared.variable.VarKind.{VarKind}
use Rattle.pas_tree.specs.declared.block.Section.{Section}
use Rattle.pas_check.specs.declared.actual.Formal.{Formal}
use Rattle.pas_check.specs.declared.built.Built.{Built}
use Rattle.pas_check.specs.declared.fault.Fault.{Fault}
use Rattle.pas_check.specs.declared.heading.Owner.{Owner}
use Rattle.pas_check.specs.declared.meaning.Meaning.TheVariants as means
use Rattle.pas_check.specs.Built.{variable_of, with_variable}
use Rattle.pas_check.specs.Declarations.{defined, led, led_by, name_claimed}
use Rattle.pas_check.specs.Formals.{Formed, formal_declared, kind_of, section_declared}
use Rattle.pas_check.specs.Outcome.{Outcome, ◌>>=◌}
use Rattle.pas_check.specs.Sight.{Sight}
use Rattle.pas_check.specs.TypeExpr.{named_type}

-- a formal with its variable
pub formal_is : (owner : Owner) (formal : Formal) (s : Formed) (name : Span) (number : ℕ) (k : VarKind) (w : Sight) (b : Built) (list : List Formal) (numbers : List ℕ) → number ≡ length s.at.built.vars → k ≡ kind_of formal.by_var
    → w ≡ defined s.at.seen name (means.Variable (record { number = number; at = name.start; level = owner.level; kind = k; of_type = formal.of_type })) → b ≡ with_variable (variable_of name owner.routine k formal.of_type) s.at.built
    → list ≡ s.formals ++ formal ∷ [] → numbers ≡ s.numbers ++ number ∷ [] → let now : Formed = record { at = record { seen = w; built = b }; formals = list; numbers = numbers } in now ≡ formal_declared owner formal s name
unfolding formal_declared
formal_is owner formal s name number k w b list numbers next same is built more counted =
    let seen : w ≡ defined s.at.seen name (means.Variable (record { number = length s.at.built.vars; at = name.start; level = owner.level; kind = kind_of formal.by_var; of_type = formal.of_type })) =
    is ∙ (λ i. defined s.at.seen name (means.Variable (record { number = next i; at = name.start; level = owner.level; kind = same i; of_type = formal.of_type }))) in
    let vars : b ≡ with_variable (variable_of name owner.routine (kind_of formal.by_var) formal.of_type) s.at.built = built ∙ ap (λ (q : VarKind). with_variable (variable_of name owner.routine q formal.of_type) s.at.built) same in
    let taken : numbers ≡ s.numbers ++ length s.at.built.vars ∷ [] = counted ∙ ap (λ (n : ℕ). s.numbers ++ n ∷ []) next in
    λ i. record { at = record { seen = seen i; built = vars i }; formals = more i; numbers = taken i }

module _ (owner : Owner) (s : Formed) (d : Section) (names : List Span) (same : names ≡ d.names) where
  abbrev formals_of : Sight → ℕ → Formed
  formals_of u t = led (formal_declared owner (record { by_var = d.by_var; of_type = t })) (record s { at = record s.at { seen = u } }) d.names

  abbrev after_names : Sight → Outcome Formed
  after_names u = named_type u d.of_type >>= (λ t. Ok (formals_of u t))

  section_by : (o : Outcome Sight) → led_by name_claimed s.at.seen names ≡ o → section_declared owner s d ≡ (o >>= after_names)
  unfolding section_declared
  section_by o e = ap (λ (ns : List Span). led_by name_claimed s.at.seen ns >>= after_names) (sym same) ∙ ap (λ (p : Outcome Sight). p >>= after_names) e

  pub section_in_names : (f : Fault) → led_by name_claimed s.at.seen names ≡ Err f → section_declared owner s d ≡ Err f
  section_in_names f e = section_by (Err f) e

  pub section_in_type : (u : Sight) (f : Fault) → led_by name_claimed s.at.seen names ≡ Ok u → named_type u d.of_type ≡ Err f → section_declared owner s d ≡ Err f
  section_in_type u f claimed e = section_by (Ok u) claimed ∙ ap (λ (o : Outcome ℕ). o >>= (λ t. Ok (formals_of u t))) e

  pub section_whole : (u : Sight) (t : ℕ) (b : Built) (w : Formed) → led_by name_claimed s.at.seen names ≡ Ok u → named_type u d.of_type ≡ Ok t → b ≡ s.at.built
      → w ≡ led (formal_declared owner (record { by_var = d.by_var; of_type = t })) (record s { at = record { seen = u; built = b } }) names → section_declared owner s d ≡ Ok w
  section_whole u t b w claimed read kept formals =
      section_by (Ok u) claimed ∙ ap (λ (o : Outcome ℕ). o >>= (λ t. Ok (formals_of u t))) read
      ∙ ap (λ (x : Formed). Ok x) (sym (formals ∙ (λ i. led (formal_declared owner (record { by_var = d.by_var; of_type = t })) (record s { at = record { seen = u; built = kept i } }) (same i))))
