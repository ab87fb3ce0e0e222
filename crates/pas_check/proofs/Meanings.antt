-- What a name means, by the rules.
use Rattle.std.proofs.Common.{◌≡◌, ℕ, true, false, Option, Some, None, Ok, Err, refl}
use Rattle.std.specs.Prelude.{is_none}
use Rattle.px_base.specs.declared.place.Span.{Span}
use Rattle.pas_program.specs.Tables.{holds_of}
use Rattle.pas_check.specs.declared.fault.Fault.TheVariants.{Broken}
use Rattle.pas_check.specs.declared.fault.Rule.TheVariants as rule
use Rattle.pas_check.specs.declared.meaning.Meaning.{Meaning}
use Rattle.pas_check.specs.declared.scope.Declaration.{Declaration}
use Rattle.pas_check.specs.Expr.{meant, meant_by}
use Rattle.pas_check.specs.Names.{name_at}
use Rattle.pas_check.specs.Outcome.{needed}
use Rattle.pas_check.specs.Rules.{is_not_ended, is_unknown}
use Rattle.pas_check.specs.Sight.{Sight, denoted_at}

no_truth : {A : Type 0} → false ≡ true → A
no_truth e = absurd (cc)

no_falsehood : {A : Type 0} → true ≡ false → A
no_falsehood e = absurd (cc)

unknown_by : (d : Option Declaration) (at : ℕ) → is_none d ≡ true → meant_by d at ≡ Err (Broken rule.Known at)
unfolding meant_by
unknown_by None at e = refl
unknown_by (Some d) at e = no_truth e

needed_none : (m : Option Meaning) (at : ℕ) → is_none m ≡ true → needed m rule.DeclaredBefore at ≡ Err (Broken rule.DeclaredBefore at)
needed_none None at e = refl
needed_none (Some m) at e = no_truth e

not_ended_by : (d : Option Declaration) (at : ℕ) → holds_of (λ (x : Declaration). is_none x.meaning) d ≡ true → meant_by d at ≡ Err (Broken rule.DeclaredBefore at)
unfolding meant_by
not_ended_by None at e = no_truth e
not_ended_by (Some d) at e = needed_none d.meaning at e

needed_some : (m : Option Meaning) (at : ℕ) → is_none m ≡ false → (x : Meaning) × (needed m rule.DeclaredBefore at ≡ Ok x)
needed_some None at e = no_falsehood e
needed_some (Some m) at e = (m, refl)

known_by : (d : Option Declaration) (at : ℕ) → is_none d ≡ false → holds_of (λ (x : Declaration). is_none x.meaning) d ≡ false → (x : Meaning) × (meant_by d at ≡ Ok x)
unfolding meant_by
known_by None at e f = no_falsehood e
known_by (Some d) at e f = needed_some d.meaning at f

pub unknown_law : (v : Sight) (name : Span) → is_unknown (name_at v.text name) v.blocks ≡ true → meant v name ≡ Err (Broken rule.Known name.start)
unfolding meant
unknown_law v name e = unknown_by (denoted_at v name) name.start e

pub not_ended_law : (v : Sight) (name : Span) → is_not_ended (name_at v.text name) v.blocks ≡ true → meant v name ≡ Err (Broken rule.DeclaredBefore name.start)
unfolding meant
not_ended_law v name e = not_ended_by (denoted_at v name) name.start e

pub known_law : (v : Sight) (name : Span) → is_unknown (name_at v.text name) v.blocks ≡ false → is_not_ended (name_at v.text name) v.blocks ≡ false → (m : Meaning) × (meant v name ≡ Ok m)
unfolding meant
known_law v name e f = known_by (denoted_at v name) name.start e f
