-- The places of variables in the lists of their routines, as they are found.
use Rattle.std.specs.Prelude.{◌≡◌, ℕ, ◌<◌, ◌^◌, All, List, Some, length, nat_eq, slice_get, slice_index, true}
use Rattle.std.specs.List.{position_or_len}
use Rattle.pas_program.specs.declared.type_def.TypeDef.{TypeDef}
use Rattle.pas_program.specs.declared.variable.VarDef.{VarDef}
use Rattle.pas_program.specs.declared.variable.VarKind.{VarKind}
use Rattle.pas_program.specs.declared.variable.VarKind.TheVariants as kind
use Rattle.pas_program.specs.Scopes.{is_distinct}
use Rattle.alias_class.specs.declared.outline.Referent.{Referent}
use Rattle.alias_class.specs.declared.outline.Referent.TheVariants.{Own, Bound}
use Rattle.alias_class.specs.declared.outline.RoutineOutline.{RoutineOutline}
use Rattle.alias_class.specs.declared.outline.VariableOutline.{VariableOutline}
use Rattle.alias_class.specs.Outlines.{outline_at, range_of_type}

-- different numbers of a list that has so many members
pub record IsListed (count : ℕ) (vars : List ℕ) : Type 0 where
  pub below : All (λ v. v < count) vars
  pub distinct : is_distinct vars ≡ true
  pub few : length vars < 2 ^ 32

-- what a name stands for, by the variable's place
abbrev pub ranked : ℕ → VarKind → Referent
ranked rank kind.Var = Bound rank
ranked rank _ = Own rank

abbrev pub ranked_outline : List TypeDef → ℕ → VarDef → VariableOutline
ranked_outline types rank d = record { routine = d.routine; referent = ranked rank d.kind; range = range_of_type types d.of_type }

-- the place of the variable v in the list in which it stands
abbrev pub rank_in : RoutineOutline → ℕ → VarKind → ℕ
rank_in r v kind.Var = position_or_len (λ w. nat_eq v w) r.formals
rank_in r v _ = position_or_len (λ w. nat_eq v w) r.own

-- the places of the variables of the first n routines
pub record AreRanks (vars : List VarDef) (routines : List RoutineOutline) (n : ℕ) (ranks : List ℕ) : Type 0 where
  pub long : length ranks ≡ length vars
  pub each : (v : ℕ) (d : VarDef) → slice_get vars v ≡ Some d → d.routine < n → slice_index ranks v ≡ rank_in (outline_at routines d.routine) v d.kind
