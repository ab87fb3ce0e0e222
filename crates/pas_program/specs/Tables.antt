-- What the numbers in an expression or a statement stand for, and which routines stand around one.
use Rattle.std.specs.Prelude.{◌≡◌, ℕ, zero, suc, Bool, true, false, ◌&&◌, ◌||◌, nat_eq, List, Option, Some, None, slice_get}
use Rattle.std.specs.Option.{option_map}
use Rattle.pas_program.specs.declared.routine.Routine.{Routine}
use Rattle.pas_program.specs.declared.type_def.TypeDef.{TypeDef}
use Rattle.pas_program.specs.declared.variable.VarDef.{VarDef}
use Rattle.pas_program.specs.declared.variable.VarKind.{VarKind}
use Rattle.pas_program.specs.declared.variable.VarKind.TheVariants as kind

-- a routine as its callers see it
pub record Head : Type 0 where
  pub parent : Option ℕ
  pub level : ℕ
  pub formals : List ℕ
  pub result : Option ℕ

-- Each number is looked up by a function, so that tables that are still being filled count too.
pub record Tables : Type 0 where
  pub type_at : ℕ → Option TypeDef
  pub var_at : ℕ → Option VarDef
  pub head_at : ℕ → Option Head

abbrev pub head_of : Routine → Head
head_of r = record { parent = r.parent; level = r.level; formals = r.formals; result = r.result }

abbrev pub tables_of : List TypeDef → List VarDef → List Routine → Tables
tables_of types vars routines = record { type_at = slice_get types; var_at = slice_get vars; head_at = λ r. option_map head_of (slice_get routines r) }

-- whatever the first tables know, the second know too, and say the same of it
pub record Grows (t u : Tables) : Type 0 where
  pub types : (k : ℕ) (d : TypeDef) → t.type_at k ≡ Some d → u.type_at k ≡ Some d
  pub vars : (k : ℕ) (d : VarDef) → t.var_at k ≡ Some d → u.var_at k ≡ Some d
  pub heads : (k : ℕ) (d : Head) → t.head_at k ≡ Some d → u.head_at k ≡ Some d

-- what is known of a thing that may be missing
abbrev pub holds_of : {A : Type 0} → (A → Bool) → Option A → Bool
holds_of p None = false
holds_of p (Some x) = p x

-- whether s is r or around it, where r has at most so many routines around it
abbrev pub leads_within : ℕ → Tables → ℕ → ℕ → Bool
leads_within zero t r s = nat_eq r s
leads_within (suc steps) t r s = nat_eq r s || holds_of (λ h. holds_of (λ p. leads_within steps t p s) h.parent) (t.head_at r)

-- the level of a routine is the number of routines around it
abbrev pub is_around : Tables → ℕ → ℕ → Bool
is_around t r s = holds_of (λ h. leads_within h.level t r s) (t.head_at r)

-- whether a variable is one of routine r and of the kind
abbrev pub is_kind : VarKind → VarKind → Bool
is_kind kind.Local kind.Local = true
is_kind kind.Value kind.Value = true
is_kind kind.Var kind.Var = true
is_kind kind.Result kind.Result = true
is_kind kind.Slot kind.Slot = true
is_kind kind.Bound kind.Bound = true
is_kind _ _ = false

abbrev pub is_own : Tables → ℕ → VarKind → ℕ → Bool
is_own t r k v = holds_of (λ d. nat_eq d.routine r && is_kind k d.kind) (t.var_at v)

-- whether a variable is one of routine r or of one around it
abbrev pub is_visible : Tables → ℕ → ℕ → Bool
is_visible t r v = holds_of (λ d. is_around t r d.routine) (t.var_at v)

-- whether the routine s is declared in the block of r or of one around it
abbrev pub is_callable : Tables → ℕ → ℕ → Bool
is_callable t r s = holds_of (λ h. holds_of (λ p. is_around t r p) h.parent) (t.head_at s)
