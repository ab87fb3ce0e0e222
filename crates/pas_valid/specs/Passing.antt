-- What is asked of each part of a program when its validity is decided.
use Rattle.std.specs.Prelude.{ℕ, ◌+◌, Bool, true, ◌&&◌, List, length, nat_eq, nat_lt, slice_get}
use Rattle.pas_program.specs.Each.{Rule}
use Rattle.pas_program.specs.Labels.{all_differ}
use Rattle.pas_program.specs.Scopes.{scope_rule}
use Rattle.pas_program.specs.Size.{Inner, body_sum_step, arm_sum_step, statement_sum_step}
use Rattle.pas_program.specs.Tables.{Tables, tables_of, holds_of, is_around, is_own}
use Rattle.pas_program.specs.Typed.{Hosted, Reached, type_of_var}
use Rattle.pas_program.specs.Types.{is_scalar}
use Rattle.pas_program.specs.declared.routine.Assert.{Assert}
use Rattle.pas_program.specs.declared.statement.Arm.{Arm}
use Rattle.pas_program.specs.declared.statement.Body.{Body}
use Rattle.pas_program.specs.declared.statement.Body.TheFolds.{fold-Arm, fold-Body}
use Rattle.pas_program.specs.declared.variable.VarKind.TheVariants as kind
use Rattle.pas_valid.specs.Standing.{Labels, has_label}
use Rattle.pas_valid.specs.declared.ground.Ground.{Ground}

-- what the numbers of the parts stand for
abbrev pub known : Ground → Tables
known g = tables_of g.types.now g.vars.now g.routines.now

-- What stands in routine r sees what it uses; a function is called only where calls may stand; a control variable is a scalar
-- local of r; a `goto` leaves for a label that its routine has; the constants of a `case` differ; an assertion is of r; and there
-- are so many routines.
abbrev pub placed_by : Tables → ℕ → List Labels → List Assert → Bool → ℕ → Rule
placed_by t routines labels asserts calls r = record (scope_rule t r) {
  call = λ s slot. calls && (scope_rule t r).call s slot;
  loop = λ control bound. (is_own t r kind.Local control && is_scalar (type_of_var t control)) && (scope_rule t r).loop control bound;
  jump = λ s label. (nat_lt s routines && is_around t r s) && has_label labels s label;
  assertion = λ a. holds_of (λ (d : Assert). nat_eq d.routine r) (slice_get asserts a);
  choice = all_differ;
}

-- the same for the routine at hand
abbrev pub placed : Ground → Rule
placed g = placed_by (known g) (length g.routines.now) g.labels.now g.asserts.now g.calls g.routine

-- an expression whose types fit has this host
abbrev pub of_host : Bool → Hosted
of_host b = record { fits = true; boolean = b }

-- an access whose types fit reaches this type
abbrev pub of_type : ℕ → Reached
of_type n = record { fits = true; of_type = n }

-- the parts of a body, and those of the statements in it
abbrev pub body_inner : Body → Inner
body_inner = fold-Body Inner ℕ ℕ body_sum_step arm_sum_step (statement_sum_step (λ label asserts parts. 1 + parts))

abbrev pub body_size : Body → ℕ
body_size b = (body_inner b).parts + (body_inner b).total

-- the parts of an arm
abbrev pub arm_size : Arm → ℕ
arm_size = fold-Arm Inner ℕ ℕ body_sum_step arm_sum_step (statement_sum_step (λ label asserts parts. 1 + parts))
