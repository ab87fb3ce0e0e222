-- Where in the list of scalars the variables of a state lie: those of the activations one after another, those of a variable in the
-- order of the values of its subscripts.
use Rattle.std.specs.Prelude.{◌≡◌, ℕ, ◌+◌, ◌*◌, false, List, [], ◌∷◌, ℤ, ◌-ℤ◌, unsigned_abs, Option, Some, None, Ok, slice_get, if◌then◌else◌}
use Rattle.std.specs.Option.{option_map}
use Rattle.px_base.specs.declared.kind.Kind.TheVariants.{IndexOutOfRange}
use Rattle.pas_program.specs.declared.program.Program.{Program}
use Rattle.pas_program.specs.declared.type_def.TypeDef.{TypeDef}
use Rattle.pas_program.specs.declared.type_def.TypeDef.TheVariants.{Scalar, Array}
use Rattle.pas_program.specs.declared.variable.VarDef.{VarDef}
use Rattle.pas_program.specs.declared.variable.VarKind.TheVariants as kind
use Rattle.pas_program.specs.Tables.{is_kind}
use Rattle.control_points.specs.Evaluation.{Answer, fault, is_value_of}
use Rattle.control_points.specs.Storage.{Place}
use Rattle.interp.specs.declared.frame.Frame.{Frame}
use Rattle.interp.specs.Layouts.{count_of, extent_before}

-- which value of a scalar type a number is, counted from 0
abbrev pub ordinal : Option TypeDef → ℤ → ℕ
ordinal (Some (Scalar boolean lo hi)) z = unsigned_abs (z -ℤ lo)
ordinal _ z = 0

-- the same of a subscript, which must be a value of the index type
abbrev pub place_in : Option TypeDef → ℤ → ℕ → Answer ℕ
place_in d z at = if is_value_of d z then Ok (ordinal d z) else fault IndexOutOfRange at

-- a part of a variable: how many scalars stand before it, and its type
pub record Part : Type 0 where
  pub offset : ℕ
  pub of_type : ℕ

abbrev pub further : ℕ → Part → Part
further n part = record { offset = n + part.offset; of_type = part.of_type }

-- one subscript at a type; `rest` is the part of the element
abbrev pub part_in : Program → ℤ → (ℕ → Option Part) → Option TypeDef → Option Part
part_in p z rest (Some (Array index element)) =
    if is_value_of (slice_get p.types index) z then option_map (further (ordinal (slice_get p.types index) z * count_of p element)) (rest element) else None
part_in p z rest _ = None

-- the part of a variable of type n to which subscripts lead
abbrev pub part_of : Program → ℕ → List ℤ → Option Part
part_of p n [] = Some (record { offset = 0; of_type = n })
part_of p n (z ∷ zs) = part_in p z (λ e. part_of p e zs) (slice_get p.types n)

-- What is at a place has the type t and begins at the scalar a.
pub record Lies (p : Program) (frames : List Frame) (q : Place) (a t : ℕ) : Type 0 where
  pub frame : Frame
  pub var : VarDef
  pub offset : ℕ
  pub activation : slice_get frames q.depth ≡ Some frame
  pub known : slice_get p.vars q.var ≡ Some var
  pub own : var.routine ≡ frame.routine
  pub no_link : is_kind kind.Var var.kind ≡ false
  pub part : part_of p var.of_type q.subscripts ≡ Some (record { offset = offset; of_type = t })
  pub address : a ≡ frame.base.scalars + (extent_before p var.routine q.var).scalars + offset
