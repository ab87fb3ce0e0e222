-- What is built of the program on the way: its variables and its assertions so far, each with the next number; the routines whose
-- blocks have ended; and the routine whose block is at hand.
use Rattle.std.specs.Prelude.{ℕ, List, [], ◌∷◌, ◌++◌, length, Option, Some, None, Ok, Err}
use Rattle.px_base.specs.declared.place.Span.{Span}
use Rattle.pas_program.specs.declared.routine.Routine.{Routine}
use Rattle.pas_program.specs.declared.statement.Statement.{Statement}
use Rattle.pas_program.specs.declared.variable.VarDef.{VarDef}
use Rattle.pas_program.specs.declared.variable.VarKind.{VarKind}
use Rattle.pas_program.specs.declared.variable.VarKind.TheVariants as kind
use Rattle.pas_check.specs.declared.built.Built.{Built}
use Rattle.pas_check.specs.declared.frame.Frame.{Frame}
use Rattle.pas_check.specs.Outcome.{Outcome}

-- A part of the program that is built where its tree breaks no rule, with what is built after it.
abbrev pub Builds : Type 0 → Type 0
Builds A = Built → Option (A × Built)

infixl 10 ◌>>=◌
abbrev pub ◌>>=◌ : {A B : Type 0} → Option A → (A → Option B) → Option B
None >>= f = None
(Some a) >>= f = f a

-- where no rule is broken
abbrev pub allowed : {A : Type 0} → Outcome A → Option A
allowed (Ok a) = Some a
allowed (Err f) = None

-- one part after the other
abbrev pub in_order : {A B : Type 0} → (A → Builds B) → List A → Builds (List B)
in_order form [] b = Some ([], b)
in_order form (x ∷ rest) b = do
  y ← form x b
  ys ← in_order form rest y.1
  Some (y.0 ∷ ys.0, ys.1)

-- ---- variables

abbrev pub variable_of : Span → ℕ → VarKind → ℕ → VarDef
variable_of name routine kind t = record { name = name; routine = routine; kind = kind; of_type = t; place = name.start }

-- a new variable gets the next number
abbrev pub with_variable : VarDef → Built → Built
with_variable x b = record b { vars = b.vars ++ x ∷ [] }

-- a variable that is no parameter and no result, by its number
abbrev pub taken : VarKind → ℕ → Frame → Frame
taken kind.Slot n f = record f { slots = f.slots ++ n ∷ [] }
taken kind.Bound n f = record f { bounds = f.bounds ++ n ∷ [] }
taken _ n f = record f { locals = f.locals ++ n ∷ [] }

-- a new variable of the routine at hand
abbrev pub with_own : Span → VarKind → ℕ → Built → Built
with_own name kind t b = record b { vars = b.vars ++ variable_of name b.frame.routine kind t ∷ []; frame = taken kind (length b.vars) b.frame }

-- ---- routines

abbrev pub frame_of : Span → ℕ → Option ℕ → ℕ → List ℕ → Option ℕ → Frame
frame_of name routine parent level formals result = record {
  name = name;
  routine = routine;
  parent = parent;
  level = level;
  formals = formals;
  result = result;
  locals = [];
  slots = [];
  bounds = [];
}

abbrev pub listed : Option ℕ → List ℕ
listed None = []
listed (Some n) = n ∷ []

-- all its variables: parameters, locals, the result, slots and bounds in this order, each kind in the order of the text
abbrev pub variables_in : Frame → List ℕ
variables_in f = f.formals ++ (f.locals ++ (listed f.result ++ (f.slots ++ f.bounds)))

-- the routine of a block that has ended, with the names that it declares beside its variables
abbrev pub finished : Frame → List Span → Statement → Routine
finished f names body = record { name = f.name; parent = f.parent; level = f.level; names = names; formals = f.formals; vars = variables_in f; result = f.result; body = body }

abbrev pub with_routine : Frame → List Span → Statement → Built → Built
with_routine f names body b = record b { routines = b.routines ++ finished f names body ∷ [] }

-- nothing is built so far, and a block is at hand
abbrev pub nothing_built : Frame → Built
nothing_built f = record { vars = []; routines = []; asserts = []; frame = f }
