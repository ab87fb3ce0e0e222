-- What a run of at most so many steps comes to, and the text that tells it.
use Rattle.std.specs.Prelude.{◌≡◌, ℕ, ◌-◌, ◌≤◌, ◌==◌, List, [], ◌∷◌, ◌++◌, length, codes, decimal, Option, Some, None, slice_get, if◌then◌else◌}
use Rattle.px_base.specs.declared.kind.Kind.{Kind}
use Rattle.px_base.specs.declared.kind.Kind.TheVariants as kind
use Rattle.px_base.specs.declared.place.Pos.{Pos}
use Rattle.px_base.specs.Place.{place_at}
use Rattle.control_points.specs.declared.fault.Fault.{Fault}
use Rattle.control_points.specs.declared.item.Item.{Item}
use Rattle.control_points.specs.Chart.{Chart}
use Rattle.control_points.specs.Output.{line_feed}
use Rattle.control_points.specs.Runs.{at}
use Rattle.control_points.specs.States.{State}
use Rattle.control_points.specs.Steps.{Progress, moves, halts, fails, next}
use Rattle.interp.specs.declared.running.Ended.{Ended}
use Rattle.interp.specs.declared.running.Ending.{Ending}
use Rattle.interp.specs.declared.running.Ending.TheVariants.{Halted, Error, OutOfSteps}

-- ---- the end

-- the next step from the last state, by the ending; a run is out of steps only where it could go on
abbrev pub Ends : Progress → ℕ → ℕ → Ending → Type 0
Ends progress limit steps Halted = progress ≡ halts
Ends progress limit steps (Error f) = progress ≡ fails f
Ends progress limit steps OutOfSteps = (steps ≡ limit) × (s : State) × (progress ≡ moves s)

-- A run on an input ends so: its last state with at most `limit` steps before it is the one after `steps` steps, it has this
-- output, and what its next step is.
pub record IsEnd (c : Chart) (items : List Item) (limit : ℕ) (e : Ended) : Type 0 where
  pub state : State
  pub reached : at c items e.steps ≡ Some state
  pub within : e.steps ≤ limit
  pub output : e.output.items ≡ state.output
  pub ends : Ends (next c state) limit e.steps e.ending

-- it was made with at most `limit` steps, and ran out of them only after as many
pub record IsBounded (limit : ℕ) (e : Ended) : Type 0 where
  pub within : e.steps ≤ limit
  pub out_of_steps : e.ending ≡ OutOfSteps → e.steps ≡ limit

-- ---- the text

-- the words for a kind of error
abbrev pub kind_text : Kind → List ℕ
kind_text kind.Overflow = codes "overflow"
kind_text kind.DivisionByZero = codes "division by zero"
kind_text kind.ModulusNotPositive = codes "modulus not positive"
kind_text kind.UndefinedValue = codes "undefined value"
kind_text kind.IndexOutOfRange = codes "index out of range"
kind_text kind.ValueOutOfRange = codes "value out of range"
kind_text kind.NoCaseLabel = codes "no case label"
kind_text kind.NoNeighbour = codes "no successor or predecessor"
kind_text kind.NoNumber = codes "no number to read"
kind_text kind.WidthOutOfRange = codes "width out of range"
kind_text kind.NoResult = codes "no function result"
kind_text kind.Assertion = codes "assertion"

-- line and column of an error
abbrev pub error_place : Pos → List ℕ
error_place p = codes "-- error " ++ decimal p.line ++ codes ":" ++ decimal p.col ++ codes " "

-- a run error, at its place in the source
abbrev pub error_line : List ℕ → Fault → List ℕ
error_line source f = (error_place (place_at source f.at) ++ kind_text f.kind) ++ codes "\n"

-- the line that says how a run of the program with this source ended
abbrev pub last_line : List ℕ → ℕ → Ending → List ℕ
last_line source steps Halted = codes "-- halted after " ++ decimal steps ++ codes " steps\n"
last_line source steps (Error f) = error_line source f
last_line source steps OutOfSteps = codes "-- out of steps after " ++ decimal steps ++ codes "\n"

-- what is still to be written to end the line of the last byte
abbrev pub line_end : Option ℕ → List ℕ
line_end None = []
line_end (Some byte) = if byte == line_feed then [] else line_feed ∷ []

-- the output with its last line ended
abbrev pub closed : List ℕ → List ℕ
closed bytes = bytes ++ line_end (slice_get bytes (length bytes - 1))

-- what the user is shown of a run
abbrev pub run_text : List ℕ → Ended → List ℕ
run_text source e = closed e.output.items ++ last_line source e.steps e.ending

-- the status of the command
abbrev pub status_of : Ending → ℕ
status_of Halted = 0
status_of (Error f) = 6
status_of OutOfSteps = 7
