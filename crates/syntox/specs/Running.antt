-- What `run` owes for a source without fault: the text of a run, or the line that there is no input for it. What a source of bytes
-- tells of the input is `None` where it tells nothing.
use Rattle.std.specs.Prelude.{◌≡◌, ℕ, ◌≤◌, ◌<◌, List, length, Option, codes}
use Rattle.std.specs.Option.{ForSome}
use Rattle.control_points.specs.declared.flow.Flow.{Flow}
use Rattle.control_points.specs.Flows.{chart_of}
use Rattle.interp.specs.InputItems.{items_of}
use Rattle.interp.specs.RunText.{IsEnd, run_text}
use Rattle.interp.specs.declared.running.Ended.{Ended}
use Rattle.interp.specs.declared.running.Ending.{Ending}
use Rattle.interp.specs.declared.running.Ending.TheVariants as ending
use Rattle.syntox.specs.Files.{HasFlow, IsFaultless}
use Rattle.syntox.specs.Lines.{IsUnreadable, large_input_line, max_input}
use Rattle.syntox.specs.declared.due.Stream.{Stream}
use Rattle.syntox.specs.declared.due.Stream.TheVariants.{Answers, Complaints}
use Rattle.syntox.specs.declared.status.Status.{Status}
use Rattle.syntox.specs.declared.status.Status.TheVariants.{Done, RunError, OutOfSteps, DataTooLarge}

-- The bytes of the input, where they are told, and they are few enough.
pub record IsInputOf (told : Option (List ℕ)) (bytes : List ℕ) : Type 0 where
  pub given : ForSome told (λ known. bytes ≡ known)
  pub within : length bytes ≤ max_input

-- there are more bytes than an input may have
abbrev pub IsLargeInput : Option (List ℕ) → Type 0
IsLargeInput told = ForSome told (λ bytes. max_input < length bytes)

abbrev pub status_of : Ending → Status
status_of ending.Halted = Done
status_of (ending.Error fault) = RunError
status_of ending.OutOfSteps = OutOfSteps

-- the status of a run, however it ended
abbrev pub IsRunStatus : Status → Type 0
IsRunStatus status = (ending : Ending) × (status ≡ status_of ending)

-- The run of a flow on the bytes of an input, of at most so many steps, ends so: its last state has this output, and its next step
-- is this one.
abbrev pub Ends : Flow → List ℕ → ℕ → Ended → Type 0
Ends flow bytes steps ended = IsEnd (chart_of flow) (items_of bytes) steps ended

-- The text is that of the run of the file's program on the items of the input, of at most so many steps, and the status is
-- that of its end.
pub record IsRun (file : Option (Option (List ℕ))) (input : Option (List ℕ)) (steps : ℕ) (status : Status) (text : List ℕ) : Type 0 where
  pub source : List ℕ
  pub flow : Flow
  pub has_flow : HasFlow file source flow
  pub bytes : List ℕ
  pub is_input : IsInputOf input bytes
  pub ended : Ended
  pub ends : Ends flow bytes steps ended
  pub is_status : status ≡ status_of ended.ending
  pub is_text : text ≡ run_text source ended

-- ---- what is due

-- what the source of the input tells of its bytes, and its counts of faults before and after
pub record Given : Type 0 where
  pub told : Option (List ℕ)
  pub before : ℕ
  pub after : ℕ

abbrev pub input_of : Option (List ℕ) → ℕ → ℕ → Given
input_of told before after = record { told = told; before = before; after = after }

-- What is due for the run of a source without fault: this text goes to this sink, with this status once it was written.
pub data IsRunDue (told : Option (Option (List ℕ))) (input : Given) (steps : ℕ) : Stream → List ℕ → Status → Type 0 where
  unread : {to : Stream} {text : List ℕ} {status : Status} → IsFaultless told
      → IsUnreadable (codes "input") input.before input.after to text status → IsRunDue told input steps to text status
  large : IsFaultless told → IsLargeInput input.told → IsRunDue told input steps Complaints large_input_line DataTooLarge
  ran : {text : List ℕ} {status : Status} → IsRun told input.told steps status text → IsRunDue told input steps Answers text status
