-- What the program owes for its words, and why.
use Rattle.std.specs.Prelude.{◌≡◌, ℕ, Bool, List, Option, Some, None}
use Rattle.px_base.specs.Bytes.{AddsPrefix}
use Rattle.px_base.specs.Faults.{Rose}
use Rattle.syntox.specs.Analysis.{IsAnalysed}
use Rattle.syntox.specs.Command.{Asked, analysis_of, run_of, file_of}
use Rattle.syntox.specs.Files.{IsUnopened}
use Rattle.syntox.specs.Lines.{usage_line}
use Rattle.syntox.specs.Running.{Given, IsRunDue}
use Rattle.syntox.specs.Sinks.{Sinks}
use Rattle.syntox.specs.declared.due.Stream.{Stream}
use Rattle.syntox.specs.declared.due.Stream.TheVariants.{Answers, Complaints}
use Rattle.syntox.specs.declared.status.Status.{Status}
use Rattle.syntox.specs.declared.status.Status.TheVariants.{Usage}

-- What the shelf tells of each file, its counts of faults before and after, and the same of the source of the input.
pub record Outside : Type 0 where
  pub files : List ℕ → Option (Option (List ℕ))
  pub before : ℕ
  pub after : ℕ
  pub input : Given

abbrev pub outside : (List ℕ → Option (Option (List ℕ))) → ℕ → ℕ → Given → Outside
outside files before after input = record { files = files; before = before; after = after; input = input }

-- What is due for the words: this text goes to this sink, with this status once it was written.
pub data IsDue (o : Outside) : Option Asked → Stream → List ℕ → Status → Type 0 where
  usage : IsDue o None Complaints usage_line Usage
  unopened : {asks : Asked} {to : Stream} {text : List ℕ} {status : Status}
      → IsUnopened (file_of asks) (o.files (file_of asks)) o.before o.after to text status → IsDue o (Some asks) to text status
  analysed : {file : List ℕ} {points : Bool} {to : Stream} {text : List ℕ} {status : Status}
      → IsAnalysed file points (o.files file) to text status → IsDue o (Some (analysis_of file points)) to text status
  run : {file : List ℕ} {steps : ℕ} {to : Stream} {text : List ℕ} {status : Status}
      → IsRunDue (o.files file) o.input steps to text status → IsDue o (Some (run_of file steps)) to text status

-- ---- for each command

-- The words ask for an analysis of which the first holds, or for a run of which the second does.
abbrev pub ForCommand : Option Asked → (List ℕ → Bool → Type 0) → (List ℕ → ℕ → Type 0) → Type 0
ForCommand None P Q = ⊥
ForCommand (Some (analysis_of file points)) P Q = P file points
ForCommand (Some (run_of file steps)) P Q = Q file steps

-- The words ask for a run, and this holds of it.
abbrev pub ForRun : Option Asked → (List ℕ → ℕ → Type 0) → Type 0
ForRun asked Q = ForCommand asked (λ file points. ⊥) Q

-- ---- a sink that failed

-- The sink to which the text is due failed and has a prefix of it. The other sink is as it was.
abbrev pub IsCut : Stream → List ℕ → Sinks → Type 0
IsCut Answers text s =
    Rose s.out_before.faults s.out_after.faults × AddsPrefix s.out_before.taken s.out_after.taken text × (s.err_after ≡ s.err_before)
IsCut Complaints text s =
    Rose s.err_before.faults s.err_after.faults × AddsPrefix s.err_before.taken s.err_after.taken text × (s.out_after ≡ s.out_before)

pub record Cuts (o : Outside) (asked : Option Asked) (s : Sinks) : Type 0 where
  pub to : Stream
  pub text : List ℕ
  pub meant : Status
  pub is_due : IsDue o asked to text meant
  pub is_cut : IsCut to text s
