-- What is told of a file: that it is a source with a flow, or which fault it has. What a shelf tells of a file is `None` where it tells
-- nothing, and `Some None` where it tells that there is none.
use Rattle.std.specs.Prelude.{◌≡◌, ℕ, ◌≤◌, ◌<◌, List, [], length, Option}
use Rattle.px_base.specs.Bytes.{ForFile}
use Rattle.control_points.specs.declared.flow.Flow.{Flow}
use Rattle.pas_check.specs.Accepted.{IsProgramOf}
use Rattle.pas_check.specs.Blocks.{IsSound}
use Rattle.pas_check.specs.Fault.{IsWithin}
use Rattle.pas_check.specs.declared.fault.CheckFault.TheVariants.{Wrong}
use Rattle.pas_program.specs.declared.program.Program.{Program}
use Rattle.pas_tree.specs.declared.block.Tree.{Tree}
use Rattle.report.specs.Wording.{fault_line}
use Rattle.report.specs.declared.fault.SourceFault.{SourceFault}
use Rattle.report.specs.declared.fault.SourceFault.TheVariants.{Check, TooLarge}
use Rattle.syntox.specs.Lines.{IsUnreadable, max_source}
use Rattle.syntox.specs.Source.{HasSourceFault, IsFlowOf, IsTreeOf}
use Rattle.syntox.specs.declared.due.Stream.{Stream}
use Rattle.syntox.specs.declared.due.Stream.TheVariants.{Complaints}
use Rattle.syntox.specs.declared.opening.Opening.{Opening}
use Rattle.syntox.specs.declared.opening.Opening.TheVariants.{Source, Line}
use Rattle.syntox.specs.declared.status.Status.{Status}
use Rattle.syntox.specs.declared.status.Status.TheVariants.{Refused}

-- The bytes of the file, where they are told, and they are few enough.
pub record IsSource (told : Option (Option (List ℕ))) (text : List ℕ) : Type 0 where
  pub of_file : ForFile told (λ known. text ≡ known)
  pub within : length text ≤ max_source

-- The file has no fault: it is a source with a flow.
pub record HasFlow (told : Option (Option (List ℕ))) (text : List ℕ) (flow : Flow) : Type 0 where
  pub source : IsSource told text
  pub is_flow : IsFlowOf text flow

-- the same, whichever the source and its flow are
abbrev pub IsFaultless : Option (Option (List ℕ)) → Type 0
IsFaultless told = (text : List ℕ) × (flow : Flow) × HasFlow told text flow

-- The line tells the fault of the file: it is too large, or a source that has the fault.
pub data TellsFault (file : List ℕ) (told : Option (Option (List ℕ))) : List ℕ → Type 0 where
  too_large : ForFile told (λ bytes. max_source < length bytes) → TellsFault file told (fault_line file [] TooLarge)
  of_source : {text : List ℕ} {fault : SourceFault} → IsSource told text → HasSourceFault text fault
      → TellsFault file told (fault_line file text fault)

-- The line tells the first rule of names, types, labels or control variables that the text's tree breaks.
pub record TellsRule (file text line : List ℕ) : Type 0 where
  pub code : ℕ
  pub at : ℕ
  pub tree : Tree
  pub is_tree : IsTreeOf text tree
  pub sound : IsSound text tree (Wrong code at)
  pub within : IsWithin (length text) (Wrong code at)
  pub is : line ≡ fault_line file text (Check (Wrong code at))

-- a text that is no larger than a source may be, and has a tree
pub record HasTree (text : List ℕ) : Type 0 where
  pub within : length text ≤ max_source
  pub tree : Tree
  pub is_tree : IsTreeOf text tree

-- a text that is no larger than a source may be, and that is of a program: its tree breaks no rule
pub record HasProgram (text : List ℕ) : Type 0 where
  pub within : length text ≤ max_source
  pub tree : Tree
  pub is_tree : IsTreeOf text tree
  pub program : Program
  pub is_program : IsProgramOf text tree program

-- ---- what is due for a file that is no source without fault

-- This line goes to this sink, with this status once it was written: the file cannot be read, or has a fault.
pub data IsUnopened (file : List ℕ) (told : Option (Option (List ℕ))) (before after : ℕ) : Stream → List ℕ → Status → Type 0 where
  unread : {to : Stream} {text : List ℕ} {status : Status} → IsUnreadable file before after to text status
      → IsUnopened file told before after to text status
  faulty : {line : List ℕ} → TellsFault file told line → IsUnopened file told before after Complaints line Refused

-- what a command has of the file
abbrev pub IsOpening : List ℕ → Option (Option (List ℕ)) → ℕ → ℕ → Opening → Type 0
IsOpening file told before after (Source text flow) = HasFlow told text.items flow
IsOpening file told before after (Line due) = IsUnopened file told before after due.to due.text.items due.status
