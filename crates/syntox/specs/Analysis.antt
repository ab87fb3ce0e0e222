-- What `analyse` owes for a source without fault: the report of its analysis, or the line that its unfolding has too many cells.
use Rattle.std.specs.Prelude.{◌≡◌, ℕ, ◌≤◌, Bool, List, length, Option}
use Rattle.activations.specs.Drawn.{Drawn, IsUnfolding}
use Rattle.activations.specs.Unfolding.{IsTooMany, unfolding_of}
use Rattle.alias_class.specs.Classes.{Class}
use Rattle.alternation.specs.Solved.{IsPlain}
use Rattle.control_points.specs.declared.flow.Flow.{Flow}
use Rattle.report.specs.Report.{report_text}
use Rattle.report.specs.Wording.{fault_line}
use Rattle.report.specs.declared.fault.SourceFault.TheVariants.{Cells}
use Rattle.transfer_fwd.specs.Forward.{Table}
use Rattle.syntox.specs.Files.{HasFlow}
use Rattle.syntox.specs.Lines.{max_source}
use Rattle.syntox.specs.Source.{IsFlowOf}
use Rattle.syntox.specs.declared.due.Stream.{Stream}
use Rattle.syntox.specs.declared.due.Stream.TheVariants.{Answers, Complaints}
use Rattle.syntox.specs.declared.status.Status.{Status}
use Rattle.syntox.specs.declared.status.Status.TheVariants.{Done, Refused}

-- The text is the report of the file, with or without what is known at each point: that of the flow of its bytes, over the graph that is
-- the flow's unfolding, by the table of what holds whenever a run stands at a node.
pub record IsReport (file : List ℕ) (points : Bool) (told : Option (Option (List ℕ))) (text : List ℕ) : Type 0 where
  pub source : List ℕ
  pub flow : Flow
  pub has_flow : HasFlow told source flow
  pub graph : Drawn
  pub is_unfolding : IsUnfolding flow graph
  pub table : Table
  pub is_plain : IsPlain flow graph table
  pub is : text ≡ report_text source flow graph table table file points

-- The line tells that the file's unfolding is too large, and how many cells the first classes have where they pass the limit.
pub record TellsCells (file : List ℕ) (told : Option (Option (List ℕ))) (line : List ℕ) : Type 0 where
  pub source : List ℕ
  pub flow : Flow
  pub has_flow : HasFlow told source flow
  pub classes : List Class
  pub cells : ℕ
  pub too_many : IsTooMany (unfolding_of flow classes) cells
  pub is : line ≡ fault_line file source (Cells cells)

-- a text that is no larger than a source may be and has a flow, whose unfolding isn't too large
pub record CanBeAnalysed (text : List ℕ) : Type 0 where
  pub within : length text ≤ max_source
  pub flow : Flow
  pub is_flow : IsFlowOf text flow
  pub few : (classes : List Class) (cells : ℕ) → ¬ IsTooMany (unfolding_of flow classes) cells

-- What is due for the analysis of a source without fault: this text goes to this sink, with this status once it was written.
pub data IsAnalysed (file : List ℕ) (points : Bool) (told : Option (Option (List ℕ))) : Stream → List ℕ → Status → Type 0 where
  large : {line : List ℕ} → TellsCells file told line → IsAnalysed file points told Complaints line Refused
  report : {text : List ℕ} → IsReport file points told text → IsAnalysed file points told Answers text Done
