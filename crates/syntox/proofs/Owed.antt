-- What is due, step by step.
use Rattle.std.proofs.Common.{◌≡◌, ◌⊎◌, inl, inr, ℕ, Bool, List, Option, Some, None, Result, Ok, Err, IfOk, map, option_map, refl, ap, sym, subst, ◌∙◌}
use Rattle.std.specs.Option.{ForSome}
use Rattle.std.specs.Prelude.{Vec}
use Rattle.std.specs.declared.alloc.AllocError.{AllocError}
use Rattle.std.specs.declared.alloc.Global.{Global}
use Rattle.px_base.specs.Faults.{HasCause, Rose}
use Rattle.px_base.specs.Reading.{is_fault}
use Rattle.px_base.specs.declared.reading.ReadEnd.{ReadEnd}
use Rattle.px_base.specs.declared.reading.ReadEnd.TheVariants.{Failed}
use Rattle.activations.specs.Drawn.{Drawn, IsUnfolding}
use Rattle.alternation.specs.Solved.{IsPlain}
use Rattle.control_points.specs.declared.flow.Flow.{Flow}
use Rattle.report.specs.Report.{report_text}
use Rattle.transfer_fwd.specs.Forward.{Table}
use Rattle.syntox.specs.Analysis.{IsAnalysed, IsReport}
use Rattle.syntox.specs.Analysis as analysis
use Rattle.syntox.specs.Answers.{IsDue, Outside}
use Rattle.syntox.specs.Answers as answers
use Rattle.syntox.specs.Command.{Asked, analysis_of, asked_of, file_of, run_of}
use Rattle.syntox.specs.Command as words
use Rattle.syntox.specs.Files.{HasFlow, IsUnopened}
use Rattle.syntox.specs.Running.{Given, IsRun, IsRunDue}
use Rattle.syntox.specs.Running as running
use Rattle.syntox.specs.declared.command.Command.{Command}
use Rattle.syntox.specs.declared.due.Due.{Due}
use Rattle.syntox.specs.declared.due.Stream.{Stream}
use Rattle.syntox.specs.declared.due.Stream.TheVariants.{Answers, Complaints}
use Rattle.syntox.specs.declared.status.Status.{Status}
use Rattle.syntox.specs.declared.status.Status.TheVariants.{Done}

-- ---- texts that were made

pub if_ok : {A E : Type 0} (P Q : A → Type 0) (result : Result A E) → ((a : A) → P a → Q a) → IfOk result P → IfOk result Q
if_ok P Q (Ok a) step is = step a is
if_ok P Q (Err e) step is = is

-- what is due for the command itself, or for a file that isn't opened
pub owed : (P Q : Stream → List ℕ → Status → Type 0) (result : Result Due AllocError) → IfOk result (λ due. P due.to due.text.items due.status)
    → IfOk result (λ due. P due.to due.text.items due.status ⊎ Q due.to due.text.items due.status)
owed P Q (Ok due) is = inl is
owed P Q (Err e) is = is

-- what holds of a sink, a text and a status holds of what is due
pub as_due : (P : Stream → List ℕ → Status → Type 0) (to : Stream) (text : List ℕ) (status : Status) (due : Due) → P to text status
    → due.to ≡ to → due.text.items ≡ text → due.status ≡ status → P due.to due.text.items due.status
as_due P to text status due is to_is text_is status_is =
    subst (λ t. P t due.text.items due.status) (sym to_is) (subst (λ x. P to x due.status) (sym text_is) (subst (λ m. P to text m) (sym status_is) is))

-- a line that was made is the one that is due
pub lined : (P : Stream → List ℕ → Status → Type 0) (line : List ℕ) (meant : Status) (result : Result Due AllocError) → P Complaints line meant
    → IfOk result (λ due. due.to ≡ Complaints) → IfOk result (λ due. due.text.items ≡ line) → IfOk result (λ due. due.status ≡ meant)
    → IfOk result (λ due. P due.to due.text.items due.status)
lined P line meant (Ok due) is to text status = as_due P Complaints line meant due is to text status
lined P line meant (Err e) is to text status = to

-- the report that was made is the file's
pub report_made : (file source text : List ℕ) (points : Bool) (told : Option (Option (List ℕ))) (flow solved_flow : Flow) (graph solved_graph : Drawn) (table plain way : Table)
    → HasFlow told source flow → IsUnfolding flow graph → solved_flow ≡ flow → solved_graph ≡ graph → IsPlain solved_flow solved_graph table → plain ≡ table → way ≡ table
    → text ≡ report_text source flow graph plain way file points → IsReport file points told text
report_made file source text points told flow solved_flow graph solved_graph table plain way has unfolded of_flow of_graph solved is_plain is_way is = record {
  source = source;
  flow = flow;
  has_flow = has;
  graph = graph;
  is_unfolding = unfolded;
  table = table;
  is_plain = subst (λ f. IsPlain f graph table) of_flow (subst (λ g. IsPlain solved_flow g table) of_graph solved);
  is = is ∙ ap (λ p. report_text source flow graph p way file points) is_plain ∙ ap (λ w. report_text source flow graph table w file points) is_way;
}

-- a report that was made is the one that is due
pub reported : (file : List ℕ) (points : Bool) (told : Option (Option (List ℕ))) (result : Result Due AllocError)
    → IfOk result (λ due. due.to ≡ Answers) → IfOk result (λ due. IsReport file points told due.text.items) → IfOk result (λ due. due.status ≡ Done)
    → IfOk result (λ due. IsAnalysed file points told due.to due.text.items due.status)
reported file points told (Ok due) to is status =
    as_due (IsAnalysed file points told) Answers due.text.items Done due (analysis.report is) to refl status
reported file points told (Err e) to is status = to

-- the outside failed where this is the answer
pub failed : (before after : ℕ) (e : ReadEnd) → e ≡ Failed → HasCause before after (is_fault {T = Vec ℕ Global} (Err e)) → Rose before after
failed before after e is cause = (subst (λ x. HasCause before after (is_fault {T = Vec ℕ Global} (Err x))) is cause).rose

-- the bytes of an input that was read are those that are told
pub ran_on_input : (told : Option (Option (List ℕ))) (bytes : List ℕ) (steps : ℕ) (input : Given) (result : Result Due AllocError) → ForSome input.told (λ known. bytes ≡ known)
    → IfOk result (λ due. due.to ≡ Answers) → IfOk result (λ due. IsRun told (Some bytes) steps due.status due.text.items)
    → IfOk result (λ due. IsRunDue told input steps due.to due.text.items due.status)
ran_on_input told bytes steps input (Ok due) read to is =
    subst (λ t. IsRunDue told input steps t due.text.items due.status) (sym to) (running.ran (record {
      source = is.source;
      flow = is.flow;
      has_flow = is.has_flow;
      bytes = is.bytes;
      is_input = record { given = λ known e. is.is_input.given bytes refl ∙ read known e; within = is.is_input.within };
      ended = is.ended;
      ends = is.ends;
      is_status = is.is_status;
      is_text = is.is_text;
    }))
ran_on_input told bytes steps input (Err e) read to is = to

-- ---- what the words ask for

pub asks_for : {A : Type 0} (of : A → List ℕ) (all given : List A) (command known : Command) → given ≡ all → command ≡ known
    → option_map words.told (Some command) ≡ asked_of (map of given) → asked_of (map of all) ≡ Some (words.told known)
asks_for of all given command known same is e =
    sym (subst (λ ws. Some (words.told known) ≡ asked_of (map of ws)) same (subst (λ k. Some (words.told k) ≡ asked_of (map of given)) is e))

pub asks_for_none : {A : Type 0} (of : A → List ℕ) (all given : List A) → given ≡ all → None ≡ asked_of (map of given) → asked_of (map of all) ≡ None
asks_for_none of all given same e = sym (subst (λ ws. None ≡ asked_of (map of ws)) same e)

module _ (o : Outside) (asked : Option Asked) (result : Result Due AllocError) where
  abbrev Due_is : Type 0
  Due_is = IfOk result (λ due. IsDue o asked due.to due.text.items due.status)

  -- what is due for the command itself, or for a file that isn't opened
  due_of : (asks : Asked) (P : Stream → List ℕ → Status → Type 0) → asked ≡ Some asks
      → ((to : Stream) (text : List ℕ) (status : Status) → P to text status → IsDue o (Some asks) to text status)
      → IfOk result (λ due. P due.to due.text.items due.status
      ⊎ IsUnopened (file_of asks) (o.files (file_of asks)) o.before o.after due.to due.text.items due.status) → Due_is
  due_of asks P is own =
      if_ok (λ due. P due.to due.text.items due.status ⊎ IsUnopened (file_of asks) (o.files (file_of asks)) o.before o.after due.to due.text.items due.status)
      (λ due. IsDue o asked due.to due.text.items due.status) result
      (λ due either. subst (λ a. IsDue o a due.to due.text.items due.status) (sym is)
      (elim either as (λ _. IsDue o (Some asks) due.to due.text.items due.status) [
        | inl p ↦ own due.to due.text.items due.status p
        | inr u ↦ answers.unopened {asks = asks} u
      ]))

  pub analysis_due : (file : List ℕ) (points : Bool) → asked ≡ Some (analysis_of file points)
      → IfOk result (λ due. IsAnalysed file points (o.files file) due.to due.text.items due.status
      ⊎ IsUnopened file (o.files file) o.before o.after due.to due.text.items due.status) → Due_is
  analysis_due file points is = due_of (analysis_of file points) (IsAnalysed file points (o.files file)) is (λ to text status a. answers.analysed a)

  pub run_due : (file : List ℕ) (steps : ℕ) → asked ≡ Some (run_of file steps)
      → IfOk result (λ due. IsRunDue (o.files file) o.input steps due.to due.text.items due.status
      ⊎ IsUnopened file (o.files file) o.before o.after due.to due.text.items due.status) → Due_is
  run_due file steps is = due_of (run_of file steps) (IsRunDue (o.files file) o.input steps) is (λ to text status r. answers.run r)
