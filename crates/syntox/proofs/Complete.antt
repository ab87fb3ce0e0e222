-- What comes where no count of faults rose.
use Rattle.std.proofs.Common.{◌≡◌, ◌⊎◌, inl, inr, ℕ, Bool, ◌≤◌, List, length, Some, Ok, refl, sym, subst, ◌∙◌, arith}
use Rattle.px_base.specs.Faults.{Rose}
use Rattle.activations.specs.Unfolding.{IsTooMany, unfolding_of}
use Rattle.control_points.specs.declared.flow.Flow.{Flow}
use Rattle.pas_lexer.specs.Covering.{HasTokens, HasFault}
use Rattle.pas_lexer.specs.declared.fault.LexFault.{LexFault}
use Rattle.pas_lexer.specs.declared.token.Token.{Token}
use Rattle.pas_check.specs.Accepted.{IsProgramOf}
use Rattle.pas_check.specs.Blocks.{IsFirstBroken}
use Rattle.pas_check.specs.declared.fault.CheckFault.TheVariants.{Wrong}
use Rattle.pas_check.specs.declared.fault.Rule.{Rule}
use Rattle.pas_parser.specs.Program.{program}
use Rattle.pas_program.specs.declared.program.Program.{Program}
use Rattle.pas_tree.specs.declared.block.Tree.{Tree}
use Rattle.report.specs.Wording.{fault_line}
use Rattle.report.specs.declared.fault.SourceFault.TheVariants.{Check}
use Rattle.syntox.proofs.Classes.{unfolded_or_too_large}
use Rattle.syntox.proofs.Flows.{HasOneProgram, same_unfolding}
use Rattle.syntox.specs.Analysis.{CanBeAnalysed, IsReport, TellsCells}
use Rattle.syntox.specs.Analysis as analysis
use Rattle.syntox.specs.Answers.{IsDue, Outside}
use Rattle.syntox.specs.Answers as due
use Rattle.syntox.specs.Command.{analysis_of, run_of}
use Rattle.syntox.specs.Files.{HasProgram, HasTree, TellsFault, TellsRule}
use Rattle.syntox.specs.Files as opening
use Rattle.syntox.specs.Lines.{max_input}
use Rattle.syntox.specs.Lines as lines
use Rattle.syntox.specs.Running.{IsRunStatus}
use Rattle.syntox.specs.Running as running
use Rattle.syntox.specs.Source.{HasSourceFault, IsFlowOf, IsTreeOf}
use Rattle.syntox.specs.Source as source
use Rattle.syntox.specs.Sinks.{Delivers, Sinks, Takes}
use Rattle.syntox.specs.declared.due.Stream.{Stream}
use Rattle.syntox.specs.declared.status.Status.{Status}
use Rattle.syntox.specs.declared.status.Status.TheVariants.{Done, Refused}

-- A text that has a tree has no fault but a broken rule.
module _ (one_list : (text : List ℕ) (ts us : List Token) → HasTokens text ts → HasTokens text us → ts ≡ us)
    (no_fault : (text : List ℕ) (ts : List Token) (f : LexFault) → HasTokens text ts → HasFault text f → ⊥) where
  pub rule_of : (file text : List ℕ) (tree : HasTree text) (line : List ℕ) → TellsFault file (Some (Some text)) line → TellsRule file text line
  rule_of file text tree line (opening.too_large large) = absurd (omega (arith, large.bytes text refl, tree.within))
  rule_of file text tree line (opening.of_source {text = other} is (source.lexical f)) =
      absurd (no_fault other _ _ (subst (λ t. HasTokens t tree.is_tree.tokens) (sym (is.of_file.bytes text refl)) tree.is_tree.has_tokens) f)
  rule_of file text tree line (opening.of_source {text = other} is (source.syntax {tokens = ts} {fault = f} has e)) =
      let same : other ≡ text = is.of_file.bytes text refl in
      let here : HasTokens other tree.is_tree.tokens = subst (λ t. HasTokens t tree.is_tree.tokens) (sym same) tree.is_tree.has_tokens in
      let tokens : tree.is_tree.tokens ≡ ts = one_list other tree.is_tree.tokens ts here has in
      let read : program ts ≡ Ok tree.tree = subst (λ t. program t ≡ Ok tree.tree) tokens tree.is_tree.is_read in
      cc
  rule_of file text tree line (opening.of_source {text = other} is (source.rule {tree = read} {code = code} {at = at} t within sound)) =
      let same : other ≡ text = is.of_file.bytes text refl in
      subst (λ x. TellsRule file x (fault_line file other (Check (Wrong code at)))) same (record { code = code; at = at; tree = read; is_tree = t; sound = sound; within = within; is = refl })

  same_tree : (text : List ℕ) (t u : Tree) → IsTreeOf text t → IsTreeOf text u → t ≡ u
  same_tree text t u one other =
      let tokens : one.tokens ≡ other.tokens = one_list text one.tokens other.tokens one.has_tokens other.has_tokens in
      let read : program other.tokens ≡ Ok t = subst (λ ts. program ts ≡ Ok t) tokens one.is_read in
      cc (read, other.is_read)

  -- a text of a program has no fault
  pub no_line : ((text : List ℕ) (tree : Tree) (rule : Rule) (at : ℕ) (p : Program) → IsFirstBroken text tree rule at → IsProgramOf text tree p → ⊥)
      → (file text : List ℕ) → HasProgram text → (line : List ℕ) → TellsFault file (Some (Some text)) line → ⊥
  no_line exclude file text has line tells =
      let told = rule_of file text (record { within = has.within; tree = has.tree; is_tree = has.is_tree }) line tells in
      exclude text has.tree told.sound.0 told.sound.1 has.program
      (subst (λ t. IsFirstBroken text t told.sound.0 told.sound.1) (same_tree text told.tree has.tree told.is_tree has.is_tree) told.sound.4) has.is_program

  pub program_of : (text : List ℕ) → CanBeAnalysed text → HasProgram text
  program_of text can = record {
    within = can.within;
    tree = can.is_flow.tree;
    is_tree = can.is_flow.is_tree;
    program = can.flow.program;
    is_program = can.is_flow.is_program;
  }

  -- Where a flow of a text is told as too large, so is each other flow of it.
  too_large_too : HasOneProgram → (file text : List ℕ) (flow : Flow) → IsFlowOf text flow → (line : List ℕ) (tells : TellsCells file (Some (Some text)) line)
      → IsTooMany (unfolding_of flow tells.classes) tells.cells
  too_large_too one file text flow of_flow line tells =
      let same : tells.source ≡ text = tells.has_flow.source.of_file.bytes text refl in
      let told : IsFlowOf text tells.flow = subst (λ t. IsFlowOf t tells.flow) same tells.has_flow.is_flow in
      let tree : told.tree ≡ of_flow.tree = same_tree text told.tree of_flow.tree told.is_tree of_flow.is_tree in
      let is_program : IsProgramOf text of_flow.tree tells.flow.program = subst (λ t. IsProgramOf text t tells.flow.program) tree told.is_program in
      let alike = same_unfolding one text of_flow.tree tells.flow flow tells.classes is_program of_flow.is_program told.is_drawn of_flow.is_drawn in
      subst (λ u. IsTooMany u tells.cells) alike tells.too_many

  -- what can be analysed isn't too large
  pub no_cells : HasOneProgram → (file text : List ℕ) → CanBeAnalysed text → (line : List ℕ) → TellsCells file (Some (Some text)) line → ⊥
  no_cells one file text can line tells = can.few tells.classes tells.cells (too_large_too one file text can.flow can.is_flow line tells)

  -- what has a report isn't too large
  pub no_report : HasOneProgram → (file text report : List ℕ) (points : Bool) → IsReport file points (Some (Some text)) report → (line : List ℕ)
      → TellsCells file (Some (Some text)) line → ⊥
  no_report one file text report points is line tells =
      let same : is.source ≡ text = is.has_flow.source.of_file.bytes text refl in
      let of_flow : IsFlowOf text is.flow = subst (λ t. IsFlowOf t is.flow) same is.has_flow.is_flow in
      unfolded_or_too_large is.flow is.graph tells.classes tells.cells is.is_unfolding (too_large_too one file text is.flow of_flow line tells)

module _ (o : Outside) (s : Sinks) (file bytes : List ℕ) (points : Bool) (known : o.files file ≡ Some (Some bytes))
    (calm : ¬ Rose o.before o.after) (still : ¬ Rose s.out_before.faults s.out_after.faults)
    (none : (line : List ℕ) → TellsFault file (Some (Some bytes)) line → ⊥)
    (few : (line : List ℕ) → TellsCells file (Some (Some bytes)) line → ⊥) where
  pub analysed : {to : Stream} {text : List ℕ} {meant status : Status}
      → IsDue o (Some (analysis_of file points)) to text meant → Delivers to text meant s status → status ≡ Done
  analysed (due.unopened (opening.unread (lines.unreadable rose))) delivered = absurd (calm rose)
  analysed {text = text} (due.unopened (opening.faulty tells)) delivered = absurd (none text (subst (λ told. TellsFault file told text) known tells))
  analysed {text = text} (due.analysed (analysis.large tells)) delivered = absurd (few text (subst (λ told. TellsCells file told text) known tells))
  analysed (due.analysed (analysis.report is)) (inl (e, adds), kept) = e
  analysed (due.analysed (analysis.report is)) (inr (e, rose, prefix), kept) = absurd (still rose)

module _ (o : Outside) (s : Sinks) (file bytes input : List ℕ) (steps : ℕ) (known : o.files file ≡ Some (Some bytes))
    (given : o.input.told ≡ Some input) (few : length input ≤ max_input)
    (calm : ¬ Rose o.before o.after) (calm_input : ¬ Rose o.input.before o.input.after)
    (still : ¬ Rose s.out_before.faults s.out_after.faults)
    (none : (line : List ℕ) → TellsFault file (Some (Some bytes)) line → ⊥) where
  pub ran_whole : {to : Stream} {text : List ℕ} {meant status : Status}
      → IsDue o (Some (run_of file steps)) to text meant → Delivers to text meant s status → IsRunStatus status
  ran_whole (due.unopened (opening.unread (lines.unreadable rose))) delivered = absurd (calm rose)
  ran_whole {text = text} (due.unopened (opening.faulty tells)) delivered = absurd (none text (subst (λ told. TellsFault file told text) known tells))
  ran_whole (due.run (running.unread free (lines.unreadable rose))) delivered = absurd (calm_input rose)
  ran_whole (due.run (running.large free more)) delivered = absurd (omega (arith, more input given, few))
  ran_whole (due.run (running.ran is)) (inl (e, adds), kept) = (is.ended.ending, e ∙ is.is_status)
  ran_whole (due.run (running.ran is)) (inr (e, rose, prefix), kept) = absurd (still rose)

module _ (o : Outside) (s : Sinks) (file bytes input : List ℕ) (steps : ℕ) (known : o.files file ≡ Some (Some bytes))
    (given : o.input.told ≡ Some input) (few : length input ≤ max_input)
    (calm : ¬ Rose o.before o.after) (calm_input : ¬ Rose o.input.before o.input.after)
    (still : ¬ Rose s.out_before.faults s.out_after.faults) (still_err : ¬ Rose s.err_before.faults s.err_after.faults)
    (rules : (line : List ℕ) → TellsFault file (Some (Some bytes)) line → TellsRule file bytes line) where
  abbrev pub Ends : Status → Type 0
  Ends status = IsRunStatus status ⊎ ((status ≡ Refused) × Takes s.err_before.taken s.err_after.taken (TellsRule file bytes))

  pub ran : {to : Stream} {text : List ℕ} {meant status : Status}
      → IsDue o (Some (run_of file steps)) to text meant → Delivers to text meant s status → Ends status
  ran (due.unopened (opening.unread (lines.unreadable rose))) delivered = absurd (calm rose)
  ran {text = text} (due.unopened (opening.faulty tells)) (inl (e, adds), kept) =
      inr (e, (text, rules text (subst (λ told. TellsFault file told text) known tells), adds))
  ran (due.unopened (opening.faulty tells)) (inr (e, rose, prefix), kept) = absurd (still_err rose)
  ran (due.run (running.unread none (lines.unreadable rose))) delivered = absurd (calm_input rose)
  ran (due.run (running.large none more)) delivered = absurd (omega (arith, more input given, few))
  ran (due.run (running.ran is)) (inl (e, adds), kept) = inl (is.ended.ending, e ∙ is.is_status)
  ran (due.run (running.ran is)) (inr (e, rose, prefix), kept) = absurd (still rose)
