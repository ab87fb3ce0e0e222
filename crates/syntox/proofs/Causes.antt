-- What an answer says of the file, the input and the sinks.
use Rattle.std.proofs.Common.{◌≡◌, ◌≢◌, ◌⊎◌, inl, inr, ℕ, List, Option, None, refl, sym, subst, ◌∙◌, codes}
use Rattle.px_base.specs.Bytes.{Adds}
use Rattle.px_base.specs.Faults.{Rose}
use Rattle.interp.specs.declared.running.Ending.{Ending}
use Rattle.interp.specs.declared.running.Ending.TheVariants as ending
use Rattle.syntox.specs.Analysis.{IsReport, TellsCells}
use Rattle.syntox.specs.Analysis as analysis
use Rattle.syntox.specs.Answers.{Cuts, ForCommand, ForRun, IsCut, IsDue, Outside}
use Rattle.syntox.specs.Answers as due
use Rattle.syntox.specs.Command.{Asked, analysis_of, run_of}
use Rattle.syntox.specs.Files.{IsFaultless, TellsFault}
use Rattle.syntox.specs.Files as opening
use Rattle.syntox.specs.Lines.{large_input_line, unreadable_line, usage_line}
use Rattle.syntox.specs.Lines as lines
use Rattle.syntox.specs.Running.{IsLargeInput, IsRun, status_of}
use Rattle.syntox.specs.Running as running
use Rattle.syntox.specs.Sinks.{Delivers, Sinks, Spares, Takes}
use Rattle.syntox.specs.declared.due.Stream.{Stream}
use Rattle.syntox.specs.declared.due.Stream.TheVariants.{Answers, Complaints}
use Rattle.syntox.specs.declared.status.Status.{Status}
use Rattle.syntox.specs.declared.status.Status.TheVariants.{Done, Refused, Usage, ReadFault, WriteFault, RunError, OutOfSteps, DataTooLarge}

-- ---- sinks

-- The text went whole to the sink that it is due to, and the other sink is as it was.
abbrev pub Went : Stream → List ℕ → Sinks → Type 0
Went Answers text s = Adds s.out_before.taken s.out_after.taken text × (s.err_after ≡ s.err_before)
Went Complaints text s = Adds s.err_before.taken s.err_after.taken text × (s.out_after ≡ s.out_before)

went : (to : Stream) (text : List ℕ) (meant : Status) (s : Sinks) (status : Status) → status ≢ WriteFault
    → Delivers to text meant s status → (status ≡ meant) × Went to text s
went Answers text meant s status whole (inl (is, adds), kept) = (is, (adds, kept))
went Answers text meant s status whole (inr (is, rose, prefix), kept) = absurd (whole is)
went Complaints text meant s status whole (inl (is, adds), kept) = (is, (adds, kept))
went Complaints text meant s status whole (inr (is, rose, prefix), kept) = absurd (whole is)

cut : (to : Stream) (text : List ℕ) (meant : Status) (s : Sinks) → meant ≢ WriteFault → Delivers to text meant s WriteFault → IsCut to text s
cut Answers text meant s other (inl (is, adds), kept) = absurd (other (sym is))
cut Answers text meant s other (inr (is, rose, prefix), kept) = (rose, prefix, kept)
cut Complaints text meant s other (inl (is, adds), kept) = absurd (other (sym is))
cut Complaints text meant s other (inr (is, rose, prefix), kept) = (rose, prefix, kept)

-- ---- statuses

-- what was asked for was written
abbrev pub IsText : Status → Type 0
IsText Done = Unit {0}
IsText RunError = Unit {0}
IsText OutOfSteps = Unit {0}
IsText _ = ⊥

text_of_end : (e : Ending) → IsText (status_of e)
text_of_end ending.Halted = tt
text_of_end (ending.Error fault) = tt
text_of_end ending.OutOfSteps = tt

ran_text : (status : Status) (e : Ending) → status ≡ status_of e → IsText status
ran_text status e is = subst IsText (sym is) (text_of_end e)

one_of : (status : Status) → IsText status → status ≢ Done → status ≢ RunError → status ≢ OutOfSteps → ⊥
one_of Done t a b c = a refl
one_of RunError t a b c = b refl
one_of OutOfSteps t a b c = c refl
one_of Refused t a b c = t
one_of Usage t a b c = t
one_of ReadFault t a b c = t
one_of WriteFault t a b c = t
one_of DataTooLarge t a b c = t

text_of_one : (status : Status) → (status ≡ Done) ⊎ ((status ≡ RunError) ⊎ (status ≡ OutOfSteps)) → IsText status
text_of_one status (inl e) = subst IsText (sym e) tt
text_of_one status (inr (inl e)) = subst IsText (sym e) tt
text_of_one status (inr (inr e)) = subst IsText (sym e) tt

no_cut : (status : Status) → IsText status → status ≢ WriteFault
no_cut status t e = subst IsText e t

-- ---- what is due, by its status

module _ {o : Outside} (s : Sinks) where
  done_due : {asked : Option Asked} {to : Stream} {text : List ℕ} → IsDue o asked to text Done → Went to text s
      → ForCommand asked (λ file points. Takes s.out_before.taken s.out_after.taken (IsReport file points (o.files file)))
      (λ file steps. Takes s.out_before.taken s.out_after.taken (IsRun (o.files file) o.input.told steps Done))
  done_due (due.unopened (opening.unread u)) w = elim u [ ]
  done_due {text = text} (due.analysed (analysis.report is)) w = (text, is, w.0)
  done_due (due.run (running.unread none u)) w = elim u [ ]
  done_due {text = text} (due.run (running.ran is)) w = (text, is, w.0)

  error_due : {asked : Option Asked} {to : Stream} {text : List ℕ} → IsDue o asked to text RunError → Went to text s
      → ForRun asked (λ file steps. Takes s.out_before.taken s.out_after.taken (IsRun (o.files file) o.input.told steps RunError))
  error_due (due.unopened (opening.unread u)) w = elim u [ ]
  error_due (due.analysed a) w = elim a [ ]
  error_due (due.run (running.unread none u)) w = elim u [ ]
  error_due {text = text} (due.run (running.ran is)) w = (text, is, w.0)

  steps_due : {asked : Option Asked} {to : Stream} {text : List ℕ} → IsDue o asked to text OutOfSteps → Went to text s
      → ForRun asked (λ file steps. Takes s.out_before.taken s.out_after.taken (IsRun (o.files file) o.input.told steps OutOfSteps))
  steps_due (due.unopened (opening.unread u)) w = elim u [ ]
  steps_due (due.analysed a) w = elim a [ ]
  steps_due (due.run (running.unread none u)) w = elim u [ ]
  steps_due {text = text} (due.run (running.ran is)) w = (text, is, w.0)

  refused_due : {asked : Option Asked} {to : Stream} {text : List ℕ} → IsDue o asked to text Refused → Went to text s
      → ForCommand asked (λ file points. Takes s.err_before.taken s.err_after.taken (λ line. TellsFault file (o.files file) line ⊎ TellsCells file (o.files file) line))
      (λ file steps. Takes s.err_before.taken s.err_after.taken (TellsFault file (o.files file)))
  refused_due (due.unopened (opening.unread u)) w = elim u [ ]
  refused_due {text = text} (due.unopened {asks = analysis_of file points} (opening.faulty tells)) w = (text, inl tells, w.0)
  refused_due {text = text} (due.unopened {asks = run_of file steps} (opening.faulty tells)) w = (text, tells, w.0)
  refused_due {text = text} (due.analysed (analysis.large tells)) w = (text, inr tells, w.0)
  refused_due (due.run (running.unread none u)) w = elim u [ ]
  refused_due (due.run (running.ran is)) w = absurd (ran_text Refused is.ended.ending is.is_status)

  read_fault_due : {asked : Option Asked} {to : Stream} {text : List ℕ} → IsDue o asked to text ReadFault → Went to text s
      → ForCommand asked (λ file points. Rose o.before o.after × Adds s.err_before.taken s.err_after.taken (unreadable_line file))
      (λ file steps. (Rose o.before o.after × Adds s.err_before.taken s.err_after.taken (unreadable_line file))
      ⊎ (IsFaultless (o.files file) × Rose o.input.before o.input.after × Adds s.err_before.taken s.err_after.taken (unreadable_line (codes "input"))))
  read_fault_due (due.unopened {asks = analysis_of file points} (opening.unread (lines.unreadable rose))) w = (rose, w.0)
  read_fault_due (due.unopened {asks = run_of file steps} (opening.unread (lines.unreadable rose))) w = inl (rose, w.0)
  read_fault_due (due.analysed a) w = elim a [ ]
  read_fault_due (due.run (running.unread none (lines.unreadable rose))) w = inr (none, rose, w.0)
  read_fault_due (due.run (running.ran is)) w = absurd (ran_text ReadFault is.ended.ending is.is_status)

  large_due : {asked : Option Asked} {to : Stream} {text : List ℕ} → IsDue o asked to text DataTooLarge → Went to text s
      → ForRun asked (λ file steps. IsFaultless (o.files file) × IsLargeInput o.input.told × Adds s.err_before.taken s.err_after.taken large_input_line)
  large_due (due.unopened (opening.unread u)) w = elim u [ ]
  large_due (due.analysed a) w = elim a [ ]
  large_due (due.run (running.unread none u)) w = elim u [ ]
  large_due (due.run (running.large none more)) w = (none, more, w.0)
  large_due (due.run (running.ran is)) w = absurd (ran_text DataTooLarge is.ended.ending is.is_status)

  usage_due : {asked : Option Asked} {to : Stream} {text : List ℕ} → IsDue o asked to text Usage → Went to text s
      → (asked ≡ None) × Adds s.err_before.taken s.err_after.taken usage_line
  usage_due due.usage w = (refl, w.0)
  usage_due (due.unopened (opening.unread u)) w = elim u [ ]
  usage_due (due.analysed a) w = elim a [ ]
  usage_due (due.run (running.unread none u)) w = elim u [ ]
  usage_due (due.run (running.ran is)) w = absurd (ran_text Usage is.ended.ending is.is_status)

no_write_due : {o : Outside} {asked : Option Asked} {to : Stream} {text : List ℕ} → IsDue o asked to text WriteFault → ⊥
no_write_due (due.unopened (opening.unread u)) = elim u [ ]
no_write_due (due.analysed a) = elim a [ ]
no_write_due (due.run (running.unread none u)) = elim u [ ]
no_write_due (due.run (running.ran is)) = ran_text WriteFault is.ended.ending is.is_status

-- ---- clause by clause

module _ (o : Outside) (s : Sinks) (asked : Option Asked) (to : Stream) (text : List ℕ) (meant status : Status)
    (is : IsDue o asked to text meant) (delivered : Delivers to text meant s status) where
  -- what is due under a status other than that of a sink that failed, and that it went whole to its sink
  answered : (other : Status) → other ≢ WriteFault → status ≡ other → IsDue o asked to text other × Went to text s
  answered other whole e =
      let w = went to text meant s status (λ f. whole (sym e ∙ f)) delivered in
      (subst (λ m. IsDue o asked to text m) (sym w.0 ∙ e) is, w.1)

  pub done : status ≡ Done → ForCommand asked (λ file points. Takes s.out_before.taken s.out_after.taken (IsReport file points (o.files file)))
      (λ file steps. Takes s.out_before.taken s.out_after.taken (IsRun (o.files file) o.input.told steps Done))
  done e = let a = answered Done (λ f. cc) e in done_due s a.0 a.1

  pub run_error : status ≡ RunError
      → ForRun asked (λ file steps. Takes s.out_before.taken s.out_after.taken (IsRun (o.files file) o.input.told steps RunError))
  run_error e = let a = answered RunError (λ f. cc) e in error_due s a.0 a.1

  pub out_of_steps : status ≡ OutOfSteps
      → ForRun asked (λ file steps. Takes s.out_before.taken s.out_after.taken (IsRun (o.files file) o.input.told steps OutOfSteps))
  out_of_steps e = let a = answered OutOfSteps (λ f. cc) e in steps_due s a.0 a.1

  pub refused : status ≡ Refused
      → ForCommand asked (λ file points. Takes s.err_before.taken s.err_after.taken (λ line. TellsFault file (o.files file) line ⊎ TellsCells file (o.files file) line))
      (λ file steps. Takes s.err_before.taken s.err_after.taken (TellsFault file (o.files file)))
  refused e = let a = answered Refused (λ f. cc) e in refused_due s a.0 a.1

  pub read_fault : status ≡ ReadFault
      → ForCommand asked (λ file points. Rose o.before o.after × Adds s.err_before.taken s.err_after.taken (unreadable_line file))
      (λ file steps. (Rose o.before o.after × Adds s.err_before.taken s.err_after.taken (unreadable_line file))
      ⊎ (IsFaultless (o.files file) × Rose o.input.before o.input.after × Adds s.err_before.taken s.err_after.taken (unreadable_line (codes "input"))))
  read_fault e = let a = answered ReadFault (λ f. cc) e in read_fault_due s a.0 a.1

  pub data_too_large : status ≡ DataTooLarge
      → ForRun asked (λ file steps. IsFaultless (o.files file) × IsLargeInput o.input.told × Adds s.err_before.taken s.err_after.taken large_input_line)
  data_too_large e = let a = answered DataTooLarge (λ f. cc) e in large_due s a.0 a.1

  pub usage : status ≡ Usage → (asked ≡ None) × Adds s.err_before.taken s.err_after.taken usage_line
  usage e = let a = answered Usage (λ f. cc) e in usage_due s a.0 a.1

  pub write_fault : status ≡ WriteFault → Cuts o asked s
  write_fault e = record {
    to = to;
    text = text;
    meant = meant;
    is_due = is;
    is_cut = cut to text meant s (λ m. no_write_due (subst (λ x. IsDue o asked to text x) m is))
        (subst (λ x. Delivers to text meant s x) e delivered);
  }

-- ---- which sink stays as it was

out_has_text : {o : Outside} {asked : Option Asked} {text : List ℕ} {meant : Status} → IsDue o asked Answers text meant → IsText meant
out_has_text (due.unopened (opening.unread u)) = elim u [ ]
out_has_text (due.analysed (analysis.report is)) = tt
out_has_text (due.run (running.unread none u)) = elim u [ ]
out_has_text {meant = meant} (due.run (running.ran is)) = ran_text meant is.ended.ending is.is_status

err_has_none : {o : Outside} {asked : Option Asked} {text : List ℕ} {meant : Status} → IsDue o asked Complaints text meant → IsText meant → ⊥
err_has_none due.usage t = t
err_has_none (due.unopened (opening.unread (lines.unreadable rose))) t = t
err_has_none (due.unopened (opening.faulty tells)) t = t
err_has_none (due.analysed (analysis.large tells)) t = t
err_has_none (due.run (running.unread none (lines.unreadable rose))) t = t
err_has_none (due.run (running.large none more)) t = t

module _ (o : Outside) (s : Sinks) (asked : Option Asked) (text : List ℕ) (meant status : Status) (out err : Type 0) where
  pub out_kept : (to : Stream) → IsDue o asked to text meant → Delivers to text meant s status → Spares to out err
      → status ≢ Done → status ≢ RunError → status ≢ OutOfSteps → status ≢ WriteFault → out
  out_kept Complaints is delivered spared a b c d = spared
  out_kept Answers is (inl (e, adds), kept) spared a b c d = absurd (one_of status (subst IsText (sym e) (out_has_text is)) a b c)
  out_kept Answers is (inr (e, rose, prefix), kept) spared a b c d = absurd (d e)

  pub err_kept : (to : Stream) → IsDue o asked to text meant → Delivers to text meant s status → Spares to out err
      → (status ≡ Done) ⊎ ((status ≡ RunError) ⊎ (status ≡ OutOfSteps)) → err
  err_kept Answers is delivered spared one = spared
  err_kept Complaints is (inl (e, adds), kept) spared one = absurd (err_has_none is (subst IsText e (text_of_one status one)))
  err_kept Complaints is (inr (e, rose, prefix), kept) spared one = absurd (no_cut status (text_of_one status one) e)

pub one_kept : (to : Stream) (out err : Type 0) → Spares to out err → out ⊎ err
one_kept Answers out err spared = inr spared
one_kept Complaints out err spared = inl spared
