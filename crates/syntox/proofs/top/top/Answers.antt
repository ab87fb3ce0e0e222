use Rattle.std.proofs.Common.{◌≡◌, ◌⊎◌, Ok, ap, inl, inr, subst}
use Rattle.syntox.proofs.Causes as causes
use Rattle.syntox.proofs.Complete as complete
use Rattle.syntox.specs.Answers.{IsDue, Outside, outside}
use Rattle.syntox.specs.Command.{asked}
use Rattle.syntox.specs.Running.{input_of}
use Rattle.syntox.specs.Sinks.{Sinks, at, sinks}
use Rattle.syntox.specs.declared.status.Status.TheVariants.{Done, Refused, Usage, ReadFault, WriteFault, RunError, OutOfSteps, DataTooLarge}
use Rattle.syntox.proofs.top.top.Given.{Over}
use Rattle.syntox.proofs.top.top.Goals as goal
use Rattle.syntox.proofs.top.top.Goals.{After-drop-due}

-- what the shelf and the source of the input tell, and the sinks, before and after
abbrev told : (g : Over) → After-drop-due g → Outside
told g c = outside (g.P.Shelf.file c.args.shelf.now) (g.P.Shelf.faults c.args.shelf.now) (g.P.Shelf.faults c.due_for.new.shelf)
    (input_of (g.D.Source.left c.args.given.now) (g.D.Source.faults c.args.given.now) (g.D.Source.faults c.due_for.new.given))

abbrev around : (g : Over) → After-drop-due g → Sinks
around g c = sinks (at (g.O.Sink.taken c.args.out.now) (g.O.Sink.faults c.args.out.now)) (at (g.O.Sink.taken c.deliver.new.out) (g.O.Sink.faults c.deliver.new.out))
    (at (g.E.Sink.taken c.args.err.now) (g.E.Sink.faults c.args.err.now)) (at (g.E.Sink.taken c.deliver.new.err) (g.E.Sink.faults c.deliver.new.err))

pub returns-clause-done : goal.returns-clause-done
returns-clause-done g c e =
    let is : c.deliver.result ≡ Done = cc in
    causes.done (told g c) (around g c) (asked c.args.words.now) c.in_ok-due.due.to c.in_ok-due.due.text.items c.in_ok-due.due.status c.deliver.result
    c.in_ok-due.ensures.due c.deliver.ensures.delivers is

pub returns-clause-run_error : goal.returns-clause-run_error
returns-clause-run_error g c e =
    let is : c.deliver.result ≡ RunError = cc in
    causes.run_error (told g c) (around g c) (asked c.args.words.now) c.in_ok-due.due.to c.in_ok-due.due.text.items c.in_ok-due.due.status c.deliver.result
    c.in_ok-due.ensures.due c.deliver.ensures.delivers is

pub returns-clause-out_of_steps : goal.returns-clause-out_of_steps
returns-clause-out_of_steps g c e =
    let is : c.deliver.result ≡ OutOfSteps = cc in
    causes.out_of_steps (told g c) (around g c) (asked c.args.words.now) c.in_ok-due.due.to c.in_ok-due.due.text.items c.in_ok-due.due.status c.deliver.result
    c.in_ok-due.ensures.due c.deliver.ensures.delivers is

pub returns-clause-refused : goal.returns-clause-refused
returns-clause-refused g c e =
    let is : c.deliver.result ≡ Refused = cc in
    causes.refused (told g c) (around g c) (asked c.args.words.now) c.in_ok-due.due.to c.in_ok-due.due.text.items c.in_ok-due.due.status c.deliver.result
    c.in_ok-due.ensures.due c.deliver.ensures.delivers is

pub returns-clause-read_fault : goal.returns-clause-read_fault
returns-clause-read_fault g c e =
    let is : c.deliver.result ≡ ReadFault = cc in
    causes.read_fault (told g c) (around g c) (asked c.args.words.now) c.in_ok-due.due.to c.in_ok-due.due.text.items c.in_ok-due.due.status c.deliver.result
    c.in_ok-due.ensures.due c.deliver.ensures.delivers is

pub returns-clause-data_too_large : goal.returns-clause-data_too_large
returns-clause-data_too_large g c e =
    let is : c.deliver.result ≡ DataTooLarge = cc in
    causes.data_too_large (told g c) (around g c) (asked c.args.words.now) c.in_ok-due.due.to c.in_ok-due.due.text.items c.in_ok-due.due.status c.deliver.result
    c.in_ok-due.ensures.due c.deliver.ensures.delivers is

pub returns-clause-usage : goal.returns-clause-usage
returns-clause-usage g c e =
    let is : c.deliver.result ≡ Usage = cc in
    causes.usage (told g c) (around g c) (asked c.args.words.now) c.in_ok-due.due.to c.in_ok-due.due.text.items c.in_ok-due.due.status c.deliver.result
    c.in_ok-due.ensures.due c.deliver.ensures.delivers is

pub returns-clause-write_fault : goal.returns-clause-write_fault
returns-clause-write_fault g c e =
    let is : c.deliver.result ≡ WriteFault = cc in
    causes.write_fault (told g c) (around g c) (asked c.args.words.now) c.in_ok-due.due.to c.in_ok-due.due.text.items c.in_ok-due.due.status c.deliver.result
    c.in_ok-due.ensures.due c.deliver.ensures.delivers is

pub returns-clause-complete : goal.returns-clause-complete
returns-clause-complete g c file bytes points asks known can calm still =
    let law = c.a_text_has_one_covering.ensures in
    let one = c.a_tree_has_one_program.ensures in
    complete.analysed (told g c) (around g c) file bytes points known calm still
    (complete.no_line law.tokens law.either c.a_fault_and_a_program_exclude_each_other.ensures file bytes (complete.program_of law.tokens law.either bytes can))
    (complete.no_cells law.tokens law.either (record { types = one.types; vars = one.vars; routines = one.routines; asserts = one.asserts }) file bytes can)
    (subst (λ a. IsDue (told g c) a c.in_ok-due.due.to c.in_ok-due.due.text.items c.in_ok-due.due.status) asks c.in_ok-due.ensures.due) c.deliver.ensures.delivers

pub returns-clause-complete_run : goal.returns-clause-complete_run
returns-clause-complete_run g c file bytes input steps asks known has given few calm calm_input still =
    let law = c.a_text_has_one_covering.ensures in
    complete.ran_whole (told g c) (around g c) file bytes input steps known given few calm calm_input still
    (complete.no_line law.tokens law.either c.a_fault_and_a_program_exclude_each_other.ensures file bytes has)
    (subst (λ a. IsDue (told g c) a c.in_ok-due.due.to c.in_ok-due.due.text.items c.in_ok-due.due.status) asks c.in_ok-due.ensures.due) c.deliver.ensures.delivers

pub returns-clause-complete_check : goal.returns-clause-complete_check
returns-clause-complete_check g c file bytes input steps asks known tree given few calm calm_input still still_err =
    let law = c.a_text_has_one_covering.ensures in
    complete.ran (told g c) (around g c) file bytes input steps known given few calm calm_input still still_err
    (complete.rule_of law.tokens law.either file bytes tree)
    (subst (λ a. IsDue (told g c) a c.in_ok-due.due.to c.in_ok-due.due.text.items c.in_ok-due.due.status) asks c.in_ok-due.ensures.due) c.deliver.ensures.delivers

pub returns-clause-out_kept : goal.returns-clause-out_kept
returns-clause-out_kept g c not_done not_error not_steps not_cut =
    causes.out_kept (told g c) (around g c) (asked c.args.words.now) c.in_ok-due.due.text.items c.in_ok-due.due.status c.deliver.result
    (c.deliver.new.out ≡ c.args.out.now) (c.deliver.new.err ≡ c.args.err.now) c.in_ok-due.due.to c.in_ok-due.ensures.due c.deliver.ensures.delivers c.deliver.ensures.spares
    (λ e. not_done (ap Ok e)) (λ e. not_error (ap Ok e)) (λ e. not_steps (ap Ok e)) (λ e. not_cut (ap Ok e))

pub returns-clause-err_kept : goal.returns-clause-err_kept
returns-clause-err_kept g c one =
    let is : (c.deliver.result ≡ Done) ⊎ ((c.deliver.result ≡ RunError) ⊎ (c.deliver.result ≡ OutOfSteps)) =
    elim one [ inl e ↦ inl (cc) | inr (inl e) ↦ inr (inl (cc)) | inr (inr e) ↦ inr (inr (cc)) ] in
    causes.err_kept (told g c) (around g c) (asked c.args.words.now) c.in_ok-due.due.text.items c.in_ok-due.due.status c.deliver.result
    (c.deliver.new.out ≡ c.args.out.now) (c.deliver.new.err ≡ c.args.err.now) c.in_ok-due.due.to c.in_ok-due.ensures.due c.deliver.ensures.delivers c.deliver.ensures.spares is

pub returns-clause-one_kept : goal.returns-clause-one_kept
returns-clause-one_kept g c = causes.one_kept c.in_ok-due.due.to (c.deliver.new.out ≡ c.args.out.now) (c.deliver.new.err ≡ c.args.err.now) c.deliver.ensures.spares
