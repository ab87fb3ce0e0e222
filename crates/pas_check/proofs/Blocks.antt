-- Blocks, from their beginning to their end.
use Rattle.std.proofs.Common.{◌≡◌, ℕ, List, length, Option, Some, Ok, Err, sym, ap, subst, ◌∙◌}
use Rattle.std.specs.Prelude.{IfErr, OnOk}
use Rattle.px_base.specs.declared.place.Span.{Span}
use Rattle.pas_tree.specs.declared.block.Block.{Block}
use Rattle.pas_tree.specs.declared.block.Routine.{Routine}
use Rattle.pas_tree.specs.declared.block.RoutineBody.TheViews.{out-Block}
use Rattle.pas_tree.specs.declared.statement.Statement.{Statement}
use Rattle.pas_program.specs.declared.statement.Statement as statement
use Rattle.pas_check.specs.declared.block.Outer.{Outer}
use Rattle.pas_check.specs.declared.built.Built.{Built}
use Rattle.pas_check.specs.declared.fault.Fault.{Fault}
use Rattle.pas_check.specs.declared.fault.Fault.TheVariants.{Broken, Memory}
use Rattle.pas_check.specs.declared.heading.Function.{Function}
use Rattle.pas_check.specs.declared.heading.Opened.{Opened}
use Rattle.pas_check.specs.Blocks.{BlockMay, EndMay, RoutinesMay, Standing, begins, block_built, block_ended, end_allowed, ends, in_routines, left, not_ended, nothing_waits, outer_of, planned, planned_in, standing, statement_of, statements_ended, to_end}
use Rattle.pas_check.specs.Built.{with_routine}
use Rattle.pas_check.specs.Headings.{outside}
use Rattle.pas_check.specs.Hiding.{other_names}
use Rattle.pas_check.specs.Names.{Name}
use Rattle.pas_check.specs.Outcome.{Gives, IsMemory, Meets, Outcome, ◌>>=◌}
use Rattle.pas_check.specs.Sight.{Sight}
use Rattle.pas_check.specs.Stage.{Stage}
use Rattle.pas_check.specs.StatementForms.{sequence_form}

-- ---- what may be answered

-- what one part may answer, another may
pub meets_by : {A B C : Type 0} (shown : A → B) (May : Outcome B → Type 0) (other : A → C) (Can : Outcome C → Type 0) (r : Outcome A) → ((a : A) → May (Ok (shown a)) → Can (Ok (other a))) → ((e : Fault) → May (Err e) → Can (Err e)) → Meets shown May r → Meets other Can r
meets_by shown May other Can (Ok a) good wrong h = good a h
meets_by shown May other Can (Err e) good wrong h = λ own. wrong e (h own)

pub meets_all : {A B : Type 0} (shown : A → B) (May Can : Outcome B → Type 0) (r : Outcome A) → ((o : Outcome B) → May o → Can o) → Meets shown May r → Meets shown Can r
meets_all shown May Can r can h = meets_by shown May shown Can r (λ a. can (Ok (shown a))) (λ e. can (Err e)) h

-- what is given may be answered
pub meets_given : {A B : Type 0} (shown : A → B) (defined : Outcome B) (Can : Outcome B → Type 0) (r : Outcome A) → ((o : Outcome B) → defined ≡ o → Can o) → Gives shown defined r → Meets shown Can r
meets_given shown defined Can (Ok a) can h = can (Ok (shown a)) h
meets_given shown defined Can (Err e) can h = λ own. can (Err e) (h own)

-- what one part gives, another does
pub gives_by : {A B C : Type 0} (shown : A → B) (defined : Outcome B) (other : A → C) (whole : Outcome C) (r : Outcome A) → ((a : A) → defined ≡ Ok (shown a) → whole ≡ Ok (other a)) → ((e : Fault) → defined ≡ Err e → whole ≡ Err e) → Gives shown defined r → Gives other whole r
gives_by shown defined other whole (Ok a) good wrong h = good a h
gives_by shown defined other whole (Err e) good wrong h = λ own. wrong e (h own)

-- ---- blocks

module _ (s u : Stage) (p : Opened) (b : Block) (begun : begins s p b ≡ Ok u) (routines : List Routine) (same : routines ≡ (out-Block b).routines) (first : ℕ) (so_many : first ≡ length u.built.routines)
    (waiting : Name → Option Opened) (none : waiting ≡ nothing_waits) where
  at_first : (o : Outcome Standing) → RoutinesMay (standing u waiting) (planned u.seen.text first routines) o → RoutinesMay (standing u nothing_waits) (planned_in u b) o
  at_first o now =
      subst (λ n. RoutinesMay (standing u nothing_waits) (planned u.seen.text n (out-Block b).routines) o) so_many
      (subst (λ rs. RoutinesMay (standing u nothing_waits) (planned u.seen.text first rs) o) same (subst (λ w. RoutinesMay (standing u w) (planned u.seen.text first routines) o) none now))

  pub block_in_routines : (f : Fault) → RoutinesMay (standing u waiting) (planned u.seen.text first routines) (Err f) → BlockMay s p b (Err f)
  block_in_routines f now = in_routines begun (at_first (Err f) now)

  pub block_to_end : (t : Standing) (o : Outcome Stage) → RoutinesMay (standing u waiting) (planned u.seen.text first routines) (Ok t) → EndMay s p b u.seen.text t.at o → BlockMay s p b o
  block_to_end t o now after = to_end begun (at_first (Ok t) now) after

-- ---- the end of a block

module _ (s : Stage) (p : Opened) (b : Block) (text : List ℕ) (t : Stage) (body : List Statement) (same : body ≡ (out-Block b).body) where
  ended_by : (o : Outcome Sight) → statements_ended t.seen body ≡ o → block_ended s.seen p b text t.seen ≡ (o >>= (λ w. end_allowed text w p.result b >>= (λ done. Ok (left s.seen w))))
  unfolding block_ended
  ended_by o is = ap (λ (q : Outcome Sight). q >>= (λ w. end_allowed text w p.result b >>= (λ done. Ok (left s.seen w)))) (ap (statements_ended t.seen) (sym same) ∙ is)

  pub statements_fail : (f : Fault) → statements_ended t.seen body ≡ Err f → EndMay s p b text t (Err f)
  statements_fail f is = not_ended (ended_by (Err f) is)

  module _ (w : Sight) (done : statements_ended t.seen body ≡ Ok w) (function : Option Function) (own : p.result ≡ function) where
    tests_by : (o : Outcome (Unit {0})) → end_allowed text w function b ≡ o → block_ended s.seen p b text t.seen ≡ (o >>= (λ done. Ok (left s.seen w)))
    tests_by o is = ended_by (Ok w) done ∙ ap (λ (q : Outcome (Unit {0})). q >>= (λ done. Ok (left s.seen w))) (ap (λ r. end_allowed text w r b) own ∙ is)

    pub end_fails : (f : Fault) → end_allowed text w function b ≡ Err f → EndMay s p b text t (Err f)
    end_fails f is = not_ended (tests_by (Err f) is)

    module _ (outer : Outer) (list : List statement.Statement) (after : Built) (names : List Span) (named : names ≡ other_names t.seen.text b) (whole : statement.Statement) (around : outer ≡ outer_of s) (allowed : end_allowed text w function b ≡ Ok tt)
        (form : sequence_form t.seen body t.built ≡ Some (list, after)) (single : whole ≡ statement_of b list) where
      end_is : (x : Stage) → after.frame.routine ≡ length after.routines → x.seen ≡ record (outside w) { level = outer.level } → x.built ≡ with_routine after.frame names whole (record after { frame = outer.frame }) → EndMay s p b text t (Ok x)
      end_is x number seen built =
          let seen_as : left s.seen w ≡ x.seen = ap (λ (o : Outer). record (outside w) { level = o.level }) (sym around) ∙ sym seen in
          let built_as : block_built s.built.frame (other_names t.seen.text b) b list after ≡ x.built =
          ap (λ (o : Outer). with_routine after.frame (other_names t.seen.text b) (statement_of b list) (record after { frame = o.frame })) (sym around)
          ∙ ap (λ (ns : List Span). with_routine after.frame ns (statement_of b list) (record after { frame = outer.frame })) (sym named)
          ∙ ap (λ (y : statement.Statement). with_routine after.frame names y (record after { frame = outer.frame })) (sym single) ∙ sym built in
          let form_as : sequence_form t.seen (out-Block b).body t.built ≡ Some (list, after) = ap (λ (ss : List Statement). sequence_form t.seen ss t.built) (sym same) ∙ form in
          subst (λ (y : Stage). EndMay s p b text t (Ok y)) (λ i. record { seen = seen_as i; built = built_as i })
          (ends {w = left s.seen w} {x = (list, after)} (tests_by (Ok tt) allowed) form_as number)

      pub block_ends : (x : Stage) (r : Outcome (Unit {0})) → OnOk r (after.frame.routine ≡ length after.routines) → OnOk r (x.seen ≡ record (outside w) { level = outer.level })
          → OnOk r (x.built ≡ with_routine after.frame names whole (record after { frame = outer.frame })) → IfErr r IsMemory → Meets (λ (u : Unit {0}). x) (EndMay s p b text t) r
      block_ends x (Ok u) number seen built memory = end_is x number seen built
      block_ends x (Err (Broken rule at)) number seen built memory = absurd memory
      block_ends x (Err (Memory e)) number seen built memory = λ broken. absurd broken
