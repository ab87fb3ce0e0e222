-- A tree has one answer: two derivations of what a block, its routines or its end may answer give the same.
use Rattle.std.proofs.Common.{◌≡◌, ℕ, List, Ok, Err, refl, sym, ap, subst, ◌∙◌}
use Rattle.px_base.specs.declared.place.Span.{Span}
use Rattle.pas_program.specs.declared.program.Program.{Program}
use Rattle.pas_program.specs.declared.statement.Statement.{Statement}
use Rattle.pas_tree.specs.declared.block.Block.{Block}
use Rattle.pas_tree.specs.declared.block.Tree.{Tree}
use Rattle.pas_tree.specs.declared.block.RoutineBody.TheViews.{out-Routine, out-RoutineBody, out-roll-RoutineBody}
use Rattle.pas_tree.specs.declared.block.RoutineBody.{RoutineBody}
use Rattle.pas_tree.specs.declared.block.RoutineBody.TheOpen.{RoutineBody-F}
use Rattle.pas_tree.specs.declared.block.RoutineBody.TheVariants as body_of
use Rattle.pas_check.specs.declared.built.Built.{Built}
use Rattle.pas_check.specs.declared.fault.Fault.{Fault}
use Rattle.pas_check.specs.declared.fault.Fault.TheVariants.{Broken}
use Rattle.pas_check.specs.declared.fault.Rule.{Rule}
use Rattle.pas_check.specs.declared.heading.Opened.{Opened}
use Rattle.pas_check.specs.Accepted.{IsProgramOf}
use Rattle.pas_check.specs.Hiding.{other_names}
use Rattle.pas_check.specs.Blocks.{BlockMay, EndMay, IsFirstBroken, Planned, ProgramMay, RoutineMay, RoutinesMay, Standing, block_built, begins, ends, forward_read, goes_on, in_block, in_routines, is_word, no_more, not_begun, not_ended, not_opened, nothing_waits, opened, planned_in, standing, stops_in, to_end, whole_block}
use Rattle.pas_check.specs.Outcome.{Outcome}
use Rattle.pas_check.specs.Sight.{Sight}
use Rattle.pas_check.specs.Stage.{Stage}

-- ---- the end of a block

ended_alike : (s : Stage) (names : List Span) (b : Block) (w v : Sight) (x y : List Statement × Built) → w ≡ v → x ≡ y → ◌≡◌ {A = Outcome Stage} (Ok (record { seen = w; built = block_built s.built.frame names b x.0 x.1 })) (Ok (record { seen = v; built = block_built s.built.frame names b y.0 y.1 }))
ended_alike s names b w v x y seen built =
    ap (λ (h : Sight). Ok (record { seen = h; built = block_built s.built.frame names b x.0 x.1 })) seen
    ∙ ap (λ (z : List Statement × Built). Ok (record { seen = v; built = block_built s.built.frame names b z.0 z.1 })) built

one_end : (s : Stage) (p : Opened) (b : Block) (text : List ℕ) (t : Stage) {o u : Outcome Stage} → EndMay s p b text t o → EndMay s p b text t u → o ≡ u
one_end s p b text t (not_ended {f = f} e) (not_ended {f = g} d) = let same : f ≡ g = cc in ap Err same
one_end s p b text t (not_ended e) (ends d form last) = absurd (cc)
one_end s p b text t (ends e form last) (not_ended d) = absurd (cc)
one_end s p b text t (ends {w = w} {x = x} e form last) (ends {w = v} {x = y} d other end) =
    let seen : w ≡ v = cc in
    let built : x ≡ y = cc in
    ended_alike s (other_names t.seen.text b) b w v x y seen built

-- ---- the body of a routine

module _ (body : RoutineBody) where
  view_of_block : (b : Block) → body ≡ body_of.Block b → out-RoutineBody body ≡ RoutineBody-F.Block b
  view_of_block b is = ap out-RoutineBody (is ∙ sym (body_of.rolls-Block b)) ∙ out-roll-RoutineBody (RoutineBody-F.Block b)

  view_of_word : (w : Span) → body ≡ body_of.Word w → out-RoutineBody body ≡ RoutineBody-F.Word w
  view_of_word w is = ap out-RoutineBody (is ∙ sym (body_of.rolls-Word w)) ∙ out-roll-RoutineBody (RoutineBody-F.Word w)

  one_body : (b c : Block) → body ≡ body_of.Block b → body ≡ body_of.Block c → b ≡ c
  one_body b c is other = let first = view_of_block b is in let second = view_of_block c other in cc

  one_word : (v w : Span) → body ≡ body_of.Word v → body ≡ body_of.Word w → v ≡ w
  one_word v w is other = let first = view_of_word v is in let second = view_of_word w other in cc

  not_both : (b : Block) (w : Span) → body ≡ body_of.Block b → body ≡ body_of.Word w → ⊥
  not_both b w is other = let first = view_of_block b is in let second = view_of_word w other in cc

-- ---- derivations of the same

one_fault : {A B : Type 0} (f g : Fault) → ◌≡◌ {A = Outcome A} (Err f) (Err g) → ◌≡◌ {A = Outcome B} (Err f) (Err g)
one_fault f g e = let same : f ≡ g = cc in ap Err same

module _ (s : Stage) (p : Opened) (b : Block) (u v : Stage) (begun : begins s p b ≡ Ok u) (other : begins s p b ≡ Ok v) where
  same_stage : v ≡ u
  same_stage = cc

  same_routines : (o : Outcome Standing) → RoutinesMay (standing v nothing_waits) (planned_in v b) o → RoutinesMay (standing u nothing_waits) (planned_in u b) o
  same_routines o = subst (λ (x : Stage). RoutinesMay (standing x nothing_waits) (planned_in x b) o) same_stage

  same_end : (t k : Standing) (o : Outcome Stage) → ◌≡◌ {A = Outcome Standing} (Ok t) (Ok k) → EndMay s p b v.seen.text k.at o → EndMay s p b u.seen.text t.at o
  same_end t k o stood now =
      let same : k ≡ t = cc in
      subst (λ (x : Stage). EndMay s p b x.seen.text t.at o) same_stage (subst (λ (x : Standing). EndMay s p b v.seen.text x.at o) same now)

module _ (s : Standing) (p : Planned) (b c : Block) (first : (out-Routine p.routine).body ≡ body_of.Block b) (second : (out-Routine p.routine).body ≡ body_of.Block c) where
  same_opened : (o u : Outcome (Standing × Opened)) → opened s p b ≡ o → opened s p c ≡ u → o ≡ u
  same_opened o u is other = sym is ∙ ap (opened s p) (one_body (out-Routine p.routine).body b c first second) ∙ other

  same_fault : (f g : Fault) → opened s p b ≡ Err f → opened s p c ≡ Err g → f ≡ g
  same_fault f g is other = let faults = same_opened (Err f) (Err g) is other in cc

  not_opened_once : (f : Fault) (x : Standing × Opened) → opened s p b ≡ Err f → opened s p c ≡ Ok x → ⊥
  not_opened_once f x is other = let never = same_opened (Err f) (Ok x) is other in cc

  module _ (t k : Standing) (q r : Opened) (is : opened s p b ≡ Ok (t, q)) (other : opened s p c ≡ Ok (k, r)) where
    same_pair : ◌≡◌ {A = Standing × Opened} (t, q) (k, r)
    same_pair = let opens = same_opened (Ok (t, q)) (Ok (k, r)) is other in cc

    same_standing : t ≡ k
    same_standing = ap (λ (x : Standing × Opened). x.0) same_pair

    same_opening : r ≡ q
    same_opening = ap (λ (x : Standing × Opened). x.1) (sym same_pair)

    same_block : (o : Outcome Stage) → BlockMay k.at r c o → BlockMay t.at q b o
    same_block o now =
        subst (λ (x : Standing). BlockMay x.at q b o) (sym same_standing)
        (subst (λ (x : Opened). BlockMay k.at x b o) same_opening
        (subst (λ (x : Block). BlockMay k.at r x o) (sym (one_body (out-Routine p.routine).body b c first second)) now))

    same_after : (w v : Stage) → ◌≡◌ {A = Outcome Stage} (Ok w) (Ok v) → ◌≡◌ {A = Outcome Standing} (Ok (standing w t.waiting)) (Ok (standing v k.waiting))
    same_after w v e =
        let same : w ≡ v = cc in
        ap (λ (x : Stage). Ok (standing x t.waiting)) same ∙ ap (λ (x : Standing). Ok (standing v x.waiting)) same_standing

-- ---- blocks and their routines

mutual
  one_block : {s : Stage} {p : Opened} {b : Block} {o u : Outcome Stage} → BlockMay s p b o → BlockMay s p b u → o ≡ u
  one_block (not_begun {f = f} e) (not_begun {f = g} d) = let same : f ≡ g = cc in ap Err same
  one_block (not_begun e) (in_routines d r) = absurd (cc)
  one_block (not_begun e) (to_end d r h) = absurd (cc)
  one_block (in_routines e r) (not_begun d) = absurd (cc)
  one_block (in_routines {s = s} {u = u} {p = p} {b = b} {f = f} e r) (in_routines {u = v} {f = g} d q) =
      one_fault f g (one_sequence r (same_routines s p b u v e d (Err g) q))
  one_block (in_routines {s = s} {u = u} {p = p} {b = b} {f = f} e r) (to_end {u = v} {t = t} d q h) =
      let never = one_sequence r (same_routines s p b u v e d (Ok t) q) in absurd (cc)
  one_block (to_end e r h) (not_begun d) = absurd (cc)
  one_block (to_end {s = s} {u = u} {p = p} {b = b} e r h) (in_routines {u = v} {f = g} d q) =
      let never = one_sequence r (same_routines s p b u v e d (Err g) q) in absurd (cc)
  one_block (to_end {s = s} {u = u} {p = p} {b = b} {t = t} {o = o} e r h) (to_end {u = v} {t = k} {o = n} d q i) =
      let stood = one_sequence r (same_routines s p b u v e d (Ok k) q) in
      one_end s p b u.seen.text t.at h (same_end s p b u v e d t k n stood i)

  one_sequence : {s : Standing} {ps : List Planned} {o u : Outcome Standing} → RoutinesMay s ps o → RoutinesMay s ps u → o ≡ u
  one_sequence no_more no_more = refl
  one_sequence (stops_in h) (stops_in i) = one_routine h i
  one_sequence (stops_in h) (goes_on i r) = let never = one_routine h i in absurd (cc)
  one_sequence (goes_on h q) (stops_in i) = let never = one_routine h i in absurd (cc)
  one_sequence (goes_on {t = t} {rest = rest} h q) (goes_on {t = k} {o = n} i r) =
      let stood = one_routine h i in
      let same : k ≡ t = cc in
      one_sequence q (subst (λ (x : Standing). RoutinesMay x rest n) same r)

  one_routine : {s : Standing} {p : Planned} {o u : Outcome Standing} → RoutineMay s p o → RoutineMay s p u → o ≡ u
  one_routine (is_word {s = s} {p = p} w e h) (is_word v d i) = sym h ∙ ap (forward_read s p) (one_word _ w v e d) ∙ i
  one_routine (is_word w e h) (not_opened b d i) = absurd (not_both _ b w d e)
  one_routine (is_word w e h) (in_block b d i j) = absurd (not_both _ b w d e)
  one_routine (is_word w e h) (whole_block b d i j) = absurd (not_both _ b w d e)
  one_routine (not_opened c e h) (is_word v d i) = absurd (not_both _ c v e d)
  one_routine (not_opened {s = s} {p = p} {f = f} c e h) (not_opened {f = g} b d i) = ap Err (same_fault s p c b e d f g h i)
  one_routine (not_opened {s = s} {p = p} c e h) (in_block b d i j) = absurd (not_opened_once s p c b e d _ _ h i)
  one_routine (not_opened {s = s} {p = p} c e h) (whole_block b d i j) = absurd (not_opened_once s p c b e d _ _ h i)
  one_routine (in_block c e h k) (is_word v d i) = absurd (not_both _ c v e d)
  one_routine (in_block {s = s} {p = p} c e h k) (not_opened b d i) = absurd (not_opened_once s p b c d e _ _ i h)
  one_routine (in_block {s = s} {p = p} {f = f} c e h k) (in_block {f = g} b d i j) = one_fault f g (one_block k (same_block s p c b e d _ _ _ _ h i (Err g) j))
  one_routine (in_block {s = s} {p = p} c e h k) (whole_block {w = v} b d i j) =
      let never = one_block k (same_block s p c b e d _ _ _ _ h i (Ok v) j) in absurd (cc)
  one_routine (whole_block c e h k) (is_word v d i) = absurd (not_both _ c v e d)
  one_routine (whole_block {s = s} {p = p} c e h k) (not_opened b d i) = absurd (not_opened_once s p b c d e _ _ i h)
  one_routine (whole_block {s = s} {p = p} c e h k) (in_block {f = g} b d i j) =
      let never = one_block k (same_block s p c b e d _ _ _ _ h i (Err g) j) in absurd (cc)
  one_routine (whole_block {s = s} {p = p} {w = w} c e h k) (whole_block {w = v} b d i j) =
      same_after s p c b e d _ _ _ _ h i w v (one_block k (same_block s p c b e d _ _ _ _ h i (Ok v) j))

-- ---- programs

pub one_answer : (text : List ℕ) (tree : Tree) (o u : Outcome Stage) → ProgramMay text tree o → ProgramMay text tree u → o ≡ u
one_answer text tree o u = one_block

module _ (text : List ℕ) (tree : Tree) where
  pub fault_or_program : (rule : Rule) (at : ℕ) (p : Program) → IsFirstBroken text tree rule at → IsProgramOf text tree p → ⊥
  fault_or_program rule at p broken is = let never = one_block broken is.passes in cc

  module _ (rule other : Rule) (at there : ℕ) (first : IsFirstBroken text tree rule at) (second : IsFirstBroken text tree other there) where
    same_answer : ◌≡◌ {A = Outcome Stage} (Err (Broken rule at)) (Err (Broken other there))
    same_answer = one_block first second

    pub one_rule : rule ≡ other
    one_rule = let same = same_answer in cc

    pub one_place : at ≡ there
    one_place = let same = same_answer in cc

  module _ (p q : Program) (is : IsProgramOf text tree p) (other : IsProgramOf text tree q) where
    after_both : is.after ≡ other.after
    after_both = let same = one_block is.passes other.passes in cc

    pub one_types : p.types ≡ q.types
    one_types = is.types ∙ ap (λ (s : Stage). s.seen.types) after_both ∙ sym other.types

    pub one_vars : p.vars ≡ q.vars
    one_vars = is.vars ∙ ap (λ (s : Stage). s.built.vars) after_both ∙ sym other.vars

    pub one_routines : p.routines ≡ q.routines
    one_routines = is.routines ∙ ap (λ (s : Stage). s.built.routines) after_both ∙ sym other.routines

    pub one_asserts : p.asserts ≡ q.asserts
    one_asserts = is.asserts ∙ ap (λ (s : Stage). s.built.asserts) after_both ∙ sym other.asserts
