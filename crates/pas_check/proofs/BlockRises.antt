-- The places of a program rise that is built of a tree whose starts rise.
use Rattle.std.proofs.Common.{◌≡◌, ℕ, zero, suc, ◌+◌, Bool, true, not, List, [], ◌∷◌, ◌++◌, length, map, Option, Some, None, Ok, refl, sym, ap, subst, ◌∙◌}
use Rattle.std.proofs.lemmas.Bool.{and_parts}
use Rattle.std.proofs.lemmas.Option.{none-some}
use Rattle.std.specs.List.{AllByRecursion, list_all, slice_get}
use Rattle.px_base.specs.declared.place.Span.{Span}
use Rattle.pas_program.specs.declared.program.Program.{Program}
use Rattle.pas_program.specs.declared.routine.Assert.{Assert}
use Rattle.pas_program.specs.declared.routine.Routine as built_routine
use Rattle.pas_program.specs.declared.statement.Body.TheVariants as built_body
use Rattle.pas_program.specs.Rising.{PlacesRise, statement_rises}
use Rattle.pas_tree.specs.declared.block.Block.{Block}
use Rattle.pas_tree.specs.declared.block.Routine.{Routine}
use Rattle.pas_tree.specs.declared.block.RoutineBody.TheFolds.{fold_out-Block, fold_out-Routine, fold-roll-RoutineBody}
use Rattle.pas_tree.specs.declared.block.RoutineBody.TheOpen.{RoutineBody-F}
use Rattle.pas_tree.specs.declared.block.RoutineBody.TheVariants as body_of
use Rattle.pas_tree.specs.declared.block.RoutineBody.TheViews.{out-Block, out-Routine}
use Rattle.pas_tree.specs.declared.block.Section.{Section}
use Rattle.pas_tree.specs.declared.block.Tree.{Tree}
use Rattle.pas_tree.specs.declared.block.VarDecl.{VarDecl}
use Rattle.pas_tree.specs.Order.{IsRising, Starts, block_starts, const_decl_starts, joined, label_starts, routine_body_starts, routine_starts, section_starts, span_if_some, span_starts, statement_starts, tree_starts, type_decl_starts, var_decl_starts}
use Rattle.pas_tree.specs.Order as order
use Rattle.pas_check.specs.declared.actual.Formal.{Formal}
use Rattle.pas_check.specs.declared.built.Built.{Built}
use Rattle.pas_check.specs.declared.fault.Rule.TheVariants as rule
use Rattle.pas_check.specs.declared.heading.Opened.{Opened}
use Rattle.pas_check.specs.declared.heading.Owner.{Owner}
use Rattle.pas_check.specs.Accepted.{IsProgramOf}
use Rattle.pas_check.specs.Block.{ends_of}
use Rattle.pas_check.specs.Blocks.{BlockMay, EndMay, Numbered, Planned, RoutineMay, RoutinesMay, Standing, begins, block_of, body_after, ends, entered, forward_read, forwarded, goes_on, in_block, in_routines, is_forward, is_word, no_more, not_begun, not_ended, not_opened, opened, opened_by, own_block, parts, plan_by, planned, statement_of, stops_in, to_end, waits, waits_for, whole_block}
use Rattle.pas_check.specs.Built.{finished}
use Rattle.pas_check.specs.Declarations.{const_declared, led_by, local_declared, name_claimed, type_declared, type_test, var_declared, with_types}
use Rattle.pas_check.specs.Formals.{Formed, formal_declared, section_declared}
use Rattle.pas_check.specs.Headings.{begun, heading_read, outside, owner_in, result_declared, result_read, unformed}
use Rattle.pas_check.specs.Hiding.{other_names}
use Rattle.pas_check.specs.Names.{name_at}
use Rattle.pas_check.specs.Outcome.{Outcome}
use Rattle.pas_check.specs.Placing.{labels_read}
use Rattle.pas_check.specs.Routine.{repeated_heading}
use Rattle.pas_check.specs.Stage.{Stage}
use Rattle.pas_check.specs.TypeExpr.{named_type}
use Rattle.pas_check.proofs.PlacesAllowed.{Fine, anyhow, goes, led_by_kept, led_kept, unless_kept}
use Rattle.pas_check.proofs.PlacesKept.{If, one_more}
use Rattle.pas_check.proofs.RisesKept.{Begins, Rising, begins_itself, begins_shorter, behind_one, first_part, is_rising, second_part}
use Rattle.pas_check.proofs.StatementRises.{Done, MembersRise, begin_rises, sequence_kept, statement_of_rises}

-- ---- one level of the tree

record BlockParts (b : Block) : Type 0 where
  pub routines : Rising (joined (map routine_starts (out-Block b).routines))
  pub body : Rising (joined (map statement_starts (out-Block b).body))

block_parts : (b : Block) → Rising (block_starts b) → BlockParts b
block_parts b h =
    let d = out-Block b in
    let labels = joined (map label_starts d.labels) in
    let consts = joined (map const_decl_starts d.consts) in
    let types = joined (map type_decl_starts d.types) in
    let vars = joined (map var_decl_starts d.vars) in
    let routines = joined (map routine_starts d.routines) in
    let body = joined (map statement_starts d.body) in
    let last = body ++ span_starts d.«end» in
    let behind = routines ++ d.«begin».start ∷ last in
    let all = subst Rising (fold_out-Block Starts Starts Starts order.routine_body_step order.block_step order.routine_step b) h in
    let p = second_part vars behind (second_part types (vars ++ behind) (second_part consts (types ++ (vars ++ behind)) (second_part labels (consts ++ (types ++ (vars ++ behind))) all))) in
    record { routines = first_part routines (d.«begin».start ∷ last) p; body = first_part body (span_starts d.«end») (behind_one d.«begin».start last (second_part routines (d.«begin».start ∷ last) p)) }

routine_body_up : (r : Routine) → Rising (routine_starts r) → Rising (routine_body_starts (out-Routine r).body)
routine_body_up r h =
    let d = out-Routine r in
    let formals = joined (map section_starts d.formals) in
    let result = span_if_some d.result in
    let body = routine_body_starts d.body in
    let all = subst Rising (fold_out-Routine Starts Starts Starts order.routine_body_step order.block_step order.routine_step r) h in
    second_part result body (second_part formals (result ++ body) (behind_one d.name.start (formals ++ (result ++ body)) all))

block_of_body : (r : Routine) (b : Block) → (out-Routine r).body ≡ body_of.Block b → Rising (routine_starts r) → Rising (block_starts b)
block_of_body r b is h =
    subst Rising
    (sym (sym (fold-roll-RoutineBody Starts Starts Starts order.routine_body_step order.block_step order.routine_step (RoutineBody-F.Block b)) ∙ ap routine_body_starts (body_of.rolls-Block b ∙ sym is)))
    (routine_body_up r h)

-- ---- lists

any_of : {A : Type 0} (xs : List A) → AllByRecursion (λ x. Unit {0}) xs
any_of [] = tt
any_of (x ∷ xs) = (tt, any_of xs)

same_some : {A : Type 0} {x y : A} → Some x ≡ Some y → x ≡ y
same_some e = cc

listed_at : {A : Type 0} (f : A → Bool) (xs : List A) (k : ℕ) (x : A) → list_all f xs ≡ true → slice_get xs k ≡ Some x → f x ≡ true
listed_at f [] k x h e = absurd (none-some x e)
listed_at f (y ∷ ys) zero x h e = ap f (sym (same_some e)) ∙ (and_parts (f y) _ h).0
listed_at f (y ∷ ys) (suc k) x h e = listed_at f ys k x (and_parts (f y) _ h).1 e

-- in a program with these assertions
module _ (all : List Assert) where
  abbrev routine_rises : built_routine.Routine → Bool
  routine_rises d = statement_rises all d.body

  -- where the assertions built so far begin those of the program, the routines rise
  abbrev BuiltRises : Built → Type 0
  BuiltRises b = Begins all b.asserts → list_all routine_rises b.routines ≡ true

  abbrev StageRises : Stage → Type 0
  StageRises s = BuiltRises s.built

  abbrev StandingRises : Standing → Type 0
  StandingRises s = BuiltRises s.at.built

  -- ---- the parts before the routines

  local_step : (t : ℕ) (s : Stage) (name : Span) → StageRises s → Unit {0} → StageRises (local_declared t s name)
  unfolding local_declared
  local_step t s name l h = l

  var_step : (s : Stage) (d : VarDecl) → StageRises s → Unit {0} → Fine (var_declared s d) StageRises
  unfolding var_declared
  var_step s d l h =
      anyhow (led_by name_claimed s.seen d.names) _ StageRises (λ u.
      anyhow ((type_test d.of_type).read u) _ StageRises (λ r.
      led_kept StageRises (λ (name : Span). Unit {0}) (local_declared r.0) (local_step r.0) (record s { seen = with_types u r.1 }) d.names l (any_of d.names)))

  parts_kept : (s : Stage) (b : Block) → StageRises s → Fine (parts s b) StageRises
  unfolding parts
  parts_kept s b l =
      anyhow (led_by const_declared s.seen (out-Block b).consts) _ StageRises (λ u.
      anyhow (led_by type_declared u (out-Block b).types) _ StageRises (λ w.
      led_by_kept StageRises (λ (d : VarDecl). Unit {0}) var_declared var_step (record s { seen = w }) (out-Block b).vars l (any_of (out-Block b).vars)))

  begins_kept : (s : Stage) (p : Opened) (b : Block) → StageRises s → Fine (begins s p b) StageRises
  unfolding begins
  begins_kept s p b l = anyhow (labels_read b) _ StageRises (λ labels. parts_kept (entered s p (own_block p labels)) b l)

  -- ---- headings

  abbrev FormedRises : Formed → Type 0
  FormedRises f = BuiltRises f.at.built

  formal_step : (owner : Owner) (formal : Formal) (s : Formed) (name : Span) → FormedRises s → Unit {0} → FormedRises (formal_declared owner formal s name)
  unfolding formal_declared
  formal_step owner formal s name l h = l

  section_step : (owner : Owner) (s : Formed) (d : Section) → FormedRises s → Unit {0} → Fine (section_declared owner s d) FormedRises
  unfolding section_declared
  section_step owner s d l h =
      anyhow (led_by name_claimed s.at.seen d.names) _ FormedRises (λ u.
      anyhow (named_type u d.of_type) _ FormedRises (λ t.
      led_kept FormedRises (λ (name : Span). Unit {0}) (formal_declared owner (record { by_var = d.by_var; of_type = t })) (formal_step owner (record { by_var = d.by_var; of_type = t }))
      (record s { at = record s.at { seen = u } }) d.names l (any_of d.names)))

  result_kept : (owner : Owner) (name : Span) (t : Option ℕ) (b : Built) → BuiltRises b → BuiltRises (result_declared owner name t b).1
  result_kept owner name None b l = l
  result_kept owner name (Some t) b l = l

  abbrev HeadedRises : Stage × Opened → Type 0
  HeadedRises h = StageRises h.0

  heading_kept : (s : Stage) (r : Routine) (number : ℕ) (later : Option Block) → StageRises s → Fine (heading_read s r number later) HeadedRises
  unfolding heading_read
  heading_kept s r number later l =
      anyhow (begun s.seen r) _ HeadedRises (λ u.
      goes (led_by (section_declared (owner_in s.seen number)) (unformed s u r number later) (out-Routine r).formals) _ FormedRises HeadedRises
      (led_by_kept FormedRises (λ (d : Section). Unit {0}) (section_declared (owner_in s.seen number)) (section_step (owner_in s.seen number)) (unformed s u r number later) (out-Routine r).formals l (any_of (out-Routine r).formals))
      (λ x p.
      anyhow (result_read (outside x.at.seen) (out-Routine r).result) _ HeadedRises (λ t.
      result_kept (owner_in s.seen number) (out-Routine r).name t x.at.built p)))

  forwarded_kept : (s : Standing) (r : Routine) (word : Span) (x : Stage × Opened) → HeadedRises x → Fine (forwarded s r word x) StandingRises
  forwarded_kept s r word x q =
      unless_kept StandingRises (not (is_forward x.0.seen.text word)) rule.Kind word.start
      (Ok (record { at = x.0; waiting = waits s.waiting (name_at x.0.seen.text (out-Routine r).name) (Some x.1) })) q

  forward_kept : (s : Standing) (p : Planned) (word : Span) → StandingRises s → Fine (forward_read s p word) StandingRises
  unfolding forward_read
  forward_kept s p word l =
      goes (heading_read s.at p.routine p.number p.later) (λ x. forwarded s p.routine word x) HeadedRises StandingRises (heading_kept s.at p.routine p.number p.later l)
      (λ x q. forwarded_kept s p.routine word x q)

  abbrev OpeningRises : Standing × Opened → Type 0
  OpeningRises x = StandingRises x.0

  opened_by_kept : (s : Standing) (r : Routine) (b : Block) (number : ℕ) (o : Option Opened) → StandingRises s → Fine (opened_by s r b number o) OpeningRises
  opened_by_kept s r b number (Some p) l = anyhow (repeated_heading (out-Routine r)) _ OpeningRises (λ done. l)
  opened_by_kept s r b number None l = goes (heading_read s.at r number (Some b)) _ HeadedRises OpeningRises (heading_kept s.at r number (Some b) l) (λ x q. q)

  opened_kept : (s : Standing) (p : Planned) (b : Block) → StandingRises s → Fine (opened s p b) OpeningRises
  unfolding opened
  opened_kept s p b l = opened_by_kept s p.routine b p.number (waits_for s p.routine) l

  abbrev PlannedRises : Planned → Type 0
  PlannedRises p = Rising (routine_starts p.routine)

  plan_rises : (r : Routine) (before : ℕ) (own : Option Block) (later : Option Numbered) → Rising (routine_starts r) → PlannedRises (plan_by r before own later)
  plan_rises r before (Some b) later h = h
  plan_rises r before None None h = h
  plan_rises r before None (Some p) h = h

  planned_rise : (text : List ℕ) (before : ℕ) (rs : List Routine) → Rising (joined (map routine_starts rs)) → AllByRecursion PlannedRises (planned text before rs)
  planned_rise text before [] h = tt
  planned_rise text before (r ∷ rest) h =
      let behind = joined (map routine_starts rest) in
      (plan_rises r before (block_of r) (body_after text r before rest) (first_part (routine_starts r) behind h), planned_rise text (before + ends_of r) rest (second_part (routine_starts r) behind h))

  -- ---- blocks

  end_kept : (s : Stage) (p : Opened) (b : Block) (text : List ℕ) (t : Stage) {o : Outcome Stage} → EndMay s p b text t o → StageRises t → BlockParts b → Fine o StageRises
  end_kept s p b text t (not_ended e) k h = tt
  end_kept s p b text t (ends {x = x} e form number) k h =
      let m : Done all t.built (MembersRise all) x =
      subst (λ o. If o (Done all t.built (MembersRise all))) form (sequence_kept all t.seen (out-Block b).body h.body t.built) in
      λ g.
      one_more routine_rises x.1.routines (finished x.1.frame (other_names t.seen.text b) (statement_of b x.0))
      (ap (list_all routine_rises) m.1.routines ∙ k (begins_shorter all x.1.asserts t.built.asserts g m.1.asserts))
      (statement_of_rises all (out-Block b).«begin».start None [] (built_body.Begin x.0 (out-Block b).«end».start) refl (begin_rises all x.0 (out-Block b).«end».start (m.0 g)))

  mutual
    block_kept : {s : Stage} {p : Opened} {b : Block} {o : Outcome Stage} → BlockMay s p b o → StageRises s → Rising (block_starts b) → Fine o StageRises
    block_kept (not_begun e) l h = tt
    block_kept (in_routines e r) l h = tt
    block_kept (to_end {s = s} {u = u} {p = p} {b = b} {t = t} e r k) l h =
        let at : StageRises u = subst (λ x. Fine x StageRises) e (begins_kept s p b l) in
        let stood : StandingRises t = routines_kept r at (planned_rise u.seen.text (length u.built.routines) (out-Block b).routines (block_parts b h).routines) in
        end_kept s p b u.seen.text t.at k stood (block_parts b h)

    routines_kept : {s : Standing} {ps : List Planned} {o : Outcome Standing} → RoutinesMay s ps o → StandingRises s → AllByRecursion PlannedRises ps → Fine o StandingRises
    routines_kept no_more l h = l
    routines_kept (stops_in r) l h = tt
    routines_kept (goes_on r q) l h = routines_kept q (routine_kept r l h.0) h.1

    routine_kept : {s : Standing} {p : Planned} {o : Outcome Standing} → RoutineMay s p o → StandingRises s → PlannedRises p → Fine o StandingRises
    routine_kept (is_word {s = s} {p = p} word is e) l h = subst (λ x. Fine x StandingRises) e (forward_kept s p word l)
    routine_kept (not_opened b is e) l h = tt
    routine_kept (in_block b is e k) l h = tt
    routine_kept (whole_block {s = s} {t = t} {p = p} {q = q} b is e k) l h =
        let m : OpeningRises (t, q) = subst (λ x. Fine x OpeningRises) e (opened_kept s p b l) in
        block_kept k m (block_of_body p.routine b is h)

-- ---- programs

pub places_rise : (text : List ℕ) (tree : Tree) (p : Program) → IsRising 0 (tree_starts tree) → IsProgramOf text tree p → PlacesRise p.routines p.asserts
places_rise text tree p h is =
    let all = is.after.built.asserts in
    let up = behind_one tree.name.start (block_starts tree.block) (is_rising 0 (tree_starts tree) h) in
    let l : list_all (routine_rises all) is.after.built.routines ≡ true = block_kept all is.passes (λ g. refl) up (begins_itself all) in
    record {
      body = λ r d e.
          subst (λ asserts. statement_rises asserts d.body ≡ true) (sym is.asserts)
          (listed_at (routine_rises all) is.after.built.routines r d l (subst (λ routines. slice_get routines r ≡ Some d) is.routines e));
    }
