-- The program that is built of a tree in a text lies in it.
use Rattle.std.proofs.Common.{◌≡◌, ℕ, Bool, true, false, cond, not, List, [], ◌∷◌, ◌++◌, length, map, ◌+◌, Option, Some, None, Ok, refl, sym, ap, subst, ◌∙◌}
use Rattle.std.proofs.lemmas.Bool.{and_parts, and_from}
use Rattle.std.proofs.lemmas.List.Folds.{list_all-append}
use Rattle.std.specs.Bool.{beq}
use Rattle.std.specs.List.{AllByRecursion, list_all}
use Rattle.std.specs.Option.{option_map}
use Rattle.std.specs.Prelude.{flat_map}
use Rattle.std.specs.Str.{bytes_eq}
use Rattle.px_base.specs.declared.place.Span.{Span}
use Rattle.pas_program.specs.declared.program.Program.{Program}
use Rattle.pas_program.specs.declared.statement.Body.TheVariants as built_body
use Rattle.pas_program.specs.declared.variable.VarKind.TheVariants as kind
use Rattle.pas_program.specs.Each.{all_true, true_if_some}
use Rattle.pas_program.specs.Places.{LiesIn, assert_lies, is_piece, routine_lies, var_lies}
use Rattle.pas_tree.specs.declared.block.Block.{Block}
use Rattle.pas_tree.specs.declared.block.ConstDecl.{ConstDecl}
use Rattle.pas_tree.specs.declared.block.Routine.{Routine}
use Rattle.pas_tree.specs.declared.block.RoutineBody.TheFolds.{fold_out-Block, fold_out-Routine, fold-roll-RoutineBody}
use Rattle.pas_tree.specs.declared.block.RoutineBody.TheOpen.{RoutineBody-F}
use Rattle.pas_tree.specs.declared.block.RoutineBody.TheVariants as body_of
use Rattle.pas_tree.specs.declared.block.RoutineBody.TheViews.{out-Block, out-Routine}
use Rattle.pas_tree.specs.declared.block.Section.{Section}
use Rattle.pas_tree.specs.declared.block.Tree.{Tree}
use Rattle.pas_tree.specs.declared.block.TypeDecl.{TypeDecl}
use Rattle.pas_tree.specs.declared.block.VarDecl.{VarDecl}
use Rattle.pas_check.specs.declared.actual.Formal.{Formal}
use Rattle.pas_check.specs.declared.built.Built.{Built}
use Rattle.pas_check.specs.declared.fault.Rule.TheVariants as rule
use Rattle.pas_check.specs.declared.heading.Opened.{Opened}
use Rattle.pas_check.specs.declared.heading.Owner.{Owner}
use Rattle.pas_check.specs.Accepted.{IsProgramOf}
use Rattle.pas_check.specs.Block.{const_name, routine_name, type_name}
use Rattle.pas_check.specs.Blocks.{BlockMay, EndMay, Numbered, Planned, RoutineMay, RoutinesMay, Standing, begins, block_of, body_after, ends, entered, forward_read, forwarded, goes_on, in_block, in_routines, is_forward, is_word, no_more, not_begun, not_ended, not_opened, opened, opened_by, own_block, parts, plan_by, planned, statement_of, stops_in, to_end, waits, waits_for, whole_block, with_word}
use Rattle.pas_check.specs.Block.{ends_of}
use Rattle.pas_check.specs.Built.{finished}
use Rattle.pas_check.specs.Declarations.{const_declared, led_by, local_declared, name_claimed, type_declared, type_test, var_declared, with_types}
use Rattle.pas_check.specs.Formals.{Formed, formal_declared, kind_of, section_declared}
use Rattle.pas_check.specs.Headings.{begun, heading_read, outside, owner_in, result_declared, result_read, unformed}
use Rattle.pas_check.specs.Hiding.{declared_routines, if_declaring, is_declaring, other_names}
use Rattle.pas_check.specs.Names.{Name, Names, name_at, noted_all}
use Rattle.pas_check.specs.Outcome.{Outcome}
use Rattle.pas_check.specs.Placing.{labels_read}
use Rattle.pas_check.specs.Routine.{repeated_heading}
use Rattle.pas_check.specs.Spans.{block_within, const_decl_within, constant_within, label_within, routine_body_within, routine_within, section_within, statement_within, tree_within, type_decl_within, type_within, var_decl_within}
use Rattle.pas_check.specs.Spans as spans
use Rattle.pas_check.specs.Stage.{Stage}
use Rattle.pas_check.specs.TypeExpr.{named_type}
use Rattle.pas_check.proofs.ExprPlaces.{After}
use Rattle.pas_check.proofs.PlacesAllowed.{Fine, anyhow, goes, led_by_kept, led_kept, unless_kept}
use Rattle.pas_check.proofs.PlacesKept.{BuiltLies, If, begins_in, each_in, local_kept, one_more, variable_kept}
use Rattle.pas_check.proofs.StatementPlaces.{MembersLie, begin_lies, sequence_kept, statement_of_lies}

module _ (len : ℕ) where
  abbrev StageLies : Stage → Type 0
  StageLies s = BuiltLies len s.built

  abbrev OpenedLies : Opened → Type 0
  OpenedLies p = is_piece len p.frame.name ≡ true

  record StandingLies (s : Standing) : Type 0 where
    pub at : BuiltLies len s.at.built
    pub waiting : (name : Name) → If (s.waiting name) OpenedLies

  -- ---- one level of the tree

  record BlockParts (b : Block) : Type 0 where
    pub consts : list_all (const_decl_within len) (out-Block b).consts ≡ true
    pub types : list_all (type_decl_within len) (out-Block b).types ≡ true
    pub vars : list_all (var_decl_within len) (out-Block b).vars ≡ true
    pub routines : all_true (map (routine_within len) (out-Block b).routines) ≡ true
    pub first : is_piece len (out-Block b).«begin» ≡ true
    pub body : list_all (statement_within len) (out-Block b).body ≡ true
    pub last : is_piece len (out-Block b).«end» ≡ true

  block_parts : (b : Block) → block_within len b ≡ true → BlockParts b
  block_parts b h =
      let all = sym (fold_out-Block Bool Bool Bool (spans.routine_body_step len) (spans.block_step len) (spans.routine_step len) b) ∙ h in
      let p = and_parts (list_all (label_within len) (out-Block b).labels) _ all in
      let q = and_parts (list_all (const_decl_within len) (out-Block b).consts) _ p.1 in
      let r = and_parts (list_all (type_decl_within len) (out-Block b).types) _ q.1 in
      let s = and_parts (list_all (var_decl_within len) (out-Block b).vars) _ r.1 in
      let t = and_parts (all_true (map (routine_within len) (out-Block b).routines)) _ s.1 in
      let u = and_parts (is_piece len (out-Block b).«begin») _ t.1 in
      let v = and_parts (list_all (statement_within len) (out-Block b).body) _ u.1 in
      record { consts = q.0; types = r.0; vars = s.0; routines = t.0; first = u.0; body = v.0; last = v.1 }

  record RoutineParts (r : Routine) : Type 0 where
    pub name : is_piece len (out-Routine r).name ≡ true
    pub formals : list_all (section_within len) (out-Routine r).formals ≡ true
    pub body : routine_body_within len (out-Routine r).body ≡ true

  routine_parts : (r : Routine) → routine_within len r ≡ true → RoutineParts r
  routine_parts r h =
      let all = sym (fold_out-Routine Bool Bool Bool (spans.routine_body_step len) (spans.block_step len) (spans.routine_step len) r) ∙ h in
      let p = and_parts (is_piece len (out-Routine r).name) _ all in
      let q = and_parts (list_all (section_within len) (out-Routine r).formals) _ p.1 in
      let s = and_parts (true_if_some (option_map (is_piece len) (out-Routine r).result)) _ q.1 in
      record { name = p.0; formals = q.0; body = s.1 }

  block_of_body : (r : Routine) (b : Block) → (out-Routine r).body ≡ body_of.Block b → routine_within len r ≡ true → block_within len b ≡ true
  block_of_body r b is h =
      sym (fold-roll-RoutineBody Bool Bool Bool (spans.routine_body_step len) (spans.block_step len) (spans.routine_step len) (RoutineBody-F.Block b))
      ∙ ap (routine_body_within len) (body_of.rolls-Block b ∙ sym is) ∙ (routine_parts r h).body

  -- ---- the names of a block

  names_lie : {A : Type 0} (name : A → Span) (w : A → Bool) → ((x : A) → w x ≡ true → is_piece len (name x) ≡ true) → (xs : List A) → list_all w xs ≡ true → list_all (is_piece len) (map name xs) ≡ true
  names_lie name w k [] h = refl
  names_lie name w k (x ∷ xs) h = let p = and_parts (w x) _ h in and_from _ _ (k x p.0) (names_lie name w k xs p.1)

  const_lies : (d : ConstDecl) → const_decl_within len d ≡ true → is_piece len (const_name d) ≡ true
  const_lies d h = (and_parts (is_piece len d.name) _ h).0

  type_lies : (d : TypeDecl) → type_decl_within len d ≡ true → is_piece len (type_name d) ≡ true
  type_lies d h = (and_parts (is_piece len d.name) _ h).0

  routines_lie : (rs : List Routine) → all_true (map (routine_within len) rs) ≡ true → list_all (is_piece len) (map routine_name rs) ≡ true
  routines_lie [] h = refl
  routines_lie (r ∷ rs) h = let p = and_parts (routine_within len r) _ h in and_from _ _ (routine_parts r p.0).name (routines_lie rs p.1)

  taken_lies : (taken : Bool) (span : Span) → is_piece len span ≡ true → list_all (is_piece len) (cond taken (span ∷ []) []) ≡ true
  taken_lies true span h = and_from _ _ h refl
  taken_lies false span h = refl

  declaring_lie : (text : List ℕ) (first : Names) (spans : List Span) → list_all (is_piece len) spans ≡ true → list_all (is_piece len) (flat_map (if_declaring text first) spans) ≡ true
  declaring_lie text first [] h = refl
  declaring_lie text first (span ∷ rest) h =
      let p = and_parts (is_piece len span) _ h in
      list_all-append (is_piece len) (if_declaring text first span) (flat_map (if_declaring text first) rest) ∙ and_from _ _ (taken_lies (is_declaring text first span) span p.0) (declaring_lie text first rest p.1)

  other_names_lie : (text : List ℕ) (b : Block) → BlockParts b → list_all (is_piece len) (other_names text b) ≡ true
  other_names_lie text b h =
      let routines = declared_routines text (map routine_name (out-Block b).routines) in
      let declared : list_all (is_piece len) routines ≡ true = declaring_lie text (noted_all text (map routine_name (out-Block b).routines) []) (map routine_name (out-Block b).routines) (routines_lie (out-Block b).routines h.routines) in
      list_all-append (is_piece len) (map const_name (out-Block b).consts) (map type_name (out-Block b).types ++ routines)
      ∙ and_from _ _ (names_lie const_name (const_decl_within len) const_lies (out-Block b).consts h.consts)
      (list_all-append (is_piece len) (map type_name (out-Block b).types) routines ∙ and_from _ _ (names_lie type_name (type_decl_within len) type_lies (out-Block b).types h.types) declared)

  -- ---- the parts before the routines

  local_step : (t : ℕ) (s : Stage) (name : Span) → StageLies s → is_piece len name ≡ true → StageLies (local_declared t s name)
  unfolding local_declared
  local_step t s name l h = local_kept len name t s.built h l

  var_step : (s : Stage) (d : VarDecl) → StageLies s → var_decl_within len d ≡ true → Fine (var_declared s d) StageLies
  unfolding var_declared
  var_step s d l h =
      let p = and_parts (list_all (is_piece len) d.names) _ h in
      anyhow (led_by name_claimed s.seen d.names) _ StageLies (λ u.
      anyhow ((type_test d.of_type).read u) _ StageLies (λ r.
      led_kept StageLies (λ (name : Span). is_piece len name ≡ true) (local_declared r.0) (local_step r.0) (record s { seen = with_types u r.1 }) d.names l (each_in (is_piece len) d.names p.0)))

  parts_kept : (s : Stage) (b : Block) → StageLies s → BlockParts b → Fine (parts s b) StageLies
  unfolding parts
  parts_kept s b l h =
      anyhow (led_by const_declared s.seen (out-Block b).consts) _ StageLies (λ u.
      anyhow (led_by type_declared u (out-Block b).types) _ StageLies (λ w.
      led_by_kept StageLies (λ (d : VarDecl). var_decl_within len d ≡ true) var_declared var_step (record s { seen = w }) (out-Block b).vars l (each_in (var_decl_within len) (out-Block b).vars h.vars)))

  begins_kept : (s : Stage) (p : Opened) (b : Block) → StageLies s → OpenedLies p → BlockParts b → Fine (begins s p b) StageLies
  unfolding begins
  begins_kept s p b l o h =
      anyhow (labels_read b) _ StageLies (λ labels.
      parts_kept (entered s p (own_block p labels)) b (record { vars = l.vars; routines = l.routines; asserts = l.asserts; frame = o }) h)

  -- ---- headings

  abbrev FormedLies : Formed → Type 0
  FormedLies f = BuiltLies len f.at.built

  formal_step : (owner : Owner) (formal : Formal) (s : Formed) (name : Span) → FormedLies s → is_piece len name ≡ true → FormedLies (formal_declared owner formal s name)
  unfolding formal_declared
  formal_step owner formal s name l h = variable_kept len name owner.routine (kind_of formal.by_var) formal.of_type s.at.built h l

  section_step : (owner : Owner) (s : Formed) (d : Section) → FormedLies s → section_within len d ≡ true → Fine (section_declared owner s d) FormedLies
  unfolding section_declared
  section_step owner s d l h =
      let p = and_parts (list_all (is_piece len) d.names) _ h in
      anyhow (led_by name_claimed s.at.seen d.names) _ FormedLies (λ u.
      anyhow (named_type u d.of_type) _ FormedLies (λ t.
      led_kept FormedLies (λ (name : Span). is_piece len name ≡ true) (formal_declared owner (record { by_var = d.by_var; of_type = t })) (formal_step owner (record { by_var = d.by_var; of_type = t }))
      (record s { at = record s.at { seen = u } }) d.names l (each_in (is_piece len) d.names p.0)))

  result_kept : (owner : Owner) (name : Span) (t : Option ℕ) (b : Built) → is_piece len name ≡ true → BuiltLies len b → BuiltLies len (result_declared owner name t b).1
  result_kept owner name None b h l = l
  result_kept owner name (Some t) b h l = variable_kept len name owner.routine kind.Result t b h l

  abbrev HeadedLies : Stage × Opened → Type 0
  HeadedLies h = StageLies h.0 × OpenedLies h.1

  heading_kept : (s : Stage) (r : Routine) (number : ℕ) (later : Option Block) → StageLies s → RoutineParts r → Fine (heading_read s r number later) HeadedLies
  unfolding heading_read
  heading_kept s r number later l h =
      anyhow (begun s.seen r) _ HeadedLies (λ u.
      goes (led_by (section_declared (owner_in s.seen number)) (unformed s u r number later) (out-Routine r).formals) _ FormedLies HeadedLies
      (led_by_kept FormedLies (λ (d : Section). section_within len d ≡ true) (section_declared (owner_in s.seen number)) (section_step (owner_in s.seen number)) (unformed s u r number later) (out-Routine r).formals l (each_in (section_within len) (out-Routine r).formals h.formals))
      (λ x p.
      anyhow (result_read (outside x.at.seen) (out-Routine r).result) _ HeadedLies (λ t.
      (result_kept (owner_in s.seen number) (out-Routine r).name t x.at.built h.name p, h.name))))

  -- ---- headings that wait

  chosen_lies : (c : Bool) (o p : Option Opened) → If o OpenedLies → If p OpenedLies → If (cond c o p) OpenedLies
  chosen_lies true o p h k = h
  chosen_lies false o p h k = k

  waits_lie : (waiting : Name → Option Opened) (name : Name) (o : Option Opened) → ((n : Name) → If (waiting n) OpenedLies) → If o OpenedLies → (n : Name) → If (waits waiting name o n) OpenedLies
  waits_lie waiting name o w h n = chosen_lies (bytes_eq name n) o (waiting n) h (w n)

  with_word_lies : (function : Bool) (o : Option Opened) → If o OpenedLies → If (with_word function o) OpenedLies
  with_word_lies function None h = tt
  with_word_lies function (Some o) h = chosen_lies (beq function o.function) (Some o) None h tt

  forwarded_kept : (s : Standing) (r : Routine) (word : Span) (x : Stage × Opened) → StandingLies s → HeadedLies x → Fine (forwarded s r word x) StandingLies
  forwarded_kept s r word x l q =
      unless_kept StandingLies (not (is_forward x.0.seen.text word)) rule.Kind word.start
      (Ok (record { at = x.0; waiting = waits s.waiting (name_at x.0.seen.text (out-Routine r).name) (Some x.1) }))
      (record { at = q.0; waiting = waits_lie s.waiting (name_at x.0.seen.text (out-Routine r).name) (Some x.1) l.waiting q.1 })

  forward_kept : (s : Standing) (p : Planned) (word : Span) → StandingLies s → routine_within len p.routine ≡ true → Fine (forward_read s p word) StandingLies
  unfolding forward_read
  forward_kept s p word l h =
      goes (heading_read s.at p.routine p.number p.later) (λ x. forwarded s p.routine word x) HeadedLies StandingLies (heading_kept s.at p.routine p.number p.later l.at (routine_parts p.routine h))
      (λ x q. forwarded_kept s p.routine word x l q)

  abbrev OpeningLies : Standing × Opened → Type 0
  OpeningLies x = StandingLies x.0 × OpenedLies x.1

  opened_by_kept : (s : Standing) (r : Routine) (b : Block) (number : ℕ) (o : Option Opened) → If o OpenedLies → StandingLies s → routine_within len r ≡ true → Fine (opened_by s r b number o) OpeningLies
  opened_by_kept s r b number (Some p) o l h =
      anyhow (repeated_heading (out-Routine r)) _ OpeningLies (λ done.
      (record { at = l.at; waiting = waits_lie s.waiting (name_at s.at.seen.text (out-Routine r).name) None l.waiting tt }, o))
  opened_by_kept s r b number None o l h =
      goes (heading_read s.at r number (Some b)) _ HeadedLies OpeningLies (heading_kept s.at r number (Some b) l.at (routine_parts r h)) (λ x q.
      (record { at = q.0; waiting = l.waiting }, q.1))

  opened_kept : (s : Standing) (p : Planned) (b : Block) → StandingLies s → routine_within len p.routine ≡ true → Fine (opened s p b) OpeningLies
  unfolding opened
  opened_kept s p b l h =
      opened_by_kept s p.routine b p.number (waits_for s p.routine) (with_word_lies (out-Routine p.routine).function (s.waiting (name_at s.at.seen.text (out-Routine p.routine).name)) (l.waiting (name_at s.at.seen.text (out-Routine p.routine).name))) l h

  abbrev PlannedLies : Planned → Type 0
  PlannedLies p = routine_within len p.routine ≡ true

  plan_lies : (r : Routine) (before : ℕ) (own : Option Block) (later : Option Numbered) → routine_within len r ≡ true → PlannedLies (plan_by r before own later)
  plan_lies r before (Some b) later h = h
  plan_lies r before None None h = h
  plan_lies r before None (Some p) h = h

  planned_lie : (text : List ℕ) (before : ℕ) (rs : List Routine) → all_true (map (routine_within len) rs) ≡ true → AllByRecursion PlannedLies (planned text before rs)
  planned_lie text before [] h = tt
  planned_lie text before (r ∷ rest) h =
      let p = and_parts (routine_within len r) _ h in
      (plan_lies r before (block_of r) (body_after text r before rest) p.0, planned_lie text (before + ends_of r) rest p.1)

  -- ---- blocks

  end_kept : (s : Stage) (p : Opened) (b : Block) (text : List ℕ) (t : Stage) {o : Outcome Stage} → EndMay s p b text t o → StageLies s → StageLies t → BlockParts b → Fine o StageLies
  end_kept s p b text t (not_ended e) l k h = tt
  end_kept s p b text t (ends {x = x} e form number) l k h =
      let m : After len (MembersLie len) x =
      subst (λ o. If o (After len (MembersLie len))) form (sequence_kept len t.seen (out-Block b).body h.body t.built k) in
      record {
        vars = m.1.vars;
        routines = one_more (routine_lies len) x.1.routines (finished x.1.frame (other_names t.seen.text b) (statement_of b x.0)) m.1.routines
            (and_from _ _ m.1.frame (and_from _ _ (other_names_lie t.seen.text b h)
            (statement_of_lies len (out-Block b).«begin».start None [] (built_body.Begin x.0 (out-Block b).«end».start) (begins_in len (out-Block b).«begin» h.first) (begin_lies len x.0 (out-Block b).«end».start (begins_in len (out-Block b).«end» h.last) m.0))));
        asserts = m.1.asserts;
        frame = l.frame;
      }

  mutual
    block_kept : {s : Stage} {p : Opened} {b : Block} {o : Outcome Stage} → BlockMay s p b o → StageLies s → OpenedLies p → block_within len b ≡ true → Fine o StageLies
    block_kept (not_begun e) l o h = tt
    block_kept (in_routines e r) l o h = tt
    block_kept (to_end {s = s} {u = u} {p = p} {b = b} {t = t} e r k) l o h =
        let at : StageLies u = subst (λ x. Fine x StageLies) e (begins_kept s p b l o (block_parts b h)) in
        let stood : StandingLies t = routines_kept r (record { at = at; waiting = λ name. tt }) (planned_lie u.seen.text (length u.built.routines) (out-Block b).routines (block_parts b h).routines) in
        end_kept s p b u.seen.text t.at k l stood.at (block_parts b h)

    routines_kept : {s : Standing} {ps : List Planned} {o : Outcome Standing} → RoutinesMay s ps o → StandingLies s → AllByRecursion PlannedLies ps → Fine o StandingLies
    routines_kept no_more l h = l
    routines_kept (stops_in r) l h = tt
    routines_kept (goes_on r q) l h = routines_kept q (routine_kept r l h.0) h.1

    routine_kept : {s : Standing} {p : Planned} {o : Outcome Standing} → RoutineMay s p o → StandingLies s → PlannedLies p → Fine o StandingLies
    routine_kept (is_word {s = s} {p = p} word is e) l h = subst (λ x. Fine x StandingLies) e (forward_kept s p word l h)
    routine_kept (not_opened b is e) l h = tt
    routine_kept (in_block b is e k) l h = tt
    routine_kept (whole_block {s = s} {t = t} {p = p} {q = q} b is e k) l h =
        let m : OpeningLies (t, q) = subst (λ x. Fine x OpeningLies) e (opened_kept s p b l h) in
        record { at = block_kept k m.0.at m.1 (block_of_body p.routine b is h); waiting = m.0.waiting }

  -- ---- programs

  pub lies_in : (text : List ℕ) (tree : Tree) (p : Program) → tree_within len tree ≡ true → IsProgramOf text tree p → LiesIn len p
  lies_in text tree p h is =
      let w = and_parts (is_piece len tree.name) _ h in
      let l : BuiltLies len is.after.built = block_kept is.passes (record { vars = refl; routines = refl; asserts = refl; frame = w.0 }) w.0 w.1 in
      record {
        vars = ap (list_all (var_lies len)) is.vars ∙ l.vars;
        routines = ap (list_all (routine_lies len)) is.routines ∙ l.routines;
        asserts = ap (list_all (assert_lies len)) is.asserts ∙ l.asserts;
      }
