-- Labels, where statements stand, and where a `goto` may lead (ISO 7185, 6.1.6, 6.8.1 and 6.8.2.4).
use Rattle.std.specs.Prelude.{◌≡◌, ℕ, Bool, true, false, ◌&&◌, ◌||◌, not, List, [], ◌∷◌, ◌++◌, nat_eq, nat_le, Option, Some, None, Ok, Err, if◌then◌else◌}
use Rattle.std.specs.HashMap.{HashMap}
use Rattle.std.specs.declared.hash.BuildHasherDefault.{BuildHasherDefault}
use Rattle.std.specs.declared.hash.FoldHasher.{FoldHasher}
use Rattle.indexmap.specs.IndexMap.{get}
use Rattle.pas_program.specs.Tables.{holds_of}
use Rattle.pas_tree.specs.declared.block.Label.{Label}
use Rattle.pas_check.specs.declared.fault.Fault.TheVariants.{Broken}
use Rattle.pas_check.specs.declared.fault.Rule.TheVariants as rule
use Rattle.pas_check.specs.declared.label.LabelDecl.{LabelDecl}
use Rattle.pas_check.specs.declared.label.Placement.{Placement}
use Rattle.pas_check.specs.declared.scope.Scope.{Scope}
use Rattle.pas_check.specs.Outcome.{Outcome, ◌>>=◌, unless}
use Rattle.pas_check.specs.Rules.{is_label_again, is_label_too_great, is_misplaced, is_unplaced}

-- ---- by paths

-- A statement stands at a path: the numbers of the parts that lead to it from the statement part of its block.
abbrev pub Path : Type 0
Path = List ℕ

-- the statement at q contains what stands at p, itself included
pub record IsInside (p q : Path) : Type 0 where
  pub inner : Path
  pub leads : p ≡ q ++ inner

-- A `goto` at p may reach the statement at q of the same block: the statement contains it; or the statement is a member of the
-- sequence at s, which contains it. The outermost sequence of the block is at the empty path. A branch, a loop body and a
-- case arm are no members of a sequence.
pub data MayReach (is_sequence : Path → Bool) (p : Path) : Path → Type 0 where
  containing : {q : Path} → IsInside p q → MayReach is_sequence p q
  member : (s : Path) (k : ℕ) → is_sequence s ≡ true → IsInside p s → MayReach is_sequence p (s ++ k ∷ [])

-- ---- by places, as the walk keeps it: Placing.antt has which places, and that they say the same as the paths

-- the table of a block's labels by their values
abbrev pub Labels : Type 0
Labels = HashMap ℕ LabelDecl (BuildHasherDefault FoldHasher)

-- what is kept of the labels of a block, by their values
abbrev pub Kept : Type 0
Kept = ℕ → Option LabelDecl

abbrev pub kept_in : Labels → Kept
kept_in labels = get nat_eq labels

-- a block by the number of its routine, the function whose block it is, by its heading, and its labels
pub record Labelled : Type 0 where
  pub routine : ℕ
  pub function : Option ℕ
  pub labels : Kept

abbrev pub labelled : Scope → Labelled
labelled s = record { routine = s.routine; function = s.function; labels = kept_in s.labels }

-- a block without labels that is no function's
abbrev pub unlabelled : ℕ → Labelled
unlabelled routine = record { routine = routine; function = None; labels = λ n. None }

-- of a label's statement: the first and the last place of what may leave for it, and whether it is a member of the outermost
-- sequence, for which inner routines may leave too
abbrev pub may_reach : Bool → ℕ → Placement → Bool
may_reach same_block at placed = placed.outermost || (same_block && (nat_le placed.from at && nat_le at placed.to))

-- a label without a statement is at fault itself
abbrev pub is_out_of_reach : Bool → ℕ → LabelDecl → Bool
is_out_of_reach same_block at d = holds_of (λ (p : Placement). not (may_reach same_block at p)) d.placed

-- the innermost of blocks
abbrev pub first_scope : List Scope → Option Scope
first_scope [] = None
first_scope (s ∷ around) = Some s

-- ---- the tests

-- a label of a label part, before which others stand there
abbrev pub label_declared : List ℕ → Label → Outcome (List ℕ)
label_declared before l =
    unless (is_label_again l.value before) rule.DeclaredOnce l.at.start
    (unless (is_label_too_great l.value) rule.LabelValue l.at.start (Ok (before ++ l.value ∷ [])))

abbrev pub labels_declared : List ℕ → List Label → Outcome (List ℕ)
labels_declared before [] = Ok before
labels_declared before (l ∷ rest) = do
  all ← label_declared before l
  labels_declared all rest

-- the first declaration of a value, where none stands before
abbrev pub declaration_of : ℕ → List Label → Option LabelDecl → Option LabelDecl
declaration_of n [] before = before
declaration_of n (l ∷ rest) None = declaration_of n rest (if nat_eq l.value n then Some (record { at = l.at.start; placed = None }) else None)
declaration_of n (l ∷ rest) (Some d) = declaration_of n rest (Some d)

abbrev pub place_by : Option Placement → Option ℕ
place_by None = None
place_by (Some p) = Some p.at

abbrev pub place_of : Option LabelDecl → Option ℕ
place_of None = None
place_of (Some d) = place_by d.placed

-- the place of the first statement that has a label of the block
abbrev pub place_in : Kept → ℕ → Option ℕ
place_in labels value = place_of (labels value)

-- at the end of the block, a label of its label part
abbrev pub label_placed : Kept → Label → Outcome (Unit {0})
label_placed labels l = unless (is_unplaced (place_in labels l.value)) rule.Label l.at.start (Ok tt)

abbrev pub placed_in : List Labelled → Label → Outcome (Unit {0})
placed_in [] l = Err (Broken rule.Label l.at.start)
placed_in (s ∷ around) l = label_placed s.labels l

-- a label before a statement
abbrev pub placed_label : Kept → Label → Outcome ℕ
placed_label labels l = unless (is_misplaced (place_in labels l.value) l.at.start) rule.Label l.at.start (Ok l.value)

-- the block of the statement is the innermost one around
abbrev pub placed_by : List Labelled → Label → Outcome ℕ
placed_by [] l = Err (Broken rule.Label l.at.start)
placed_by (s ∷ around) l = placed_label s.labels l

abbrev pub label_before : List Labelled → Option Label → Outcome (Unit {0})
label_before blocks None = Ok tt
label_before blocks (Some l) = do
  value ← placed_by blocks l
  Ok tt

-- the label of a `goto` at a place: the innermost block that declares it, and whether its statement may be reached
abbrev pub left_by : Outcome ℕ → ℕ → Label → ℕ → Bool → Option LabelDecl → Outcome ℕ
left_by around routine l at inner None = around
left_by around routine l at inner (Some d) = unless (is_out_of_reach inner at d) rule.Goto l.at.start (Ok routine)

abbrev pub left_for : List Labelled → Label → ℕ → Bool → Outcome ℕ
left_for [] l at inner = Err (Broken rule.Label l.at.start)
left_for (s ∷ around) l at inner = left_by (left_for around l at false) s.routine l at inner (s.labels l.value)

abbrev pub goto_allowed : List Labelled → Label → ℕ → Outcome (Unit {0})
goto_allowed scopes l at = do
  routine ← left_for scopes l at true
  Ok tt
