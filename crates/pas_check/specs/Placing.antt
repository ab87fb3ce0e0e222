-- The labelled statements of a statement part: where they stand, and the places that are kept of them (ISO 7185, 6.8.1).
use Rattle.std.specs.Prelude.{◌≡◌, ◌↔◌, ℕ, zero, suc, ◌<◌, ◌≤◌, max, nat_eq, nat_le, Bool, true, false, if◌then◌else◌, List, [], ◌∷◌, ◌++◌, map, Option, Some, None, Ok}
use Rattle.indexmap.specs.IndexMap.{get}
use Rattle.pas_tree.specs.declared.block.Block.{Block}
use Rattle.pas_tree.specs.declared.block.Label.{Label}
use Rattle.pas_tree.specs.declared.block.RoutineBody.TheViews.{out-Block}
use Rattle.pas_tree.specs.declared.statement.Body.{Body}
use Rattle.pas_tree.specs.declared.statement.Body.TheOpen.{Body-F, Element-F, Statement-F}
use Rattle.pas_tree.specs.declared.statement.Body.TheFolds.{fold-Body, fold-Element, fold-Statement}
use Rattle.pas_tree.specs.declared.statement.Body.TheViews.{out-Statement}
use Rattle.pas_tree.specs.declared.statement.Element.{Element}
use Rattle.pas_tree.specs.declared.statement.Statement.{Statement}
use Rattle.pas_check.specs.declared.label.LabelDecl.{LabelDecl}
use Rattle.pas_check.specs.declared.label.Placement.{Placement}
use Rattle.pas_check.specs.Labels.{Kept, Labels, MayReach, Path, declaration_of, labels_declared, may_reach}
use Rattle.pas_check.specs.Outcome.{Outcome, ◌>>=◌}

-- ---- statements without what they do

-- whether a statement leaves for a label, or has a sequence in it
pub data Form : Type 0 where
  Leaves : Form
  Sequence : Form
  Other : Form

-- a statement without those in it: its label, its place, and its form
pub record Shape : Type 0 where
  pub label : Option Label
  pub at : ℕ
  pub form : Form

-- statements one after the other, each with those in it: the members of a sequence, or branches
pub data Outline : Type 0 where
  Nothing : Outline
  Then : (s : Shape) (inner rest : Outline) → Outline

-- what a statement does, as far as labels go
pub record Content : Type 0 where
  pub form : Form
  pub inner : Outline

-- a statement before others
abbrev pub Before : Type 0
Before = Outline → Outline

abbrev pub in_order : List Before → Outline
in_order [] = Nothing
in_order (s ∷ rest) = s (in_order rest)

abbrev pub or_nothing : Option Before → Outline
or_nothing None = Nothing
or_nothing (Some s) = s Nothing

abbrev pub body_step : Body-F Content Before Before → Content
body_step Body-F.Empty = record { form = Other; inner = Nothing }
body_step (Body-F.Call name actuals) = record { form = Other; inner = Nothing }
body_step (Body-F.Assign target value) = record { form = Other; inner = Nothing }
body_step (Body-F.Goto label) = record { form = Leaves; inner = Nothing }
body_step (Body-F.Begin body) = record { form = Sequence; inner = in_order body }
body_step (Body-F.If test chosen other) = record { form = Other; inner = chosen (or_nothing other) }
body_step (Body-F.Case selector arms) = record { form = Other; inner = in_order arms }
body_step (Body-F.While test body) = record { form = Other; inner = body Nothing }
body_step (Body-F.Repeat body until test) = record { form = Sequence; inner = in_order body }
body_step (Body-F.For control first down last body) = record { form = Other; inner = body Nothing }

abbrev pub element_step : Element-F Content Before Before → Before
element_step e = e.body

abbrev pub statement_step : Statement-F Content Before Before → Before
statement_step s rest = Then (record { label = s.label; at = s.at.start; form = s.body.form }) s.body.inner rest

unfoldable pub outline_of : Statement → Before
outline_of = fold-Statement Content Before Before body_step element_step statement_step

unfoldable pub content : Body → Content
content = fold-Body Content Before Before body_step element_step statement_step

unfoldable pub arm_of : Element → Before
arm_of = fold-Element Content Before Before body_step element_step statement_step

-- a statement sequence
abbrev pub outline : List Statement → Outline
outline body = in_order (map outline_of body)

-- ---- by paths

-- a statement, and those in it
pub record Node : Type 0 where
  pub shape : Shape
  pub inner : Outline

-- the statement at a path; the outermost sequence, at the empty path, is none
abbrev pub statement_at : Outline → Path → Option Node
statement_at o [] = None
statement_at Nothing (k ∷ p) = None
statement_at (Then s inner rest) (zero ∷ []) = Some (record { shape = s; inner = inner })
statement_at (Then s inner rest) (zero ∷ (j ∷ p)) = statement_at inner (j ∷ p)
statement_at (Then s inner rest) (suc k ∷ p) = statement_at rest (k ∷ p)

abbrev pub is_sequence_form : Form → Bool
is_sequence_form Leaves = false
is_sequence_form Sequence = true
is_sequence_form Other = false

abbrev pub has_sequence : Option Node → Bool
has_sequence None = false
has_sequence (Some n) = is_sequence_form n.shape.form

-- whether a sequence is at a path
abbrev pub is_sequence : Outline → Path → Bool
is_sequence o [] = true
is_sequence o (k ∷ p) = has_sequence (statement_at o (k ∷ p))

-- ---- by places

-- the first and the last place of statements and of those in them
abbrev pub first_place : Outline → ℕ
first_place Nothing = 0
first_place (Then s inner rest) = s.at

abbrev pub last_place : Outline → ℕ
last_place Nothing = 0
last_place (Then s inner rest) = max (max (last_place inner) s.at) (last_place rest)

-- where a labelled statement stands: as a member of a sequence, of which the places are told, or as a branch
pub data Container : Type 0 where
  Members : (first last : ℕ) (outermost : Bool) → Container
  Branches : Container

-- what the statements in a statement are to it
abbrev pub container : Form → Outline → Container
container Sequence inner = Members (first_place inner) (last_place inner) false
container Leaves inner = Branches
container Other inner = Branches

abbrev pub outermost_of : Outline → Bool → Container
outermost_of o outermost = Members (first_place o) (last_place o) outermost

-- a label at a statement
pub record Mark : Type 0 where
  pub value : ℕ
  pub placement : Placement

abbrev pub label_mark : (first last : ℕ) (outermost : Bool) → Option Label → List Mark
label_mark first last outermost None = []
label_mark first last outermost (Some l) = record { value = l.value; placement = record { at = l.at.start; «from» = first; to = last; outermost = outermost } } ∷ []

-- of a member the places of its sequence are kept, of a branch its own
abbrev pub mark : Container → Shape → Outline → List Mark
mark (Members first last outermost) s inner = label_mark first last outermost s.label
mark Branches s inner = label_mark s.at (max (last_place inner) s.at) false s.label

-- those of the members of a sequence
abbrev pub member_marks : Container → Outline → List Mark
member_marks c Nothing = []
member_marks c (Then s inner rest) = mark c s inner ++ member_marks c rest

-- a branch has its mark after those in it; a member has it after those in all members
abbrev pub mark_at_once : Container → Shape → Outline → List Mark
mark_at_once (Members first last outermost) s inner = []
mark_at_once Branches s inner = mark Branches s inner

abbrev pub marks_at_end : Container → Outline → List Mark
marks_at_end (Members first last outermost) o = member_marks (Members first last outermost) o
marks_at_end Branches o = []

abbrev pub marks_inside : Container → Outline → List Mark
marks_inside c Nothing = []
marks_inside c (Then s inner rest) =
    (marks_inside (container s.form inner) inner ++ marks_at_end (container s.form inner) inner) ++ (mark_at_once c s inner ++ marks_inside c rest)

-- the labels at statements and at those in them
abbrev pub marks : Container → Outline → List Mark
marks c o = marks_inside c o ++ marks_at_end c o

-- those of a statement sequence
abbrev pub sequence_marks : List Statement → Bool → List Mark
sequence_marks body outermost = marks (outermost_of (outline body) outermost) (outline body)

-- ---- labels with their statements

-- the earlier in the text
abbrev pub earlier : Option Placement → Placement → Option Placement
earlier None p = Some p
earlier (Some q) p = if nat_le q.at p.at then Some q else Some p

-- the first in the text of the marks with a value, and of one that was there; at one place the one that is earlier in the list
abbrev pub first_of : ℕ → List Mark → Option Placement → Option Placement
first_of n [] placed = placed
first_of n (m ∷ ms) placed = first_of n ms (if nat_eq m.value n then earlier placed m.placement else placed)

abbrev pub noted : ℕ → List Mark → Option LabelDecl → Option LabelDecl
noted n ms None = None
noted n ms (Some d) = Some (record { at = d.at; placed = first_of n ms d.placed })

-- each declared label has its first statement; a label that is not declared is passed over
abbrev pub Notes : Labels → List Mark → Labels → Type 0
Notes old ms new = (n : ℕ) → get nat_eq new n ≡ noted n ms (get nat_eq old n)

-- a block's labels with their statements
abbrev pub marked : Block → Kept
marked b n = noted n (sequence_marks (out-Block b).body true) (declaration_of n (out-Block b).labels None)

-- the label part of a block
unfoldable pub labels_read : Block → Outcome Kept
labels_read b = do
  values ← labels_declared [] (out-Block b).labels
  Ok (marked b)

-- the statements in a statement
abbrev pub below : Content → List Mark
below c = marks (container c.form c.inner) c.inner

abbrev pub content_of : Statement → Content
content_of s = content (out-Statement s).body

-- the last place of a statement and of those in it
abbrev pub end_of : Statement → ℕ
end_of s = max (last_place (content_of s).inner) (out-Statement s).at.start

-- ---- both say the same

-- a label stands before its statement
abbrev pub LabelRises : ℕ → Option Label → ℕ → Type 0
LabelRises least None at = least ≤ at
LabelRises least (Some l) at = (least ≤ l.at.start) × (l.at.start < at)

-- The places of statements and of their labels rise in the order of the text: they lie from `least` on, and before `end`.
abbrev pub Rises : (least : ℕ) → Outline → (end : ℕ) → Type 0
Rises least Nothing end = least ≤ end
Rises least (Then s inner rest) end = (between : ℕ) × LabelRises least s.label s.at × Rises (suc s.at) inner between × Rises between rest end

pub record PlacesRise (body : List Statement) : Type 0 where
  pub first : ℕ
  pub end : ℕ
  pub rise : Rises first (outline body) end

-- a label at the statement at a path
pub record IsLabelAt (o : Outline) (q : Path) (l : Label) : Type 0 where
  pub node : Node
  pub stands : statement_at o q ≡ Some node
  pub has : node.shape.label ≡ Some l

-- a `goto` at a path and a place
pub record IsGotoAt (o : Outline) (p : Path) (at : ℕ) : Type 0 where
  pub node : Node
  pub stands : statement_at o p ≡ Some node
  pub place : node.shape.at ≡ at
  pub leaves : node.shape.form ≡ Leaves

-- What is kept of a label: it stands at the first statement that has it, at a path; a `goto` of the same block may leave for
-- it by its place exactly where it may by its path; and one of an inner routine exactly where it is a member of the
-- outermost sequence.
pub record IsRightPlacement (o : Outline) (value : ℕ) (placed : Placement) : Type 0 where
  pub path : Path
  pub label : Label
  pub stands : IsLabelAt o path label
  pub same : label.value ≡ value
  pub here : label.at.start ≡ placed.at
  pub first : (q : Path) (l : Label) → IsLabelAt o q l → l.value ≡ value → placed.at ≤ l.at.start
  pub reach : (p : Path) (at : ℕ) → IsGotoAt o p at → (may_reach true at placed ≡ true) ↔ MayReach (is_sequence o) p path
  pub from_inside : (at : ℕ) → (may_reach false at placed ≡ true) ↔ ((k : ℕ) × (path ≡ k ∷ []))

-- a declared label of a block, which no statement had before its statement part was walked
abbrev pub IsPlacedRightly : Outline → ℕ → Option Placement → Type 0
IsPlacedRightly o value None = (q : Path) (l : Label) → IsLabelAt o q l → l.value ≡ value → ⊥
IsPlacedRightly o value (Some placed) = IsRightPlacement o value placed
