-- Blocks and the routines in them (ISO 7185, 6.2 and 6.6), and what they may answer: where the walk stands after them, or the fault
-- of the first rule that they break.
use Rattle.std.specs.Prelude.{◌≡◌, ℕ, ◌+◌, ◌≤◌, pos, ◌-ℤ◌, Bool, true, false, ◌&&◌, not, List, [], ◌∷◌, map, length, codes, is_some, Option, Some, None, Ok, Err, if◌then◌else◌}
use Rattle.std.specs.Bool.{beq}
use Rattle.std.specs.Option.{option_copied, option_map}
use Rattle.std.specs.Str.{bytes_eq, str_to_ascii_lowercase}
use Rattle.std.specs.declared.alloc.Global.{Global}
use Rattle.std.specs.declared.vec.Vec.{Vec}
use Rattle.px_base.specs.declared.place.Span.{Span}
use Rattle.pas_program.specs.declared.type_def.TypeDef.{TypeDef}
use Rattle.pas_program.specs.declared.type_def.TypeDef.TheVariants.{Scalar}
use Rattle.pas_program.specs.Types.{maxint}
use Rattle.pas_tree.specs.declared.block.Block.{Block}
use Rattle.pas_tree.specs.declared.block.Routine.{Routine}
use Rattle.pas_tree.specs.declared.block.RoutineBody.TheOpen.{RoutineBody-F}
use Rattle.pas_tree.specs.declared.block.RoutineBody.TheVariants as body_of
use Rattle.pas_tree.specs.declared.block.RoutineBody.TheViews.{out-Block, out-Routine, out-RoutineBody}
use Rattle.pas_tree.specs.declared.block.Tree.{Tree}
use Rattle.pas_tree.specs.declared.statement.Statement.{Statement}
use Rattle.pas_program.specs.declared.statement.Body.TheVariants as body
use Rattle.pas_program.specs.declared.statement.Body.TheViews.{roll-Statement}
use Rattle.pas_program.specs.declared.statement.Statement as statement
use Rattle.pas_check.specs.declared.block.Outer.{Outer}
use Rattle.pas_check.specs.declared.built.Built.{Built}
use Rattle.pas_check.specs.declared.fault.CheckFault.{CheckFault}
use Rattle.pas_check.specs.declared.fault.CheckFault.TheVariants as told
use Rattle.pas_check.specs.declared.fault.Fault.{Fault}
use Rattle.pas_check.specs.declared.fault.Fault.TheVariants.{Broken, Memory}
use Rattle.pas_check.specs.declared.fault.Rule.{Rule}
use Rattle.pas_check.specs.declared.fault.Rule.TheVariants as rule
use Rattle.pas_check.specs.declared.frame.Frame.{Frame}
use Rattle.pas_check.specs.declared.heading.Function.{Function}
use Rattle.pas_check.specs.declared.heading.Opened.{Opened}
use Rattle.pas_check.specs.declared.meaning.Meaning.{Meaning}
use Rattle.pas_check.specs.declared.meaning.Meaning.TheVariants as means
use Rattle.pas_check.specs.declared.meaning.Required.TheVariants as function
use Rattle.pas_check.specs.declared.meaning.Transput.TheVariants as transput
use Rattle.pas_check.specs.declared.plan.Plan.{Plan}
use Rattle.pas_check.specs.declared.waiting.Waiting.{Waiting}
use Rattle.pas_check.specs.Block.{ends_inside, ends_of, names_in}
use Rattle.pas_check.specs.Control.{all_assigned, all_threatened}
use Rattle.pas_check.specs.Built.{frame_of, nothing_built, with_routine}
use Rattle.pas_check.specs.Declarations.{const_declared, led_by, type_declared, var_declared}
use Rattle.pas_check.specs.Headings.{heading_read, inside, outside}
use Rattle.pas_check.specs.Hiding.{other_names}
use Rattle.pas_check.specs.Labels.{Kept, Labelled, placed_in, unlabelled}
use Rattle.pas_check.specs.Names.{Name, Names, ended, name_at, noted_all, spelling}
use Rattle.pas_check.specs.Outcome.{Outcome, ◌>>=◌, each, unless}
use Rattle.pas_check.specs.Placing.{labels_read}
use Rattle.pas_check.specs.Routine.{repeated_heading, result_assigned}
use Rattle.pas_check.specs.Rules.{code_of, lacks_body}
use Rattle.pas_check.specs.Sight.{Sight}
use Rattle.pas_check.specs.Stage.{Stage}
use Rattle.pas_check.specs.StatementForms.{sequence_form}
use Rattle.pas_check.specs.Statements.{in_turn, stated}
use Rattle.pas_check.specs.Writes.{in_turn_writes, statement_writes}
use Rattle.pas_check.specs.Written.{Written}

-- ---- the parts before the routines

-- constants, types and variables
unfoldable pub parts : Stage → Block → Outcome Stage
parts s b = do
  u ← led_by const_declared s.seen (out-Block b).consts
  w ← led_by type_declared u (out-Block b).types
  led_by var_declared (record s { seen = w }) (out-Block b).vars

abbrev pub head_of : Function → ℕ
head_of f = f.head

-- the block of an opening, with what is kept of its labels
abbrev pub own_block : Opened → Kept → Labelled
own_block p labels = record { routine = p.frame.routine; function = option_map head_of p.result; labels = labels }

abbrev pub entered : Stage → Opened → Labelled → Stage
entered s p l = record { seen = record (inside s.seen p.names l) { level = p.frame.level }; built = record s.built { frame = p.frame } }

-- the block of an opening, up to its routines
unfoldable pub begins : Stage → Opened → Block → Outcome Stage
begins s p b = do
  labels ← labels_read b
  parts (entered s p (own_block p labels)) b

-- ---- headings and their blocks

abbrev pub block_in : {A B C : Type 0} → RoutineBody-F A B C → Option B
block_in (RoutineBody-F.Block b) = Some b
block_in (RoutineBody-F.Word w) = None

-- the block of a heading; a word, as `forward`, may stand in its place
abbrev pub block_of : Routine → Option Block
block_of r = block_in (out-RoutineBody (out-Routine r).body)

-- whether a heading has a block, this name and this word
abbrev pub is_body_of : List ℕ → Name → Bool → Routine → Bool
is_body_of text name function r = is_some (block_of r) && (bytes_eq name (name_at text (out-Routine r).name) && beq function (out-Routine r).function)

-- a block with the number of its routine, where the routines before it are so many: each routine has the next number when it ends
abbrev pub Numbered : Type 0
Numbered = ℕ × Block

abbrev pub numbered : ℕ → Block → Numbered
numbered before b = (before + ends_inside b, b)

-- the block of a `forward` heading among those after it: the first with its name and its word
abbrev pub later_block : List ℕ → Name → Bool → ℕ → List Routine → Option Numbered
later_block text name function before [] = None
later_block text name function before (r ∷ rest) =
    if is_body_of text name function r then option_map (numbered before) (block_of r) else later_block text name function (before + ends_of r) rest

abbrev pub body_after : List ℕ → Routine → ℕ → List Routine → Option Numbered
body_after text r before rest = later_block text (name_at text (out-Routine r).name) (out-Routine r).function (before + ends_of r) rest

-- A heading of a block: the number of its routine, and the block that it waits for where it has none.
pub record Planned : Type 0 where
  pub routine : Routine
  pub number : ℕ
  pub later : Option Block

-- a heading without a block waits for a later one; if there is none, it has any number
abbrev pub plan_by : Routine → ℕ → Option Block → Option Numbered → Planned
plan_by r before (Some b) later = record { routine = r; number = before + ends_inside b; later = None }
plan_by r before None None = record { routine = r; number = before; later = None }
plan_by r before None (Some p) = record { routine = r; number = p.0; later = Some p.1 }

-- the headings of a block before which so many routines have ended
abbrev pub planned : List ℕ → ℕ → List Routine → List Planned
planned text before [] = []
planned text before (r ∷ rest) = plan_by r before (block_of r) (body_after text r before rest) ∷ planned text (before + ends_of r) rest

-- at the end of the block around, each `forward` heading has its body
abbrev pub body_given : List ℕ → Routine → List Routine → Outcome (Unit {0})
body_given text r rest =
    unless (not (is_some (block_of r)) && lacks_body (is_some (body_after text r 0 rest))) rule.Body (out-Routine r).name.start (Ok tt)

abbrev pub bodies_given : List ℕ → List Routine → Outcome (Unit {0})
bodies_given text [] = Ok tt
bodies_given text (r ∷ rest) = do
  done ← body_given text r rest
  bodies_given text rest

-- what the code keeps of both
abbrev pub plan_of : Plan → ℕ × Option Block
plan_of p = (p.number, option_copied p.later)

abbrev pub planned_of : Planned → ℕ × Option Block
planned_of p = (p.number, p.later)

abbrev pub planned_with : Routine → Plan → Planned
planned_with r p = record { routine = r; number = p.number; later = option_copied p.later }

abbrev pub lacking_by : Option ℕ → Outcome (Unit {0})
lacking_by None = Ok tt
lacking_by (Some at) = Err (Broken rule.Body at)

-- ---- routines

-- where the walk stands before and after routines of a block, and the `forward` headings that wait for their bodies, by their names
pub record Standing : Type 0 where
  pub at : Stage
  pub waiting : Name → Option Opened

-- of several with a name, the first
abbrev pub opening_for : Name → List (Vec ℕ Global × Opened) → Option Opened
opening_for name [] = None
opening_for name (e ∷ rest) = if bytes_eq name e.0.items then Some e.1 else opening_for name rest

abbrev pub waiting_of : Waiting → Name → Option Opened
waiting_of w name = opening_for name w.opened.entries

abbrev pub nothing_waits : Name → Option Opened
nothing_waits name = None

-- a heading waits, or waits no more
abbrev pub waits : (Name → Option Opened) → Name → Option Opened → Name → Option Opened
waits waiting name o other = if bytes_eq name other then o else waiting other

-- one that waits for a body with this word
abbrev pub with_word : Bool → Option Opened → Option Opened
with_word function None = None
with_word function (Some o) = if beq function o.function then Some o else None

abbrev pub waits_for : Standing → Routine → Option Opened
waits_for s r = with_word (out-Routine r).function (s.waiting (name_at s.at.seen.text (out-Routine r).name))

-- the only word that may stand in the place of a block
abbrev pub is_forward : List ℕ → Span → Bool
is_forward text word = bytes_eq (str_to_ascii_lowercase (spelling text word)) (codes "forward")

abbrev pub forwarded : Standing → Routine → Span → Stage × Opened → Outcome Standing
forwarded s r word h =
    unless (not (is_forward h.0.seen.text word)) rule.Kind word.start
    (Ok (record { at = h.0; waiting = waits s.waiting (name_at h.0.seen.text (out-Routine r).name) (Some h.1) }))

-- a heading with a word in the place of its block, which waits for a later block
unfoldable pub forward_read : Standing → Planned → Span → Outcome Standing
forward_read s p word = do
  h ← heading_read s.at p.routine p.number p.later
  forwarded s p.routine word h

abbrev pub opened_by : Standing → Routine → Block → ℕ → Option Opened → Outcome (Standing × Opened)
opened_by s r b number (Some p) = do
  done ← repeated_heading (out-Routine r)
  Ok (record s { waiting = waits s.waiting (name_at s.at.seen.text (out-Routine r).name) None }, p)
opened_by s r b number None = do
  h ← heading_read s.at r number (Some b)
  Ok (record s { at = h.0 }, h.1)

-- a heading with its block, up to the block: the body of one that waits, or a heading of its own
unfoldable pub opened : Standing → Planned → Block → Outcome (Standing × Opened)
opened s p b = opened_by s p.routine b p.number (waits_for s p.routine)

-- ---- blocks

-- a statement part has ended that writes
abbrev pub written_in : Sight → Written → Sight
written_in v w = all_assigned (all_threatened v w.threats) w.assigned

abbrev pub nothing_written : Written
nothing_written = record { threats = []; assigned = [] }

-- a statement part
unfoldable pub statements_ended : Sight → List Statement → Outcome Sight
statements_ended v body = do
  done ← in_turn (map stated body) v
  Ok (written_in v (in_turn_writes (map statement_writes body) v nothing_written))

-- the tests at the end of a block, in the order of their places; its names were spelled in a text
unfoldable pub end_allowed : List ℕ → Sight → Option Function → Block → Outcome (Unit {0})
end_allowed text v result b = do
  assigned ← result_assigned v result
  placed ← each (placed_in v.labels) (out-Block b).labels
  bodies_given text (out-Block b).routines

-- the block ends, and what is around it counts again
abbrev pub left : Sight → Sight → Sight
left v w = record (outside w) { level = v.level }

-- from the statement part on, for the block of an opening that began at v
unfoldable pub block_ended : Sight → Opened → Block → List ℕ → Sight → Outcome Sight
block_ended v p b text s = do
  w ← statements_ended s (out-Block b).body
  done ← end_allowed text w p.result b
  Ok (left v w)

-- a statement part as one statement
abbrev pub statement_of : Block → List statement.Statement → statement.Statement
statement_of b statements = roll-Statement (record { at = (out-Block b).begin.start; label = None; asserts = []; body = body.Begin statements (out-Block b).end.start })

-- the routine of the block is built, and the one around it is at hand again
abbrev pub block_built : Frame → List Span → Block → List statement.Statement → Built → Built
block_built around names b statements built = with_routine built.frame names (statement_of b statements) (record built { frame = around })

-- From the statement part on, where the walk stands before it, of a block that began at a stage: the fault of the first rule that is
-- broken, or the routine of the block, which is the one of its number.
pub data EndMay (s : Stage) (p : Opened) (b : Block) (text : List ℕ) (t : Stage) : Outcome Stage → Type 0 where
  not_ended : {f : Fault} → block_ended s.seen p b text t.seen ≡ Err f → EndMay s p b text t (Err f)
  ends : {w : Sight} {x : List statement.Statement × Built} → block_ended s.seen p b text t.seen ≡ Ok w → sequence_form t.seen (out-Block b).body t.built ≡ Some x → x.1.frame.routine ≡ length x.1.routines
      → EndMay s p b text t (Ok (record { seen = w; built = block_built s.built.frame (other_names t.seen.text b) b x.0 x.1 }))

-- what the walk keeps of what is around the block
abbrev pub outer_of : Stage → Outer
outer_of s = record { frame = s.built.frame; level = s.seen.level }

abbrev pub standing : Stage → (Name → Option Opened) → Standing
standing s waiting = record { at = s; waiting = waiting }

-- the headings of a block, when its routines begin
abbrev pub planned_in : Stage → Block → List Planned
planned_in s b = planned s.seen.text (length s.built.routines) (out-Block b).routines

mutual
  -- the block of an opening, from where the walk stands before it
  pub data BlockMay : Stage → Opened → Block → Outcome Stage → Type 0 where
    not_begun : {s : Stage} {p : Opened} {b : Block} {f : Fault} → begins s p b ≡ Err f → BlockMay s p b (Err f)
    in_routines : {s u : Stage} {p : Opened} {b : Block} {f : Fault} → begins s p b ≡ Ok u → RoutinesMay (standing u nothing_waits) (planned_in u b) (Err f) → BlockMay s p b (Err f)
    to_end : {s u : Stage} {p : Opened} {b : Block} {t : Standing} {o : Outcome Stage} → begins s p b ≡ Ok u → RoutinesMay (standing u nothing_waits) (planned_in u b) (Ok t)
        → EndMay s p b u.seen.text t.at o → BlockMay s p b o

  -- headings with their blocks, one after the other
  pub data RoutinesMay : Standing → List Planned → Outcome Standing → Type 0 where
    no_more : {s : Standing} → RoutinesMay s [] (Ok s)
    stops_in : {s : Standing} {p : Planned} {rest : List Planned} {f : Fault} → RoutineMay s p (Err f) → RoutinesMay s (p ∷ rest) (Err f)
    goes_on : {s t : Standing} {p : Planned} {rest : List Planned} {o : Outcome Standing} → RoutineMay s p (Ok t) → RoutinesMay t rest o → RoutinesMay s (p ∷ rest) o

  -- a heading with its block, or with a word in its place, for which a later block may count
  pub data RoutineMay : Standing → Planned → Outcome Standing → Type 0 where
    is_word : {s : Standing} {p : Planned} {o : Outcome Standing} (word : Span) → (out-Routine p.routine).body ≡ body_of.Word word → forward_read s p word ≡ o → RoutineMay s p o
    not_opened : {s : Standing} {p : Planned} {f : Fault} (b : Block) → (out-Routine p.routine).body ≡ body_of.Block b → opened s p b ≡ Err f → RoutineMay s p (Err f)
    in_block : {s t : Standing} {p : Planned} {q : Opened} {f : Fault} (b : Block) → (out-Routine p.routine).body ≡ body_of.Block b → opened s p b ≡ Ok (t, q) → BlockMay t.at q b (Err f) → RoutineMay s p (Err f)
    whole_block : {s t : Standing} {p : Planned} {q : Opened} {w : Stage} (b : Block) → (out-Routine p.routine).body ≡ body_of.Block b → opened s p b ≡ Ok (t, q) → BlockMay t.at q b (Ok w)
        → RoutineMay s p (Ok (standing w t.waiting))

-- ---- programs

-- `integer` and `Boolean`, by their numbers
abbrev pub required_types : List TypeDef
required_types = Scalar false (pos 0 -ℤ pos maxint) (pos maxint) ∷ Scalar true (pos 0) (pos 1) ∷ []

-- what every program may use
abbrev pub required : List (Name × Meaning)
required =
    (codes "integer", means.Type 0) ∷ (codes "boolean", means.Type 1) ∷ (codes "maxint", means.Constant (record { boolean = false; value = pos maxint }))
    ∷ (codes "true", means.Constant (record { boolean = true; value = pos 1 })) ∷ (codes "false", means.Constant (record { boolean = true; value = pos 0 }))
    ∷ (codes "abs", means.Required function.Abs) ∷ (codes "sqr", means.Required function.Sqr) ∷ (codes "odd", means.Required function.Odd)
    ∷ (codes "succ", means.Required function.Succ) ∷ (codes "pred", means.Required function.Pred) ∷ (codes "ord", means.Required function.Ord)
    ∷ (codes "read", means.Transput transput.Read) ∷ (codes "readln", means.Transput transput.Readln)
    ∷ (codes "write", means.Transput transput.Write) ∷ (codes "writeln", means.Transput transput.Writeln) ∷ []

-- they are declared in a block around the program's
abbrev pub all_ended : List (Name × Meaning) → Names → Names
all_ended [] names = names
all_ended (n ∷ rest) names = all_ended rest (ended n.0 0 n.1 names)

-- what is seen at the beginning: nothing but these; the program's routine has a number
abbrev pub at_first : List ℕ → ℕ → Sight
at_first text number = record {
  text = text;
  blocks = all_ended required [] ∷ [];
  labels = unlabelled number ∷ [];
  types = required_types;
  headings = [];
  level = 0;
  asserting = false;
  looping = λ n. false;
  threatened = λ n. false;
  assigned = λ n. false;
}

-- the frame of a program's block, which is the last to end
abbrev pub program_frame : Tree → Frame
program_frame tree = frame_of tree.name (ends_inside tree.block) None 0 [] None

-- where the walk of a program begins, where nothing is built
abbrev pub program_start : List ℕ → Tree → Stage
program_start text tree = record { seen = at_first text (ends_inside tree.block); built = nothing_built (program_frame tree) }

-- the block of a program
abbrev pub program_opened : List ℕ → Tree → Opened
program_opened text tree = record { frame = program_frame tree; function = false; names = noted_all text (names_in tree.block) []; result = None }

-- what a program may answer
abbrev pub ProgramMay : List ℕ → Tree → Outcome Stage → Type 0
ProgramMay text tree o = BlockMay (program_start text tree) (program_opened text tree) tree.block o

-- The rule is broken at the place, and no rule is before it in the order of the text.
abbrev pub IsFirstBroken : List ℕ → Tree → Rule → ℕ → Type 0
IsFirstBroken text tree rule at = ProgramMay text tree (Err (Broken rule at))

-- a fault as it is told: the code of a rule, and the place where it is broken, if it lies in the text
abbrev pub IsSound : List ℕ → Tree → CheckFault → Type 0
IsSound text tree (told.Wrong code at) = (rule : Rule) × (place : ℕ) × (code ≡ code_of rule) × (place ≤ length text → at ≡ place) × IsFirstBroken text tree rule place
IsSound text tree (told.Memory e) = Unit {0}

-- the same before it is told
abbrev pub IsSoundFault : List ℕ → Tree → Fault → Type 0
IsSoundFault text tree (Broken rule at) = IsFirstBroken text tree rule at
IsSoundFault text tree (Memory e) = Unit {0}
