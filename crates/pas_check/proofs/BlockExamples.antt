-- The routines of a small block, with their numbers.
use Rattle.std.proofs.Common.{◌≡◌, ℕ, suc, false, List, [], ◌∷◌, map, codes, Some, None, refl, ap, ◌∙◌}
use Rattle.std.specs.List.{sum}
use Rattle.px_base.specs.declared.place.Span.{Span}
use Rattle.pas_program.specs.declared.statement.Statement.{Statement}
use Rattle.pas_tree.specs.declared.block.Block.{Block}
use Rattle.pas_tree.specs.declared.block.Routine.{Routine}
use Rattle.pas_tree.specs.declared.block.RoutineBody.{RoutineBody}
use Rattle.pas_tree.specs.declared.block.RoutineBody.TheFolds.{fold-roll-Block, fold-roll-Routine, fold-roll-RoutineBody}
use Rattle.pas_tree.specs.declared.block.RoutineBody.TheOpen.{RoutineBody-F}
use Rattle.pas_tree.specs.declared.block.RoutineBody.TheViews.{out-roll-RoutineBody, roll-Block, roll-Routine, roll-RoutineBody}
use Rattle.pas_check.specs.Block.{block_ends, body_ends, ends_inside, ends_of, routine_ends}
use Rattle.pas_check.specs.Blocks.{planned}
use Rattle.pas_check.specs.Built.{finished}
use Rattle.pas_check.proofs.SmallTrees.{upto}

-- a block or a routine, with how many routines end in it
record Counted : Type 0 where
  tree : Block
  ends : ℕ
  is : ends_inside tree ≡ ends

record CountedRoutine : Type 0 where
  tree : Routine
  ends : ℕ
  is : ends_of tree ≡ ends

abbrev routines_in : List CountedRoutine → List Routine
routines_in rs = map (λ (r : CountedRoutine). r.tree) rs

abbrev ends_in : List CountedRoutine → List ℕ
ends_in rs = map (λ (r : CountedRoutine). r.ends) rs

all_counted : (rs : List CountedRoutine) → map ends_of (routines_in rs) ≡ ends_in rs
all_counted [] = refl
all_counted (r ∷ rest) = ap (λ n. n ∷ map ends_of (routines_in rest)) r.is ∙ ap (λ ns. r.ends ∷ ns) (all_counted rest)

abbrev block_tree : List CountedRoutine → Span → Span → Block
block_tree rs first last = roll-Block (record { labels = []; consts = []; types = []; vars = []; routines = routines_in rs; «begin» = first; body = []; «end» = last })

block_is : (rs : List CountedRoutine) (first last : Span) → ends_inside (block_tree rs first last) ≡ sum (ends_in rs)
unfolding ends_inside ends_of
block_is rs first last =
    fold-roll-Block ℕ ℕ ℕ body_ends block_ends routine_ends (record { labels = []; consts = []; types = []; vars = []; routines = routines_in rs; «begin» = first; body = []; «end» = last })
    ∙ ap sum (all_counted rs)

abbrev block : List CountedRoutine → Span → Span → Counted
block rs first last = record { tree = block_tree rs first last; ends = sum (ends_in rs); is = block_is rs first last }

abbrev procedure_tree : Span → RoutineBody-F RoutineBody Block Routine → Routine
procedure_tree name body = roll-Routine (record { name = name; function = false; formals = []; result = None; body = roll-RoutineBody body })

procedure_is : (name : Span) (b : Counted) → ends_of (procedure_tree name (RoutineBody-F.Block b.tree)) ≡ suc b.ends
unfolding ends_inside ends_of
procedure_is name b =
    fold-roll-Routine ℕ ℕ ℕ body_ends block_ends routine_ends (record { name = name; function = false; formals = []; result = None; body = roll-RoutineBody (RoutineBody-F.Block b.tree) })
    ∙ fold-roll-RoutineBody ℕ ℕ ℕ body_ends block_ends routine_ends (RoutineBody-F.Block b.tree) ∙ ap suc b.is

word_is : (name word : Span) → ends_of (procedure_tree name (RoutineBody-F.Word word)) ≡ 0
unfolding ends_of
word_is name word =
    fold-roll-Routine ℕ ℕ ℕ body_ends block_ends routine_ends (record { name = name; function = false; formals = []; result = None; body = roll-RoutineBody (RoutineBody-F.Word word) })
    ∙ fold-roll-RoutineBody ℕ ℕ ℕ body_ends block_ends routine_ends (RoutineBody-F.Word word)

abbrev procedure : Span → Counted → CountedRoutine
procedure name b = record { tree = procedure_tree name (RoutineBody-F.Block b.tree); ends = suc b.ends; is = procedure_is name b }

abbrev forwards : Span → Span → CountedRoutine
forwards name word = record { tree = procedure_tree name (RoutineBody-F.Word word); ends = 0; is = word_is name word }

-- ---- `q` and its later body, which has `t` in it, with `r` between them, which has `s` in it

abbrev text : List ℕ
text = codes "procedure q; forward; procedure r; procedure s; begin end; begin end; procedure Q; procedure t; begin end; begin end;"

q : CountedRoutine
q = forwards (upto 10 11) (upto 13 20)

r_block : Counted
r_block = block (procedure (upto 45 46) (block [] (upto 48 53) (upto 54 57)) ∷ []) (upto 59 64) (upto 65 68)

r : CountedRoutine
unfolding r_block
r = procedure (upto 32 33) r_block

q_block : Counted
q_block = block (procedure (upto 93 94) (block [] (upto 96 101) (upto 102 105)) ∷ []) (upto 107 112) (upto 113 116)

q_body : CountedRoutine
unfolding q_block
q_body = procedure (upto 80 81) q_block

-- `s`, `r`, `t` and `q` end inside the block around
whole : Counted
unfolding q r q_body
whole = block (q ∷ r ∷ q_body ∷ []) (upto 118 123) (upto 124 127)

four_end : ends_inside whole.tree ≡ 4
unfolding whole q r q_body r_block q_block
four_end = whole.is

-- `s` is routine 0, `r` 1, `t` 2 and `q` 3, by both of its headings
numbers : planned text 0 (q.tree ∷ r.tree ∷ q_body.tree ∷ []) ≡
    record { routine = q.tree; number = 3; later = Some q_block.tree } ∷ record { routine = r.tree; number = 1; later = None } ∷ record { routine = q_body.tree; number = 3; later = None } ∷ []
unfolding q r q_body r_block q_block
numbers = simp (out-roll-RoutineBody, q.is, r.is, r_block.is, q_block.is)

-- where two routines have ended before the block
later_numbers : planned text 2 (q.tree ∷ r.tree ∷ q_body.tree ∷ []) ≡
    record { routine = q.tree; number = 5; later = Some q_block.tree } ∷ record { routine = r.tree; number = 3; later = None } ∷ record { routine = q_body.tree; number = 5; later = None } ∷ []
unfolding q r q_body r_block q_block
later_numbers = simp (out-roll-RoutineBody, q.is, r.is, r_block.is, q_block.is)

-- the variables of a routine: parameters, locals, the result, the hidden ones for calls, and those for `for` statements
finished_is : (names : List Span) (body : Statement) → finished (record { name = upto 10 11; routine = 0; parent = Some 1; level = 1; formals = 4 ∷ 5 ∷ []; result = Some 6; locals = 7 ∷ []; slots = 9 ∷ []; bounds = 8 ∷ [] }) names body
    ≡ record { name = upto 10 11; parent = Some 1; level = 1; names = names; formals = 4 ∷ 5 ∷ []; vars = 4 ∷ 5 ∷ 7 ∷ 6 ∷ 9 ∷ 8 ∷ []; result = Some 6; body = body }
finished_is names body = refl
