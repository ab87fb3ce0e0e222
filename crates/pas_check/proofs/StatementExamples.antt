-- Small statements and what they are in the program, computed. Each stands with its text, whose bytes are counted from 0.
use Rattle.std.proofs.Common.{◌≡◌, ℕ, ℤ, pos, negsuc, false, true, List, [], ◌∷◌, ◌++◌, codes, nat_eq, Option, Some, None, refl, ap, ◌∙◌, if◌then◌else◌}
use Rattle.px_base.specs.declared.operator.BinOp.TheVariants as op
use Rattle.px_base.specs.declared.place.Span.{Span}
use Rattle.pas_program.specs.declared.expr.Actual.TheViews.{out-roll-Access}
use Rattle.pas_program.specs.declared.expr.ExprForm.TheVariants as form
use Rattle.pas_program.specs.declared.statement.Arm.{Arm}
use Rattle.pas_program.specs.declared.statement.Body as program_body
use Rattle.pas_program.specs.declared.statement.Body.TheVariants as body
use Rattle.pas_program.specs.declared.statement.Body.TheViews as program_statement
use Rattle.pas_program.specs.declared.statement.Statement as built
use Rattle.pas_program.specs.declared.statement.WriteValue.TheVariants as item
use Rattle.pas_program.specs.declared.variable.VarKind.TheVariants as kind
use Rattle.pas_tree.specs.declared.constant.Constant.{Constant}
use Rattle.pas_tree.specs.declared.constant.ConstantValue.TheVariants as constant_of
use Rattle.pas_tree.specs.declared.constant.Sign.{Sign}
use Rattle.pas_tree.specs.declared.constant.Sign.TheVariants as sign
use Rattle.pas_check.specs.declared.built.Built.{Built}
use Rattle.pas_check.specs.Constant as constants
use Rattle.pas_check.specs.Expr.{meant, meant_by, variable_named}
use Rattle.pas_check.specs.Forms.{access_by, alone_form, named_form, operand_form, reached_form, scalar_form, value_made}
use Rattle.pas_check.specs.Labels.{unlabelled}
use Rattle.pas_check.specs.Sight.{Sight}
use Rattle.pas_check.specs.StatementForms as statements
use Rattle.pas_check.specs.StatementForms.{BodyForm, StatementForm, assert_form, assignment_form, body_form, for_head_form, goto_form, item_form, read_form, statement_form, target_form, transput_form, undoubled, value_assigned_form, written_form}
use Rattle.pas_check.specs.Statements.{over}
use Rattle.pas_check.proofs.SmallTrees.{Given, KnownBody, KnownStatement, Shown, actual, arm, assigned, binary, called, chosen, counted, indexed, left, name, nothing, number, repeated, statement, string, target, upto, wide}
use Rattle.pas_check.proofs.FormExamples.{access, before, const_at, defined_as, expr, seen, value_at, vars_before}

-- ---- what is expected

abbrev statement_at : ℕ → Option ℕ → List ℕ → program_body.Body → built.Statement
statement_at at label asserts body = program_statement.roll-Statement (record { at = at; label = label; asserts = asserts; body = body })

abbrev arm_at : List ℤ → ℕ → program_body.Body → Arm
arm_at consts at body = program_statement.roll-Arm (record { consts = consts; body = statement_at at None [] body })

-- ---- statements

module _ (s : KnownBody) (v : Sight) (at : Span) (b c : Built) (t : program_body.Body) where
  abbrev does : Type 0
  does = body_form s.tree at v b ≡ Some (t, c)

  does_by : s.form at v b ≡ Some (t, c) → does
  does_by is = ap (λ (f : BodyForm). f at v b) s.is ∙ is

-- a string is its bytes, with one quote for each two and without those around it, at its opening quote; a width follows its value
module _ where
  abbrev string_sight : Sight
  string_sight = seen (codes "write('it''s', x : 3)")

  text : Given string_sight
  text = string (upto 6 13)

  padded : Given string_sight
  padded = wide (name (upto 15 16)) (number 3 (upto 19 20))

  written : KnownBody
  written = called (upto 0 5) (text.tree ∷ padded.tree ∷ [])

  written_does : (b : Built) → does written string_sight (upto 0 5) b b (body.Write (record { value = item.«Text» (codes "it's") 6; width = None } ∷ record { value = item.Value (value_at 15 0); width = Some (const_at 19 (pos 3)) } ∷ []) false)
  unfolding text padded written operand_form scalar_form named_form alone_form value_made meant meant_by statements.call_form statements.called_form transput_form item_form written_form undoubled
  written_does b = does_by written string_sight (upto 0 5) b b _ (simp (text.is, padded.is, out-roll-Access))

-- an element of an array of arrays
module _ where
  abbrev element_sight : Sight
  element_sight = seen (codes "a[1, 2] := x")

  one : Shown element_sight
  one = number 1 (upto 2 3)

  two : Shown element_sight
  two = number 2 (upto 5 6)

  x : Shown element_sight
  x = name (upto 11 12)

  element : KnownBody
  element = assigned (target (upto 0 1) (one.tree ∷ two.tree ∷ []) (upto 0 7)) x.tree

  element_does : (b : Built) → does element element_sight (upto 0 1) b b (body.Assign (access 2 (const_at 2 (pos 1) ∷ const_at 5 (pos 2) ∷ []) 0) (value_at 11 0))
  unfolding one two x element operand_form scalar_form named_form alone_form value_made meant meant_by assignment_form target_form reached_form value_assigned_form
  element_does b = does_by element element_sight (upto 0 1) b b _ (simp (one.is, two.is, x.is, out-roll-Access))

-- a row of an array of arrays is a whole array, which is copied
module _ where
  abbrev row_sight : Sight
  row_sight = seen (codes "a[2] := c[1]")

  index : Shown row_sight
  index = number 2 (upto 2 3)

  row : Shown row_sight
  row = indexed (upto 8 9) (number 1 (upto 10 11) ∷ []) (upto 8 12)

  copied : KnownBody
  copied = assigned (target (upto 0 1) (index.tree ∷ []) (upto 0 4)) row.tree

  copied_does : (b : Built) → does copied row_sight (upto 0 1) b b (body.Copy (access 2 (const_at 2 (pos 2) ∷ []) 0) (access 3 (const_at 10 (pos 1) ∷ []) 8))
  unfolding index row copied operand_form scalar_form named_form alone_form value_made meant meant_by assignment_form target_form reached_form value_assigned_form access_by variable_named
  copied_does b = does_by copied row_sight (upto 0 1) b b _ (simp (index.is, row.is))

-- the whole of an array
module _ where
  abbrev whole_sight : Sight
  whole_sight = seen (codes "a := c")

  source : Shown whole_sight
  source = name (upto 5 6)

  whole : KnownBody
  whole = assigned (target (upto 0 1) [] (upto 0 1)) source.tree

  whole_does : (b : Built) → does whole whole_sight (upto 0 1) b b (body.Copy (access 2 [] 0) (access 3 [] 5))
  unfolding source whole operand_form scalar_form named_form alone_form value_made meant meant_by assignment_form target_form reached_form value_assigned_form
  whole_does b = does_by whole whole_sight (upto 0 1) b b _ (simp source.is)

-- a `for` has a hidden variable with the name and the place of its word, and the type of its control variable
module _ where
  abbrev loop_sight : Sight
  loop_sight = seen (codes "for x := 3 downto 1 do b := true")

  from : Shown loop_sight
  from = number 3 (upto 9 10)

  to : Shown loop_sight
  to = number 1 (upto 18 19)

  truth : Shown (over loop_sight 100)
  truth = name (upto 28 32)

  loop : KnownBody
  loop = counted (upto 4 5) from.tree true to.tree (statement None [] (assigned (target (upto 23 24) [] (upto 23 24)) truth.tree) (upto 23 24))

  loop_does : does loop loop_sight (upto 0 3) before (record before { vars = vars_before ++ defined_as (upto 0 3) 1 kind.Bound 0 ∷ []; frame = record before.frame { bounds = 7 ∷ [] } })
      (body.For 0 7 (const_at 9 (pos 3)) true (const_at 18 (pos 1)) (statement_at 23 None [] (body.Assign (access 1 [] 23) (expr 28 (form.Const true (pos 1))))))
  unfolding from to truth loop operand_form scalar_form named_form alone_form value_made meant meant_by for_head_form assignment_form target_form reached_form value_assigned_form
  loop_does = does_by loop loop_sight (upto 0 3) before _ _ (simp (from.is, to.is, truth.is))

-- a `case` with the constants of its arms, and an empty statement, which stands at the token after it
module _ where
  abbrev choice_sight : Sight
  choice_sight = seen (codes "case x of 1, -2: ; 3: x := 1 end")

  selector : Shown choice_sight
  selector = name (upto 5 6)

  unit : Shown choice_sight
  unit = number 1 (upto 27 28)

  abbrev constant_at : Option Sign → ℕ → Span → Constant
  constant_at sign value span = record { sign = sign; value = constant_of.Number value; span = span }

  choice : KnownBody
  choice = chosen selector.tree (arm (constant_at None 1 (upto 10 11) ∷ constant_at (Some sign.Minus) 2 (upto 13 15) ∷ []) (statement None [] nothing (upto 17 18))
      ∷ arm (constant_at None 3 (upto 19 20) ∷ []) (statement None [] (assigned (target (upto 22 23) [] (upto 22 23)) unit.tree) (upto 22 23)) ∷ [])

  choice_does : (b : Built) → does choice choice_sight (upto 0 4) b b (body.Case (value_at 5 0) (arm_at (pos 1 ∷ negsuc 1 ∷ []) 17 body.Empty ∷ arm_at (pos 3 ∷ []) 22 (body.Assign (access 0 [] 22) (const_at 27 (pos 1))) ∷ []))
  unfolding selector unit choice operand_form scalar_form named_form alone_form value_made meant meant_by assignment_form target_form reached_form value_assigned_form statements.constant_value constants.constant constants.unsigned constants.signed
  choice_does b = does_by choice choice_sight (upto 0 4) b b _ (simp (selector.is, unit.is, out-roll-Access))

-- a statement begins after its label and its assertions, which have numbers and the routine in which they stand
module _ where
  abbrev marked_sight : Sight
  marked_sight = seen (codes "9: {% b %} {% x = 1 ? %} x := 2")

  always : Shown (record marked_sight { asserting = true })
  always = name (upto 6 7)

  once : Shown (record marked_sight { asserting = true })
  once = binary op.Eq (name (upto 14 15)) (number 1 (upto 18 19)) (upto 16 17) (upto 14 19)

  second : Shown marked_sight
  second = number 2 (upto 30 31)

  marked : KnownStatement
  marked = statement (Some (record { value = 9; at = upto 0 1 })) (record { cond = always.tree; sometime = false; span = upto 3 10 } ∷ record { cond = once.tree; sometime = true; span = upto 11 24 } ∷ [])
      (assigned (target (upto 25 26) [] (upto 25 26)) second.tree) (upto 25 26)

  marked_does : statement_form marked.tree marked_sight before ≡ Some (
    statement_at 25 (Some 9) (0 ∷ 1 ∷ []) (body.Assign (access 0 [] 25) (const_at 30 (pos 2))),
    record before {
      asserts = record { routine = 1; sometime = false; cond = value_at 6 1; at = 3 }
          ∷ record { routine = 1; sometime = true; cond = expr 14 (form.Binary op.Eq (value_at 14 0) (const_at 18 (pos 1)) 16); at = 11 } ∷ [];
    },
  )
  unfolding always once second marked operand_form scalar_form named_form alone_form value_made meant meant_by assert_form assignment_form target_form reached_form value_assigned_form
  marked_does = ap (λ (f : StatementForm). f marked_sight before) marked.is ∙ simp (always.is, once.is, second.is, out-roll-Access)

-- a `goto` in routine 0 to a label of the block around, which is that of routine 1
module _ where
  abbrev leaving_sight : Sight
  leaving_sight = record (seen (codes "goto 9")) {
    labels = unlabelled 0 ∷ record {
      routine = 1;
      function = None;
      labels = λ n. if nat_eq n 9 then Some (record { at = 95; placed = Some (record { at = 300; from = 300; to = 340; outermost = true }) }) else None;
    } ∷ [];
  }

  leaving : KnownBody
  leaving = left (record { value = 9; at = upto 5 6 })

  leaving_does : (b : Built) → does leaving leaving_sight (upto 0 4) b b (body.Goto 1 9)
  unfolding leaving goto_form
  leaving_does b = does_by leaving leaving_sight (upto 0 4) b b _ refl

-- in the block of a function its name stands for the variable of its result
module _ where
  abbrev result_sight : Sight
  result_sight = record (seen (codes "f := 1")) { labels = record { routine = 0; function = Some 0; labels = λ n. None } ∷ unlabelled 1 ∷ []; level = 1 }

  given : Shown result_sight
  given = number 1 (upto 5 6)

  result : KnownBody
  result = assigned (target (upto 0 1) [] (upto 0 1)) given.tree

  result_does : (b : Built) → does result result_sight (upto 0 1) b b (body.Assign (access 6 [] 0) (const_at 5 (pos 1)))
  unfolding given result operand_form scalar_form meant meant_by assignment_form target_form reached_form value_assigned_form
  result_does b = does_by result result_sight (upto 0 1) b b _ (simp given.is)

-- a variable that is read, with its line
module _ where
  abbrev line_sight : Sight
  line_sight = seen (codes "readln(x)")

  item_read : Given line_sight
  item_read = actual (name (upto 7 8))

  line : KnownBody
  line = called (upto 0 6) (item_read.tree ∷ [])

  line_does : (b : Built) → does line line_sight (upto 0 6) b b (body.Read (access 0 [] 7 ∷ []) true)
  unfolding item_read line meant meant_by statements.call_form statements.called_form transput_form read_form
  line_does b = does_by line line_sight (upto 0 6) b b _ (simp item_read.is)

-- a `repeat` with the place of its `until`, and before that an empty statement
module _ where
  abbrev until_sight : Sight
  until_sight = seen (codes "repeat readln; until b")

  test : Shown until_sight
  test = name (upto 21 22)

  turns : KnownBody
  turns = repeated (statement None [] (called (upto 7 13) []) (upto 7 13) ∷ statement None [] nothing (upto 15 20) ∷ []) (upto 15 20) test.tree

  turns_do : (b : Built) → does turns until_sight (upto 0 6) b b (body.Repeat (statement_at 7 None [] (body.Read [] true) ∷ statement_at 15 None [] body.Empty ∷ []) 15 (value_at 21 1))
  unfolding test turns operand_form scalar_form named_form alone_form value_made meant meant_by statements.call_form statements.called_form transput_form
  turns_do b = does_by turns until_sight (upto 0 6) b b _ (simp (test.is, out-roll-Access))
