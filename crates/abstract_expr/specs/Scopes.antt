-- What a scope of the code stands for, and what can be judged in it.
use Rattle.std.specs.Prelude.{◌≡◌, ℕ, true}
use Rattle.pas_program.specs.declared.expr.Access.{Access}
use Rattle.pas_program.specs.declared.expr.Expr.{Expr}
use Rattle.pas_program.specs.declared.program.Program.{Program}
use Rattle.pas_program.specs.Checked.{numbers_in, tables}
use Rattle.pas_program.specs.Each.{Rule, each_access, each_expr}
use Rattle.pas_program.specs.Typed.{hosted, reached}
use Rattle.abstract_expr.specs.declared.scope.Scope.{Scope}
use Rattle.abstract_expr.specs.Expressions as meaning
use Rattle.abstract_expr.specs.Standing.{cells_in, scope_in, seen_in}

abbrev pub scope_of : Scope → meaning.Scope
scope_of s = scope_in s.flow.now s.names.classes.now s.names.class

abbrev pub program_of : Scope → Program
program_of s = s.flow.now.program

-- how many cells its class has
abbrev pub cells_of : Scope → ℕ
cells_of s = cells_in s.names.classes.now s.names.class

-- what is seen from its class
abbrev pub seen_of : Scope → Rule
seen_of s = seen_in s.names.classes.now s.names.class

-- an expression of the program whose variables are seen
pub record Stands (s : Scope) (e : Expr) : Type 0 where
  pub numbers : each_expr (numbers_in (program_of s)) e ≡ true
  pub types : (hosted (tables (program_of s)) e).fits ≡ true
  pub seen : each_expr (seen_of s) e ≡ true

-- the same of a variable with its subscripts
pub record AccessStands (s : Scope) (a : Access) : Type 0 where
  pub numbers : each_access (numbers_in (program_of s)) a ≡ true
  pub types : (reached (tables (program_of s)) a).fits ≡ true
  pub seen : each_access (seen_of s) a ≡ true
