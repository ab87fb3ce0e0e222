-- The bounds of a `for` stand where its action does.
use Rattle.std.proofs.Common.{◌≡◌, ℕ, Bool, true, ◌&&◌}
use Rattle.std.proofs.lemmas.Bool.{and_parts}
use Rattle.abstract_expr.specs.declared.scope.Scope.{Scope}
use Rattle.abstract_expr.specs.Scopes.{Stands, program_of, seen_of}
use Rattle.pas_program.specs.declared.expr.Expr.{Expr}
use Rattle.pas_program.specs.Checked.{numbers_in, tables}
use Rattle.pas_program.specs.Each.{Rule, each_expr}
use Rattle.pas_program.specs.Typed.{hosted, loop_fits}

-- both bounds pass a rule where the loop does
parts_pass : (q : Rule) (b : Bool) (first last : Expr) → b && (each_expr q first && each_expr q last) ≡ true → (each_expr q first ≡ true) × (each_expr q last ≡ true)
parts_pass q b first last h = and_parts (each_expr q first) (each_expr q last) (and_parts b (each_expr q first && each_expr q last) h).1

pub bounds_stand : (s : Scope) (control bound : ℕ) (first last : Expr)
    → (numbers_in (program_of s)).loop control bound && (each_expr (numbers_in (program_of s)) first && each_expr (numbers_in (program_of s)) last) ≡ true
    → loop_fits (tables (program_of s)) control bound (hosted (tables (program_of s)) first) (hosted (tables (program_of s)) last) ≡ true
    → (seen_of s).loop control bound && (each_expr (seen_of s) first && each_expr (seen_of s) last) ≡ true
    → Stands s first × Stands s last
bounds_stand s control bound first last numbers types seen =
    let n = parts_pass (numbers_in (program_of s)) ((numbers_in (program_of s)).loop control bound) first last numbers in
    let t = and_parts (hosted (tables (program_of s)) first).fits (hosted (tables (program_of s)) last).fits (and_parts _ _ types).0 in
    let v = parts_pass (seen_of s) ((seen_of s).loop control bound) first last seen in
    (record { numbers = n.0; types = t.0; seen = v.0 }, record { numbers = n.1; types = t.1; seen = v.1 })
