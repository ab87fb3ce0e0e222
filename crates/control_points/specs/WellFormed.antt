-- What a chart has that is that of a flow: what each step of a run rests on.
use Rattle.std.specs.Prelude.{◌≡◌, ℕ, true, is_some, Some, None, slice_get, ℤ}
use Rattle.pas_program.specs.declared.type_def.TypeDef.TheVariants.{Scalar, Array}
use Rattle.pas_program.specs.declared.variable.VarDef.{VarDef}
use Rattle.pas_program.specs.declared.variable.VarKind.TheVariants as kind
use Rattle.pas_program.specs.Scopes.{contains, scope_rule}
use Rattle.pas_program.specs.Tables.{Tables, Head, is_own}
use Rattle.pas_program.specs.Types.{in_host}
use Rattle.std.specs.Prelude.{Bool}
use Rattle.control_points.specs.declared.edge.Edge.{Edge}
use Rattle.control_points.specs.Acts.{each_act, act_types_fit}
use Rattle.control_points.specs.Chart.{Chart, entry_of}
use Rattle.control_points.specs.Fits.{CallsReturn, routine_at}
use Rattle.control_points.specs.Judgements.{EdgesJudgeAlike}
use Rattle.control_points.specs.Leading.{EdgesLead, EdgesPair}

-- Tables of a checked program: its block has no routine around it and no parameters, a routine's formals are variables of it, its
-- variable parameters are among them, each variable and each element has a type, and the values of a scalar type are numbers of its host.
pub record TablesFit (t : Tables) (main : ℕ) : Type 0 where
  pub outermost : (h : Head) → t.head_at main ≡ Some h → h.parent ≡ None
  pub no_formals : (v : ℕ) → is_own t main kind.Var v ≡ true → ⊥
  pub formals : (r v : ℕ) (h : Head) → t.head_at r ≡ Some h → is_own t r kind.Var v ≡ true → contains v h.formals ≡ true
  pub of_routine : (r v : ℕ) (h : Head) (d : VarDef) → t.head_at r ≡ Some h → contains v h.formals ≡ true → t.var_at v ≡ Some d → d.routine ≡ r
  pub typed : (v : ℕ) (d : VarDef) → t.var_at v ≡ Some d → is_some (t.type_at d.of_type) ≡ true
  pub elements : (n index element : ℕ) → t.type_at n ≡ Some (Array index element) → is_some (t.type_at element) ≡ true
  pub low : (n : ℕ) (boolean : Bool) (lo hi : ℤ) → t.type_at n ≡ Some (Scalar boolean lo hi) → in_host boolean lo ≡ true
  pub high : (n : ℕ) (boolean : Bool) (lo hi : ℤ) → t.type_at n ≡ Some (Scalar boolean lo hi) → in_host boolean hi ≡ true

pub record IsWellFormed (c : Chart) : Type 0 where
  pub tables : TablesFit c.tables c.main
  -- the program's block has an entry
  pub entry : routine_at c.points (entry_of c.points c.main) ≡ Some c.main
  pub types : (k : ℕ) (e : Edge) → slice_get c.edges k ≡ Some e → act_types_fit c.tables e.act ≡ true
  pub scopes : (k r : ℕ) (e : Edge) → slice_get c.edges k ≡ Some e → routine_at c.points e.from ≡ Some r → each_act (scope_rule c.tables r) e.act ≡ true
  pub calls : CallsReturn c.points c.edges
  pub leads : EdgesLead c.points c.edges
  pub pairs : EdgesPair c.main c.points c.edges
  pub alike : EdgesJudgeAlike c
