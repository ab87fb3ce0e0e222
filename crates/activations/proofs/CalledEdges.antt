-- The edge of a call and the one behind it: which points they lead between.
use Rattle.std.proofs.Common.{◌≡◌, ℕ, suc, Bool, true, List, Option, Some, None, slice_get, refl, sym, ap, ◌∙◌, arith}
use Rattle.std.specs.Option.{is_some, option_and_then, option_map}
use Rattle.pas_program.specs.Tables.{holds_of}
use Rattle.control_points.specs.declared.edge.Act.{Act}
use Rattle.control_points.specs.declared.edge.Act.TheVariants as act
use Rattle.control_points.specs.declared.edge.Edge.{Edge}
use Rattle.control_points.specs.declared.flow.Flow.{Flow}
use Rattle.control_points.specs.Fits.{act_at, callee_of, is_return_of, routine_at}
use Rattle.alias_class.specs.declared.outline.Outline.{Outline}
use Rattle.alias_class.specs.Calls.{callee, callee_by}
use Rattle.alias_class.specs.Cells.{routine_of}
use Rattle.alias_class.specs.Classes.{Class}
use Rattle.activations.specs.Calls.{is_call}

some_is : {A : Type 0} (x y : A) → Some x ≡ Some y → x ≡ y
some_is x y h = grind arith

-- what is known of the call of an edge
pub record IsCalled (f : Flow) (k : ℕ) (e : Edge) : Type 0 where
  pub routine : ℕ
  pub back : Edge
  pub calls : callee_of e.act ≡ Some routine
  pub enters : routine_at f.points e.to ≡ Some routine
  pub behind : slice_get f.edges (suc k) ≡ Some back
  pub leaves : routine_at f.points back.from ≡ Some routine
  pub returns : routine_at f.points back.to ≡ routine_at f.points e.from

called_by : (o : Option ℕ) → is_some o ≡ true → (r : ℕ) × (o ≡ Some r)
called_by None h = absurd (grind arith)
called_by (Some r) h = (r, refl)

back_by : (o : Option Edge) (test : Act → Bool) → holds_of test (option_map (λ (e : Edge). e.act) o) ≡ true → (b : Edge) × (o ≡ Some b)
back_by None test h = absurd (grind arith)
back_by (Some b) test h = (b, refl)

pub is_called : (f : Flow) (k : ℕ) (e : Edge) → slice_get f.edges k ≡ Some e → is_call f.edges k ≡ true → IsCalled f k e
is_called f k e known call =
    let act_known : act_at f.edges k ≡ Some e.act = ap (λ (o : Option Edge). option_map (λ (d : Edge). d.act) o) known in
    let found = called_by (callee_of e.act) (sym (ap (λ (o : Option Act). is_some (option_and_then callee_of o)) act_known) ∙ call) in
    let back = back_by (slice_get f.edges (suc k)) (is_return_of k) (f.calls_return.return k found.0 e known found.1) in
    record {
      routine = found.0;
      back = back.0;
      calls = found.1;
      enters = f.calls_return.entered k found.0 e known found.1;
      behind = back.1;
      leaves = f.calls_return.exited k found.0 e back.0 known back.1 found.1;
      returns = f.calls_return.resumed k found.0 e back.0 known back.1 found.1;
    }

callee_routine_by : (o : Outline) (c : Class) (k r : ℕ) (a : Act) → callee_of a ≡ Some r → routine_of o (callee_by o c k (Some a)) ≡ r
callee_routine_by o c k r (act.Call s actuals slot at) h = some_is s r h
callee_routine_by o c k r a h = absurd (grind arith)

pub callee_routine : (o : Outline) (edges : List Edge) (c : Class) (k r : ℕ) (e : Edge) → slice_get edges k ≡ Some e → callee_of e.act ≡ Some r → routine_of o (callee o edges c k) ≡ r
callee_routine o edges c k r e known calls =
    ap (λ (x : Option Edge). routine_of o (callee_by o c k (option_map (λ (d : Edge). d.act) x))) known ∙ callee_routine_by o c k r e.act calls
