-- What is read on the way to a point.
use Rattle.std.proofs.Common.{◌≡◌, ℕ, suc, ◌+◌, ◌<◌, ◌≤◌, Bool, true, false, not, nat_eq, List, [], ◌∷◌, length, get_or, refl, sym, ap, subst, ◌∙◌, Option, None, Some, arith, cond}
use Rattle.std.proofs.lemmas.Bool.Decides.{nat_tests}
use Rattle.std.proofs.lemmas.Option.{get_or_from_slice_get, none-some, same_Some, slice_get-get_or, slice_get_within}
use Rattle.std.specs.List.{slice_get}
use Rattle.std.specs.Option.{option_map}
use Rattle.control_points.specs.declared.edge.Act.{Act}
use Rattle.control_points.specs.declared.edge.Act.TheVariants as act
use Rattle.control_points.specs.declared.edge.Edge.{Edge}
use Rattle.control_points.specs.declared.flow.Flow.{Flow}
use Rattle.control_points.specs.declared.point.Point.{Point}
use Rattle.control_points.specs.declared.point.PointKind.{PointKind}
use Rattle.control_points.specs.declared.point.PointKind.TheVariants as kind
use Rattle.control_points.specs.Chart.{arriving, numbers_from}
use Rattle.control_points.specs.Acts.{each_act}
use Rattle.control_points.specs.Leading.{goes_on_after}
use Rattle.control_points.specs.Fits.{act_at, routine_at}
use Rattle.pas_program.specs.declared.variable.VarDef.{VarDef}
use Rattle.pas_program.specs.declared.expr.Access.{Access}
use Rattle.pas_program.specs.declared.expr.Actual.TheFolds.{fold_out-Access}
use Rattle.pas_program.specs.declared.expr.Actual.TheViews.{out-Access}
use Rattle.pas_program.specs.Checked.{scope_in, tables}
use Rattle.pas_program.specs.Each as each
use Rattle.pas_program.specs.Tables.{holds_of, is_around, is_visible}
use Rattle.report.specs.Conditions.{first_read, read_at, read_behind, read_by}
use Rattle.report.specs.Nodes.{SeesVariable}

-- the edge k leads to the point
pub record Arrives (edges : List Edge) (p k : ℕ) : Type 0 where
  pub edge : Edge
  pub there : slice_get edges k ≡ Some edge
  pub target : edge.to ≡ p

-- the first of the numbers of edges that pass, where the first has the number n
record IsFirst (n p : ℕ) (edges : List Edge) (k : ℕ) : Type 0 where
  place : ℕ
  number : k ≡ n + place
  edge : Edge
  there : slice_get edges place ≡ Some edge
  target : edge.to ≡ p

later : (n p k : ℕ) (e : Edge) (es : List Edge) → IsFirst (suc n) p es k → IsFirst n p (e ∷ es) k
later n p k e es h = record { place = suc h.place; number = omega (arith, h.number); edge = h.edge; there = h.there; target = h.target }

first_by : (n p : ℕ) (e : Edge) (es : List Edge) (b : Bool) → nat_eq e.to p ≡ b → ((1 ≤ length (numbers_from (suc n) (λ (x : Edge). nat_eq x.to p) es)) → IsFirst (suc n) p es (get_or (numbers_from (suc n) (λ (x : Edge). nat_eq x.to p) es) 0 0))
    → 1 ≤ length (numbers_from n (λ (x : Edge). nat_eq x.to p) (e ∷ es)) → IsFirst n p (e ∷ es) (get_or (numbers_from n (λ (x : Edge). nat_eq x.to p) (e ∷ es)) 0 0)
first_by n p e es true is rest some = rw is (record { place = 0; number = omega arith; edge = e; there = refl; target = grind (arith, nat_tests, is) })
first_by n p e es false is rest some =
    let Q : Bool → Type 0 = λ b. 1 ≤ length (cond b (n ∷ numbers_from (suc n) (λ (x : Edge). nat_eq x.to p) es) (numbers_from (suc n) (λ (x : Edge). nat_eq x.to p) es)) in
    rw is (later n p _ e es (rest (subst Q is some)))

first_is : (n p : ℕ) (edges : List Edge) → 1 ≤ length (numbers_from n (λ (x : Edge). nat_eq x.to p) edges) → IsFirst n p edges (get_or (numbers_from n (λ (x : Edge). nat_eq x.to p) edges) 0 0)
first_is n p [] some = absurd (omega (arith, some))
first_is n p (e ∷ es) some = first_by n p e es (nat_eq e.to p) refl (first_is (suc n) p es) some

pub first_arrives : (edges : List Edge) (p : ℕ) (listed : List ℕ) → listed ≡ arriving edges p → 1 ≤ length listed → Arrives edges p (get_or listed 0 0)
first_arrives edges p listed is some =
    let P : List ℕ → Type 0 = λ xs. 1 ≤ length xs in
    let h = first_is 0 p edges (subst P is some) in
    let Q : List ℕ → Type 0 = λ xs. Arrives edges p (get_or xs 0 0) in
    let number : get_or (arriving edges p) 0 0 ≡ h.place = omega (arith, h.number) in
    subst Q (sym is) (record { edge = h.edge; there = ap (λ k. slice_get edges k) number ∙ h.there; target = h.target })

read_first : (f : Flow) (xs : List ℕ) → 1 ≤ length xs → first_read f xs ≡ read_by f (act_at f.edges (get_or xs 0 0))
read_first f [] some = absurd (omega (arith, some))
read_first f (k ∷ ks) some = refl

-- what is read is what the first edge to the point reads
pub read_is : (f : Flow) (p : ℕ) (q : Point) (listed : List ℕ) (e : Edge) → slice_get f.points p ≡ Some q → q.kind ≡ kind.AfterRead → listed ≡ arriving f.edges p → 1 ≤ length listed
    → slice_get f.edges (get_or listed 0 0) ≡ Some e → read_at f p ≡ read_by f (Some e.act)
read_is f p q listed e there behind is some at =
    ap (λ (o : Option Point). read_behind f p (option_map (λ (x : Point). x.kind) o)) there
    ∙ ap (λ (k : PointKind). read_behind f p (Some k)) behind
    ∙ ap (first_read f) (sym is) ∙ read_first f listed some
    ∙ ap (λ (o : Option Edge). read_by f (option_map (λ (x : Edge). x.act) o)) at

pub no_read : (f : Flow) (a : Act) → ((x : Access) → a ≡ act.Read x → ⊥) → read_by f (Some a) ≡ None
no_read f act.Skip h = refl
no_read f (act.Assign target value) h = refl
no_read f (act.Copy target source) h = refl
no_read f (act.Call routine actuals slot at) h = refl
no_read f (act.Return call) h = refl
no_read f (act.Goto routine) h = refl
no_read f (act.Test e wanted) h = refl
no_read f (act.Arm selector constants) h = refl
no_read f (act.Enter control bound first down last) h = refl
no_read f (act.Bypass control bound first down last) h = refl
no_read f (act.Next control bound down) h = refl
no_read f (act.Finish control bound down) h = refl
no_read f (act.Read target) h = absurd (h target refl)
no_read f act.DropLine h = refl
no_read f (act.Write item) h = refl
no_read f act.EndLine h = refl

-- the variable of an access whose variables are seen
pub variable_seen : (q : each.Rule) (a : Access) → each.each_access q a ≡ true → q.variable (out-Access a).var ≡ true
variable_seen q a h =
    grind (arith, fold_out-Access Bool Bool Bool Bool each.actual_step (each.form_step q) (each.access_step q) each.expr_step a)

record HasRoutine (points : List Point) (p r : ℕ) : Type 0 where
  point : Point
  there : slice_get points p ≡ Some point
  routine : point.routine ≡ r

routine_in : (points : List Point) (p r : ℕ) (o : Option Point) → slice_get points p ≡ o → option_map (λ (q : Point). q.routine) o ≡ Some r → HasRoutine points p r
routine_in points p r None there is = absurd (none-some r is)
routine_in points p r (Some q) there is = record { point = q; there = there; routine = same_Some q.routine r is }

-- what is read is in scope at the point
pub read_seen : (f : Flow) (p k : ℕ) (e : Edge) (a : Access) → slice_get f.edges k ≡ Some e → e.to ≡ p → e.act ≡ act.Read a → SeesVariable f p (out-Access a).var
read_seen f p k e a there target reads = λ r at.
    let GoesOn : Act → Type 0 = λ x. goes_on_after x ≡ true in
    let source : routine_at f.points e.from ≡ Some r =
    sym (f.edges_lead.inside k e there (subst GoesOn (sym reads) refl)) ∙ ap (routine_at f.points) target ∙ at in
    let has = routine_in f.points e.from r (slice_get f.points e.from) refl source in
    let Scoped : Act → Type 0 = λ x. each_act (scope_in f.program has.point.routine) x ≡ true in
    let Visible : ℕ → Type 0 = λ s. is_visible (tables f.program) s (out-Access a).var ≡ true in
    subst Visible has.routine (variable_seen (scope_in f.program has.point.routine) a (subst Scoped reads (f.edges_fit.scopes k e has.point there has.there)))

-- ---- as the code reads them

-- an element that was read from the list of edges
pub read_edge : (edges listed : List Edge) (k : ℕ) (d e : Edge) → listed ≡ edges → slice_get edges k ≡ Some e → get_or listed k d ≡ e
read_edge edges listed k d e is there = ap (λ (es : List Edge). get_or es k d) is ∙ get_or_from_slice_get edges k e d there

-- a point of which a test says that it is of no other kind
pub read_point : (b c : Bool) → b ≡ not c → b ≡ false → c ≡ true
read_point b true is h = refl
read_point b false is h = sym h ∙ is

-- the point of a number that was read from the list of points
pub point_there : (points listed : List Point) (p : ℕ) (d : Point) → listed ≡ points → p < length points → slice_get points p ≡ Some (get_or listed p d)
point_there points listed p d is inside = slice_get-get_or points p d inside ∙ ap (λ (ps : List Point). Some (get_or ps p d)) (sym is)

visible_known : (f : Flow) (r v : ℕ) (o : Option VarDef) → slice_get f.program.vars v ≡ o → holds_of (λ (d : VarDef). is_around (tables f.program) r d.routine) o ≡ true → v < length f.program.vars
visible_known f r v None there h = absurd (grind arith)
visible_known f r v (Some d) there h = slice_get_within f.program.vars v d there

-- a variable in scope at a point is one of the program
pub variable_within : (f : Flow) (p v : ℕ) → p < length f.points → SeesVariable f p v → v < length f.program.vars
variable_within f p v inside sees =
    let q = get_or f.points p (record { routine = 0; kind = kind.Entry; at = 0 }) in
    let at : routine_at f.points p ≡ Some q.routine = ap (option_map (λ (x : Point). x.routine)) (slice_get-get_or f.points p (record { routine = 0; kind = kind.Entry; at = 0 }) inside) in
    visible_known f q.routine v (slice_get f.program.vars v) refl (sees q.routine at)
