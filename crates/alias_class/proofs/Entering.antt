-- The class that a call enters.
use Rattle.std.proofs.Common.{◌≡◌, ℕ, zero, suc, ◌+◌, ◌<◌, ◌≤◌, ◌^◌, ◌&&◌, true, List, [], ◌∷◌, length, get_or, map, Option, Some, None, nat_le, refl, sym, ap, ◌∙◌, subst, arith}
use Rattle.std.specs.List.{All, filter, range_with_len}
use Rattle.std.specs.Option.{option_map}
use Rattle.std.specs.Prelude.{slice_get}
use Rattle.std.proofs.lemmas.Bool.Decides.{nat_tests}
use Rattle.std.proofs.lemmas.Grind.{common_steps}
use Rattle.std.proofs.lemmas.List.{length-map}
use Rattle.std.proofs.lemmas.List.Elements.{All-cons, All-head, All-nil, All-tail}
use Rattle.pas_program.specs.declared.expr.Actual.{Actual}
use Rattle.pas_program.specs.declared.program.Program.{Program}
use Rattle.pas_program.specs.Checked.{scope_in, tables}
use Rattle.pas_program.specs.Each.{all_true, each_actual}
use Rattle.pas_program.specs.Scopes.{contains}
use Rattle.pas_program.specs.Typed.{passed}
use Rattle.control_points.specs.declared.edge.Act.{Act}
use Rattle.control_points.specs.declared.edge.Act.TheVariants as act
use Rattle.control_points.specs.declared.edge.Edge.{Edge}
use Rattle.control_points.specs.declared.flow.Flow.{Flow}
use Rattle.control_points.specs.declared.point.Point.{Point}
use Rattle.control_points.specs.Acts.{act_types_fit, callee_passes, each_act}
use Rattle.control_points.specs.Fits.{EdgesFit, act_at, routine_at}
use Rattle.alias_class.specs.declared.bind.Bind.{Bind}
use Rattle.alias_class.specs.declared.outline.Outline.{Outline}
use Rattle.alias_class.specs.declared.passing.Passing.{Passing}
use Rattle.alias_class.specs.Calls.{IsSite, callee, callee_by, entered, links, links_at, links_by, named, parent_in, shared_bind, sharing, var_actuals}
use Rattle.alias_class.specs.Cells.{IsClass, IsEntered, cell_count, cell_of, foreign_cells, own_count, routine_of}
use Rattle.alias_class.specs.Classes.{Class}
use Rattle.alias_class.specs.Kept.{OutlineFits}
use Rattle.alias_class.specs.Outlines.{outline_of, outline_of_program}
use Rattle.alias_class.specs.Passings.{AreCells, IsCallFrom, IsCallOf, IsPassingOf, bindings_by, sharing_of}
use Rattle.alias_class.proofs.Called.{length-named, named_below, parent_declares, parent_fewer, parent_room}
use Rattle.alias_class.proofs.Lists.{and_left, and_right, contains-filter, member_at, member_below}
use Rattle.alias_class.proofs.Numbered.{IsNumbered, numbered_all}
use Rattle.alias_class.proofs.Occurrences.{contained}
use Rattle.alias_class.proofs.Outlining.{length-foreign_cells}
use Rattle.alias_class.proofs.Ranks.{outline_fits}
use Rattle.alias_class.proofs.Seen.{called}

-- ---- a site is a call from the class

-- what an edge does that is known
record HasAct (edges : List Edge) (k : ℕ) (a : Act) : Type 0 where
  edge : Edge
  known : slice_get edges k ≡ Some edge
  does : edge.act ≡ a

has_act : (edges : List Edge) (k : ℕ) (a : Act) → act_at edges k ≡ Some a → HasAct edges k a
has_act edges k a e = by (slice_get edges k) refl e
  where
    by : (o : Option Edge) → slice_get edges k ≡ o → option_map (λ (e : Edge). e.act) o ≡ Some a → HasAct edges k a
    by None at e = absurd (grind arith)
    by (Some x) at e = record { edge = x; known = at; does = grind arith }

record HasRoutine (points : List Point) (p r : ℕ) : Type 0 where
  point : Point
  known : slice_get points p ≡ Some point
  of : point.routine ≡ r

has_routine : (points : List Point) (p r : ℕ) → routine_at points p ≡ Some r → HasRoutine points p r
has_routine points p r e = by (slice_get points p) refl e
  where
    by : (o : Option Point) → slice_get points p ≡ o → option_map (λ (q : Point). q.routine) o ≡ Some r → HasRoutine points p r
    by None at e = absurd (grind arith)
    by (Some x) at e = record { point = x; known = at; of = grind arith }

pub site_calls : (p : Program) (points : List Point) (edges : List Edge) → EdgesFit p points edges → (c : Class) → IsClass (outline_of_program p) c → (k : ℕ) → IsSite points edges (routine_of (outline_of_program p) c) k
    → (r : ℕ) (actuals : List Actual) → IsCallOf (act_at edges k) r actuals → IsCallFrom (outline_of_program p) c r actuals
site_calls p points edges fits c is k site r actuals call =
    let here = routine_of (outline_of_program p) c in
    let x = has_act edges k (act.Call r actuals call.slot call.at) call.is in
    let same : site.edge ≡ x.edge = (let both : Some site.edge ≡ Some x.edge = sym site.known ∙ x.known in grind arith) in
    let at = has_routine points site.edge.from here site.stands in
    let scoped : each_act (scope_in p here) site.edge.act ≡ true = subst (λ (r : ℕ). each_act (scope_in p r) site.edge.act ≡ true) at.of (fits.scopes k site.edge at.point site.known at.known) in
    let does : site.edge.act ≡ act.Call r actuals call.slot call.at = ap (λ (e : Edge). e.act) same ∙ x.does in
    let passes : each_act (scope_in p here) (act.Call r actuals call.slot call.at) ≡ true = ap (each_act (scope_in p here)) (sym does) ∙ scoped in
    let typed : act_types_fit (tables p) (act.Call r actuals call.slot call.at) ≡ true = ap (act_types_fit (tables p)) (sym does) ∙ fits.types k site.edge site.known in
    called p c is here refl r actuals call.slot (and_left (callee_passes (scope_in p here) r call.slot) (all_true (map (each_actual (scope_in p here)) actuals)) passes)
    (and_right (callee_passes (scope_in p here) r call.slot) (all_true (map (each_actual (scope_in p here)) actuals)) passes) typed

pub flow_calls : (flow : Flow) (o : Outline) → o ≡ outline_of flow → (c : Class) → IsClass o c → (k : ℕ) → IsSite flow.points flow.edges (routine_of o c) k → (r : ℕ) (actuals : List Actual) → IsCallOf (act_at flow.edges k) r actuals → IsCallFrom o c r actuals
flow_calls flow o same c is k site r actuals call =
    subst (λ (x : Outline). IsCallFrom x c r actuals) (sym same)
    (site_calls flow.program flow.points flow.edges flow.edges_fit c (subst (λ (x : Outline). IsClass x c) same is) k (subst (λ (x : Outline). IsSite flow.points flow.edges (routine_of x c) k) same site) r actuals call)

pub flow_fits : (flow : Flow) (o : Outline) → o ≡ outline_of flow → OutlineFits o
flow_fits flow o same = subst OutlineFits (sym same) (outline_fits flow.program)

-- what the call enters, and what it links
pub callee_is : (edges : List Edge) (o : Outline) (c : Class) (k r : ℕ) (actuals : List Actual) → IsCallOf (act_at edges k) r actuals → callee o edges c k ≡ entered o c k r actuals
callee_is edges o c k r actuals call = ap (callee_by o c k) call.is

pub links_are : (edges : List Edge) (o : Outline) (c : Class) (k r : ℕ) (actuals : List Actual) → IsCallOf (act_at edges k) r actuals → links_at o edges c k ≡ links o c r actuals
links_are edges o c k r actuals call = ap (links_by o c) call.is

-- ---- the class that is entered

length-range : (a n : ℕ) → length (range_with_len a n) ≡ n
length-range a zero = refl
length-range a (suc n) = ap suc (length-range (a + 1) n)

-- a foreign cell is one that a variable parameter stands for, behind those that are inherited
foreign_within : (inherited count : ℕ) (names : List Bind) → All (λ (b : Bind). b.cell < count) names → (n : ℕ) → contains n (foreign_cells inherited names) ≡ true → (inherited ≤ n) × (n < count)
foreign_within inherited count names all n e =
    let both : (nat_le inherited n && contains n (map cell_of names)) ≡ true = sym (contains-filter (λ c. nat_le inherited c) n (map cell_of names)) ∙ contained (filter (λ c. nat_le inherited c) (map cell_of names)) n e in
    let behind = and_left (nat_le inherited n) _ both in
    (grind (arith, nat_tests), member_below count (map cell_of names) (cells names all) n (and_right (nat_le inherited n) _ both))
  where
    cells : (names : List Bind) → All (λ (b : Bind). b.cell < count) names → All (λ n. n < count) (map cell_of names)
    cells [] all = All-nil (λ n. n < count)
    cells (b ∷ names) all = All-cons (λ n. n < count) b.cell (map cell_of names) (All-head (λ (b : Bind). b.cell < count) b names all) (cells names (All-tail (λ (b : Bind). b.cell < count) b names all))

-- what holds of each number in a list
each_in : (P : ℕ → Type 0) (ns : List ℕ) → ((n : ℕ) → contains n ns ≡ true → P n) → All P ns
each_in P ns each = λ k d h. (let same : get_or ns k 0 ≡ get_or ns k d = grind (arith, common_steps) in subst P same (each (get_or ns k 0) (member_at ns k h)))

pub foreign_past : (inherited : ℕ) (names : List Bind) → All (λ n. inherited ≤ n) (foreign_cells inherited names)
foreign_past inherited names = each_in (λ n. inherited ≤ n) (foreign_cells inherited names) behind
  where
    behind : (n : ℕ) → contains n (foreign_cells inherited names) ≡ true → inherited ≤ n
    behind n e =
        let both : (nat_le inherited n && contains n (map cell_of names)) ≡ true = sym (contains-filter (λ c. nat_le inherited c) n (map cell_of names)) ∙ contained (filter (λ c. nat_le inherited c) (map cell_of names)) n e in
        let test = and_left (nat_le inherited n) (contains n (map cell_of names)) both in
        grind (arith, nat_tests)

module _ (o : Outline) (fits : OutlineFits o) (c : Class) (is : IsClass o c) (r : ℕ) (actuals : List Actual) (call : IsCallFrom o c r actuals) where
  abbrev inherited : ℕ
  inherited = cell_count o (parent_in o c r)

  abbrev first : ℕ
  first = cell_count o (parent_in o c r) + own_count o r

  numbers : IsNumbered inherited first (omega arith) (named o c actuals)
  numbers = numbered_all inherited first (omega arith) (named o c actuals)

  pub as_many : length (foreign_cells first (bindings_by inherited first (named o c actuals))) ≡ length (foreign_cells inherited (named o c actuals))
  as_many = ap length numbers.numbered ∙ length-range first (length (foreign_cells inherited (named o c actuals)))

  pub entered_class : (k : ℕ) (bindings : List Bind) → bindings ≡ bindings_by (cell_count o (parent_in o c r)) (cell_count o (parent_in o c r) + own_count o r) (named o c actuals) → IsEntered o (parent_in o c r) (record { routine = r; site = k; bindings = bindings })
  entered_class k bindings same =
      subst (λ (bs : List Bind). IsEntered o (parent_in o c r) (record { routine = r; site = k; bindings = bs })) (sym same)
      (record {
        declared = parent_declares o fits c is r call.declared;
        known = call.declared.in_range;
        bound = length-map (named o c actuals) (shared_bind (sharing o c r actuals)) ∙ length-named o c r actuals call;
        cells = subst (λ (n : ℕ). All (λ (b : Bind). b.cell < first + n) (bindings_by inherited first (named o c actuals))) (sym as_many) numbers.below;
        numbered = numbers.numbered ∙ ap (range_with_len first) (sym as_many);
      })

  foreign_in : (n : ℕ) → contains n (foreign_cells inherited (named o c actuals)) ≡ true → (inherited ≤ n) × (n < cell_count o c)
  foreign_in = foreign_within inherited (cell_count o c) (named o c actuals) (named_below o fits c is (var_actuals actuals) call.names)

  -- the cells of the caller that the callee has as foreign ones
  pub foreign_cells_of : AreCells (foreign_cells inherited (named o c actuals)) inherited (cell_count o c)
  foreign_cells_of = record {
    inherited_few = parent_fewer o fits c is r call.declared;
    in_range = each_in (λ n. n < cell_count o c) (foreign_cells inherited (named o c actuals)) (λ n e. (foreign_in n e).1);
  }

  pub foreign_behind : All (λ n. inherited ≤ n) (foreign_cells inherited (named o c actuals))
  foreign_behind = each_in (λ n. inherited ≤ n) (foreign_cells inherited (named o c actuals)) (λ n e. (foreign_in n e).0)

  pub foreign_fit : first + length (foreign_cells inherited (named o c actuals)) < 2 ^ 32
  foreign_fit =
      let room = parent_room o fits c is r call.declared in
      let few = fits.few in
      let long = length-foreign_cells inherited (named o c actuals) in
      let names = length-named o c r actuals call in
      omega arith

  -- ---- in what was found of the call

  module _ (p : Passing) (passed : IsPassingOf o c r actuals p) where
    pub foreign_fits : p.first_foreign + length p.foreign.keys < 2 ^ 32
    foreign_fits = let fit = foreign_fit in let same = passed.same_first in let long = ap length passed.foreign in omega arith

    pub foreign_follow : All (λ n. p.inherited ≤ n) p.foreign.keys
    foreign_follow =
        subst (λ (ns : List ℕ). All (λ n. p.inherited ≤ n) ns) (sym passed.foreign)
        (subst (λ (i : ℕ). All (λ n. i ≤ n) (foreign_cells (cell_count o (parent_in o c r)) (named o c actuals))) (sym passed.same_inherited) foreign_behind)

    pub cells_are : AreCells p.foreign.keys p.inherited (cell_count o c)
    cells_are =
        subst (λ (ns : List ℕ). AreCells ns p.inherited (cell_count o c)) (sym passed.foreign)
        (subst (λ (i : ℕ). AreCells (foreign_cells (cell_count o (parent_in o c r)) (named o c actuals)) i (cell_count o c)) (sym passed.same_inherited) foreign_cells_of)

pub sharing_is : (o : Outline) (c : Class) (r : ℕ) (actuals : List Actual) (p : Passing) → IsPassingOf o c r actuals p → sharing_of p ≡ sharing o c r actuals
sharing_is o c r actuals p passed =
    ap (λ (i : ℕ). record { inherited = i; first_foreign = p.first_foreign; foreign = p.foreign.keys }) passed.same_inherited
    ∙ ap (λ (i : ℕ). record { inherited = cell_count o (parent_in o c r); first_foreign = i; foreign = p.foreign.keys }) passed.same_first
    ∙ ap (λ (ns : List ℕ). record { inherited = cell_count o (parent_in o c r); first_foreign = cell_count o (parent_in o c r) + own_count o r; foreign = ns }) passed.foreign
