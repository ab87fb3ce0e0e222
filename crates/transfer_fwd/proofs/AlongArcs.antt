-- The classes, scopes and calls of the arcs of an unfolding, as the code reads them.
use Rattle.std.proofs.Common.{◌≡◌, ℕ, ◌<◌, true, false, List, [], length, map, get_or, Option, Some, None, slice_get, refl, sym, ap, subst, ◌∙◌, arith}
use Rattle.std.specs.List.{Contains}
use Rattle.std.specs.Option.{is_some, option_and_then, option_map, unwrap_or}
use Rattle.std.proofs.lemmas.List.{get_or-map, length-map}
use Rattle.std.proofs.lemmas.Option.{get_or_from_slice_get, slice_get-get_or, slice_get-map, slice_get_within}
use Rattle.alias_class.specs.declared.bind.Link.{Link}
use Rattle.alias_class.specs.Calls.{links_at as links_from}
use Rattle.alias_class.specs.Outlines.{outline_of}
use Rattle.alias_class.specs.Tables.{Table}
use Rattle.abstract_expr.specs.Standing.{cells_in, class_in, scope_in}
use Rattle.environment.specs.Environments.{cell_count, env_ops}
use Rattle.environment.specs.Kept.{Roomy}
use Rattle.fixpoint.specs.System.{element}
use Rattle.activations.specs.declared.arc.Arc.{Arc}
use Rattle.activations.specs.declared.node.Node.{Node}
use Rattle.activations.specs.Calls.{is_call}
use Rattle.activations.specs.Drawn.{Drawn}
use Rattle.activations.specs.Fitting.{ArcFits, ArcsFit, IsEntered, class_number, point_number}
use Rattle.control_points.specs.declared.edge.Act.{Act}
use Rattle.control_points.specs.declared.edge.Act.TheVariants as act
use Rattle.control_points.specs.declared.edge.Edge.{Edge}
use Rattle.control_points.specs.declared.flow.Flow.{Flow}
use Rattle.control_points.specs.Checking.{formals_of}
use Rattle.control_points.specs.Fits.{act_at, callee_of, routine_at}
use Rattle.control_points.specs.Judgements.{result_of}
use Rattle.control_points.specs.Leading.{goes_on_after, is_return}
use Rattle.pas_program.specs.declared.expr.Actual.{Actual}
use Rattle.pas_program.specs.Checked.{tables}
use Rattle.transfer_fwd.specs.Crossings.{Crossing}
use Rattle.transfer_fwd.specs.Forward.{action_at, cells_at, crossing_by, links_at}
use Rattle.transfer_fwd.specs.Standing.{Called, IsCall, called_at, called_by}
use Rattle.transfer_fwd.specs.Systems.{FitsGraph, LeavesNode, environments}

some_is : {A : Type 0} (x y : A) → Some x ≡ Some y → x ≡ y
some_is x y h = grind arith

-- the class that was read
pub class_read : (g : Drawn) (node read : ℕ) → slice_get (map (λ (n : Node). n.class) g.nodes) node ≡ Some read → read ≡ class_number g node
class_read g node read at = ap (λ (o : Option ℕ). unwrap_or o 0) (sym at) ∙ ap (λ (o : Option ℕ). unwrap_or o 0) (slice_get-map (λ (n : Node). n.class) g.nodes node)

-- ---- edges

edge_there : (edges : List Edge) (k : ℕ) (e : Edge) → k < length edges → e ≡ get_or edges k e → slice_get edges k ≡ Some e
edge_there edges k e inside is = slice_get-get_or edges k e inside ∙ ap (λ (d : Edge). Some d) (sym is)

pub edge_read : (edges listed : List Edge) (k : ℕ) (e : Edge) → k < length edges → listed ≡ edges → e ≡ get_or listed k e → slice_get edges k ≡ Some e
edge_read edges listed k e inside same is = edge_there edges k e inside (is ∙ ap (λ (es : List Edge). get_or es k e) same)

pub action_is : (f : Flow) (g : Drawn) (k : ℕ) (e : Edge) → slice_get f.edges k ≡ Some e → action_at f g k ≡ e.act
action_is f g k e known = ap (λ (o : Option Edge). unwrap_or (option_map (λ (d : Edge). d.act) o) act.Skip) known

pub act_there : (f : Flow) (k : ℕ) (e : Edge) → slice_get f.edges k ≡ Some e → act_at f.edges k ≡ Some e.act
act_there f k e known = ap (λ (o : Option Edge). option_map (λ (d : Edge). d.act) o) known

-- ---- calls

inside_by : (edges : List Edge) (k : ℕ) (o : Option Edge) → slice_get edges k ≡ o → is_some (option_and_then callee_of (option_map (λ (d : Edge). d.act) o)) ≡ true → k < length edges
inside_by edges k None at h = absurd (grind arith)
inside_by edges k (Some e) at h = slice_get_within edges k e at

pub call_inside : (edges : List Edge) (k : ℕ) → is_call edges k ≡ true → k < length edges
call_inside edges k h = inside_by edges k (slice_get edges k) refl h

pub known_call : (f : Flow) (k : ℕ) (e : Edge) (a : Act) (c : Called) → slice_get f.edges k ≡ Some e → e.act ≡ a → called_by a ≡ Some c → called_at f.edges k ≡ Some c
known_call f k e a c known is calls = ap (λ (o : Option Act). option_and_then called_by o) (act_there f k e known) ∙ ap called_by is ∙ calls

pub is_call_of : (f : Flow) (g : Drawn) → g.table.outline ≡ outline_of f → ArcsFit f g → (from inside k n : ℕ) (c : Called) → from < length g.nodes → inside < length g.nodes
    → IsEntered f g from inside k n → LeavesNode f g k from → called_at f.edges k ≡ Some c
    → (t : Table) (i j : ℕ) → t ≡ g.table → i ≡ class_number g from → j ≡ class_number g inside → IsCall f t i j k c
is_call_of f g outline fits from inside k n c at_from at_inside entered leaves known t i j table outside within =
    let is : IsCall f g.table (class_number g from) (class_number g inside) k c = record {
      outline = outline;
      caller = (fits.nodes from at_from).class;
      callee = (fits.nodes inside at_inside).class;
      known = known;
      stands = λ e at. ap (λ (p : ℕ). routine_at f.points p) (leaves e at) ∙ (fits.nodes from at_from).stands;
      entered = entered.class;
    } in
    subst (λ (u : Table). IsCall f u i j k c) (sym table)
    (subst (λ (m : ℕ). IsCall f g.table m j k c) (sym outside) (subst (λ (m : ℕ). IsCall f g.table (class_number g from) m k c) (sym within) is))

pub linked : (f : Flow) (g : Drawn) (from inside k n : ℕ) (listed : List Link) → IsEntered f g from inside k n → slice_get g.links n ≡ Some listed
    → (t : Table) (i : ℕ) → t ≡ g.table → i ≡ class_number g from → listed ≡ links_from t.outline f.edges (class_in t i) k
linked f g from inside k n listed entered at t i table outside =
    some_is listed _ (sym at ∙ entered.links)
    ∙ ap (λ (u : Table). links_from u.outline f.edges (class_in u (class_number g from)) k) (sym table)
    ∙ ap (λ (m : ℕ). links_from t.outline f.edges (class_in t m) k) (sym outside)

-- a call by its parts
abbrev pub made : Flow → Table → ℕ → ℕ → List Link → ℕ → List Actual → Option ℕ → Crossing
made f t i j links routine actuals slot = record {
  outside = scope_in f t i;
  inside = scope_in f t j;
  cells = cells_in t j;
  links = links;
  actuals = actuals;
  formals = formals_of ((tables f.program).head_at routine);
  result = option_and_then (λ s. option_map (λ r. record { slot = ((scope_in f t i).bind s).cell; result = ((scope_in f t j).bind r).cell }) (result_of (tables f.program) routine)) slot;
}

pub crossing_is : (f : Flow) (g : Drawn) (from inside n : ℕ) (listed : List Link) (a : Act) (routine : ℕ) (actuals passed : List Actual) (slot : Option ℕ)
    → slice_get g.links n ≡ Some listed → crossing_by f g from inside n a ≡ made f g.table (class_number g from) (class_number g inside) (links_at g n) routine actuals slot → passed ≡ actuals
    → (t : Table) (i j : ℕ) → t ≡ g.table → i ≡ class_number g from → j ≡ class_number g inside
    → made f t i j listed routine passed slot ≡ crossing_by f g from inside n a
crossing_is f g from inside n listed a routine actuals passed slot at is same t i j table outside within =
    ap (λ (u : Table). made f u i j listed routine passed slot) table
    ∙ ap (λ (m : ℕ). made f g.table m j listed routine passed slot) outside
    ∙ ap (λ (m : ℕ). made f g.table (class_number g from) m listed routine passed slot) within
    ∙ ap (λ (ls : List Link). made f g.table (class_number g from) (class_number g inside) ls routine passed slot) (sym (ap (λ (o : Option (List Link)). unwrap_or o []) at))
    ∙ ap (λ (xs : List Actual). made f g.table (class_number g from) (class_number g inside) (links_at g n) routine xs slot) same
    ∙ sym is

-- ---- where arcs leave from

call_no_return : (a : Act) → is_some (callee_of a) ≡ true → is_return a ≡ false
call_no_return (act.Return k) h = absurd (grind arith)
call_no_return a h = refl

pub plain_no_return : (a : Act) → goes_on_after a ≡ true → is_return a ≡ false
plain_no_return (act.Return k) h = absurd (grind (arith, h))
plain_no_return a h = refl

pub call_leaves : (f : Flow) (g : Drawn) (a : Arc) → ArcFits f g a → is_call f.edges a.edge ≡ true → LeavesNode f g a.edge a.from
call_leaves f g a fits call = λ e at.
    let there = act_there f a.edge e at in
    let calls : is_some (callee_of e.act) ≡ true = sym (ap (λ (o : Option Act). is_some (option_and_then callee_of o)) there) ∙ call in
    (fits.along e.act there (call_no_return e.act calls)).leaves e at

-- ---- tables

pub element_read : (table : List Roomy) (k : ℕ) (e : Roomy) → k < length table → e ≡ get_or table k e → element env_ops (environments table) k ≡ e.env
element_read table k e inside is = get_or-map (λ (x : Roomy). x.env) table k e (env_ops.bottom 0) inside ∙ ap (λ (x : Roomy). x.env) (sym is)

pub held_long : (table : List Roomy) → length (environments table) ≡ length table
held_long table = length-map table (λ (x : Roomy). x.env)

pub table_read : (g : Drawn) (table : List Roomy) (k : ℕ) (e : Roomy) → FitsGraph g (environments table) → k < length g.nodes → e ≡ get_or table k e → element env_ops (environments table) k ≡ e.env
table_read g table k e fits inside is = element_read table k e (omega (arith, inside, fits.size, held_long table)) is

pub cells_read : (g : Drawn) (table : List Roomy) (k : ℕ) (e : Roomy) → FitsGraph g (environments table) → k < length g.nodes → e ≡ get_or table k e → cell_count e.env ≡ cells_at g k
cells_read g table k e fits inside is = sym (ap cell_count (table_read g table k e fits inside is)) ∙ fits.cells k inside

-- the action that was read
pub action_read : (f : Flow) (g : Drawn) (listed : List Edge) (k : ℕ) (e : Edge) (a : Act) → k < length f.edges → listed ≡ f.edges → e ≡ get_or listed k e → (get_or listed k e).act ≡ a → action_at f g k ≡ a
action_read f g listed k e a inside same is read = action_is f g k e (edge_read f.edges listed k e inside same is) ∙ ap (λ (d : Edge). d.act) is ∙ read

pub act_read : (f : Flow) (listed : List Edge) (k : ℕ) (e : Edge) (a : Act) → k < length f.edges → listed ≡ f.edges → e ≡ get_or listed k e → (get_or listed k e).act ≡ a → act_at f.edges k ≡ Some a
act_read f listed k e a inside same is read = act_there f k e (edge_read f.edges listed k e inside same is) ∙ ap (λ (x : Act). Some x) (ap (λ (d : Edge). d.act) is ∙ read)

-- the point that was read
pub point_read : (g : Drawn) (node read : ℕ) → slice_get (map (λ (n : Node). n.point) g.nodes) node ≡ Some read → read ≡ point_number g node
point_read g node read at = ap (λ (o : Option ℕ). unwrap_or o 0) (sym at) ∙ ap (λ (o : Option ℕ). unwrap_or o 0) (slice_get-map (λ (n : Node). n.point) g.nodes node)

-- ---- the arcs to a node

pub one_leads : (f : Flow) (g : Drawn) → ArcsFit f g → (node i : ℕ) (arcs : List Arc) (d : Arc) → slice_get g.incoming node ≡ Some arcs → i < length arcs → ArcFits f g (get_or arcs i d) × ((get_or arcs i d).to ≡ node)
one_leads f g fits node i arcs d at inside =
    let a = get_or arcs i d in
    let among : Contains arcs a = (i, inside, get_or_from_slice_get arcs i a a (slice_get-get_or arcs i d inside)) in
    (fits.arriving node arcs a at among, fits.into node arcs a at among)
