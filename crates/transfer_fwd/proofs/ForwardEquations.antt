-- The forward equations are a system: each gives a value of its node's shape, and is a function of what it reads.
use Rattle.std.proofs.Common.{◌≡◌, ℕ, zero, suc, ◌<◌, ◌≤◌, Bool, true, false, ◌&&◌, ◌||◌, List, [], ◌∷◌, ◌++◌, fold, length, nat_eq, Option, Some, None, slice_get, refl, sym, ap, subst, ◌∙◌, arith}
use Rattle.std.specs.Prelude.{if◌then◌else◌}
use Rattle.std.specs.List.{Contains, flat_map, slice_index_or}
use Rattle.std.specs.Option.{is_some, option_map, option_to_list, unwrap_or}
use Rattle.std.proofs.lemmas.Bool.Decides.{nat_tests}
use Rattle.std.proofs.lemmas.List.Elements.{Contains-append_left, Contains-append_right}
use Rattle.std.proofs.lemmas.Option.{slice_get-get_or, unwrap_or-slice_get}
use Rattle.abstract_expr.specs.Expressions.{Scope, refined, truth_of}
use Rattle.abstract_expr.specs.Standing.{cells_in}
use Rattle.activations.specs.declared.arc.Arc.{Arc}
use Rattle.activations.specs.Drawn.{Drawn}
use Rattle.activations.specs.Fitting.{ArcFits, ArcsFit, exit_of, point_number}
use Rattle.control_points.specs.declared.edge.Act.{Act}
use Rattle.control_points.specs.declared.edge.Act.TheVariants as act
use Rattle.control_points.specs.declared.edge.Edge.{Edge}
use Rattle.control_points.specs.declared.flow.Flow.{Flow}
use Rattle.control_points.specs.Fits.{act_at}
use Rattle.control_points.specs.Flows.{chart_of}
use Rattle.control_points.specs.Runs.{standing_at}
use Rattle.environment.specs.Environments.{Environment, cell_count, env_join, env_ops, started}
use Rattle.environment.specs.Environments.Environment.{Unreachable}
use Rattle.environment.specs.EnvironmentLaws.{env_laws}
use Rattle.fixpoint.specs.Members.{contains_first, contains_later}
use Rattle.fixpoint.specs.Reversal.{list_at}
use Rattle.fixpoint.specs.System.{IsSystem, element}
use Rattle.pas_program.specs.declared.routine.Assert.{Assert}
use Rattle.transfer_fwd.specs.Actions.{after}
use Rattle.transfer_fwd.specs.Crossings.{called, kept_cells, returned}
use Rattle.transfer_fwd.specs.Forward.{Table, action_at, all_assumed, along, along_by, assumed, cells_at, crossing_by, forward_value, incoming_at, initial, joined, scope_at}
use Rattle.transfer_fwd.specs.Reads.{AreForwardReads, all_read, is_in, read_by}
use Rattle.transfer_fwd.specs.Systems.{forward_system}
use Rattle.transfer_fwd.proofs.AroundCells.{around_fewer}
use Rattle.transfer_fwd.proofs.ReadArcs.{contained, listed}
use Rattle.transfer_fwd.proofs.Shapes.{KeepsCells, after_cells, called_cells, if_cells, kept_count, returned_cells, started_cells}

-- ---- members of lists of arcs

-- what holds of the first and of the others
abbrev pub Each : (Arc → Type 0) → List Arc → Type 0
Each P [] = Unit {0}
Each P (a ∷ arcs) = P a × Each P arcs

each_by : (P : Arc → Type 0) (arcs : List Arc) → ((a : Arc) → Contains arcs a → P a) → Each P arcs
each_by P [] h = tt
each_by P (a ∷ arcs) h = (h a (0, omega arith, refl), each_by P arcs (λ b at. h b (suc at.0, omega (arith, at.1), at.2)))

-- ---- what the arcs read

edge_there : (edges : List Edge) (k : ℕ) → k < length edges → (e : Edge) × (slice_get edges k ≡ Some e)
edge_there [] k inside = absurd (omega (arith, inside))
edge_there (e ∷ edges) zero inside = (e, refl)
edge_there (e ∷ edges) (suc k) inside = edge_there edges k (omega (arith, inside))

read_at : (arcs : List Arc) (a : Arc) (k : ℕ) → k < length arcs → slice_index_or arcs k a ≡ a → (r : ℕ) → Contains (read_by a) r → Contains (flat_map read_by arcs) r
read_at [] a k inside is r at = absurd (omega (arith, inside))
read_at (x ∷ arcs) a zero inside is r at = Contains-append_left (read_by x) (flat_map read_by arcs) r (subst (λ (y : Arc). Contains (read_by y) r) (sym is) at)
read_at (x ∷ arcs) a (suc k) inside is r at = Contains-append_right (read_by x) (flat_map read_by arcs) r (read_at arcs a k (omega (arith, inside)) is r at)

or_cases : (a b : Bool) (P : Type 0) → (a || b) ≡ true → (a ≡ true → P) → (b ≡ true → P) → P
or_cases true b P h first second = first refl
or_cases false b P h first second = second h

-- an arc reads nodes below a number
abbrev ReadsBelow : ℕ → Arc → Type 0
ReadsBelow n a = (a.from < n) × ((x : ℕ) → a.other ≡ Some x → x < n)

same_number : (r x : ℕ) → nat_eq r x ≡ true → r ≡ x
same_number r x h = grind (arith, nat_tests, h)

exit_below : (n : ℕ) (o : Option ℕ) (rest : List ℕ) (r : ℕ) → ((x : ℕ) → o ≡ Some x → x < n) → (is_in rest r ≡ true → r < n) → is_in (option_to_list o ++ rest) r ≡ true → r < n
exit_below n None rest r exit further h = further h
exit_below n (Some x) rest r exit further h =
    or_cases (nat_eq r x) (is_in rest r) (r < n) h (λ is. subst (λ (m : ℕ). m < n) (sym (same_number r x is)) (exit x refl)) further

all_below : (n : ℕ) (arcs : List Arc) → Each (ReadsBelow n) arcs → (r : ℕ) → is_in (flat_map read_by arcs) r ≡ true → r < n
all_below n [] each r h = absurd (grind arith)
all_below n (a ∷ arcs) each r h =
    or_cases (nat_eq r a.from) (is_in (option_to_list a.other ++ flat_map read_by arcs) r) (r < n) h
    (λ is. subst (λ (m : ℕ). m < n) (sym (same_number r a.from is)) each.0.0)
    (exit_below n a.other (flat_map read_by arcs) r each.0.1 (all_below n arcs each.1 r))

module _ (f : Flow) (g : Drawn) (fits : ArcsFit f g) (keeps : KeepsCells) where
  -- ---- assertions

  assumed_cells : (s : Scope) (o : Option Assert) (env : Environment) → cell_count (assumed f g s o env) ≡ cell_count env
  assumed_cells s None env = refl
  assumed_cells s (Some a) env = if_cells a.sometime env (refined s a.cond (truth_of true) env) (cell_count env) refl (keeps.expr s a.cond (truth_of true) env)

  all_assumed_cells : (s : Scope) (asserts : List ℕ) (env : Environment) → cell_count (all_assumed f g s asserts env) ≡ cell_count env
  all_assumed_cells s [] env = refl
  all_assumed_cells s (n ∷ asserts) env =
      all_assumed_cells s asserts (assumed f g s (slice_get f.program.asserts n) env) ∙ assumed_cells s (slice_get f.program.asserts n) env

  -- ---- arcs

  -- a table has the cells of each node
  abbrev pub Fits : Table → Type 0
  Fits table = (k : ℕ) → k < length g.nodes → cell_count (element env_ops table k) ≡ cells_at g k

  act_there : (k : ℕ) → k < length f.edges → act_at f.edges k ≡ Some (action_at f g k)
  act_there k inside =
      let e = edge_there f.edges k inside in
      ap (λ (o : Option Edge). option_map (λ (d : Edge). d.act) o) e.1
      ∙ sym (ap (λ (o : Option Edge). Some (unwrap_or (option_map (λ (d : Edge). d.act) o) act.Skip)) e.1)

  cells_by : (table : Table) (a : Arc) → Fits table → ArcFits f g a → (action : Act) → act_at f.edges a.edge ≡ Some action → cell_count (along_by f g table a action) ≡ cells_at g a.to
  cells_by table a cells arc (act.Call r actuals slot place) at = called_cells (crossing_by f g a.from a.to a.call (act.Call r actuals slot place)) (element env_ops table a.from)
  cells_by table a cells arc (act.Return k) at =
      returned_cells keeps (crossing_by f g a.from (exit_of a) a.call (action_at f g k)) (element env_ops table (exit_of a)) (element env_ops table a.from)
      ∙ cells a.from arc.from ∙ ap (λ (n : ℕ). cells_in g.table n) (sym (arc.returns k at).class)
  cells_by table a cells arc (act.Goto r) at =
      let fewer : cells_at g a.to ≤ cells_at g a.from = around_fewer g.table.outline _ _ r (arc.goto r at) in
      kept_count (cells_at g a.to) (element env_ops table a.from) (subst (λ (n : ℕ). cells_at g a.to ≤ n) (sym (cells a.from arc.from)) fewer)
  cells_by table a cells arc action at =
      after_cells keeps (scope_at f g a.from) action (element env_ops table a.from) ∙ cells a.from arc.from ∙ ap (λ (n : ℕ). cells_in g.table n) (sym (arc.stays action at refl))

  pub along_cells : (table : Table) (a : Arc) → Fits table → ArcFits f g a → cell_count (along f g table a) ≡ cells_at g a.to
  along_cells table a cells arc = cells_by table a cells arc (action_at f g a.edge) (act_there a.edge arc.edge)

  -- an arc to a node
  abbrev pub LeadsTo : ℕ → Arc → Type 0
  LeadsTo node a = ArcFits f g a × (a.to ≡ node)

  fold_cells : (table : Table) → Fits table → (node : ℕ) (arcs : List Arc) → Each (LeadsTo node) arcs → (env : Environment) → cell_count env ≡ cells_at g node
      → cell_count (fold (λ (e : Environment) (a : Arc). env_join e (along f g table a)) env arcs) ≡ cells_at g node
  fold_cells table cells node [] each env is = is
  fold_cells table cells node (a ∷ arcs) each env is =
      let here = along_cells table a cells each.0.0 ∙ ap (cells_at g) each.0.1 in
      fold_cells table cells node arcs each.1 (env_join env (along f g table a)) (env_laws.join_shape env (along f g table a) (is ∙ sym here) ∙ is)

  -- ---- the same from tables that agree

  abbrev Agree : Table → Table → Arc → Type 0
  Agree t u a = ArcFits f g a × (element env_ops t a.from ≡ element env_ops u a.from) × (is_some a.other ≡ true → element env_ops t (exit_of a) ≡ element env_ops u (exit_of a))

  same_by : (t u : Table) (a : Arc) → Agree t u a → (action : Act) → act_at f.edges a.edge ≡ Some action → along_by f g t a action ≡ along_by f g u a action
  same_by t u a agree (act.Call r actuals slot place) at = ap (λ (e : Environment). called (crossing_by f g a.from a.to a.call (act.Call r actuals slot place)) e) agree.1
  same_by t u a agree (act.Return k) at =
      let x = crossing_by f g a.from (exit_of a) a.call (action_at f g k) in
      ap (λ (e : Environment). returned x e (element env_ops t a.from)) (agree.2 (agree.0.returns k at).has_exit)
      ∙ ap (λ (e : Environment). returned x (element env_ops u (exit_of a)) e) agree.1
  same_by t u a agree (act.Goto r) at = ap (λ (e : Environment). kept_cells (cells_at g a.to) e) agree.1
  same_by t u a agree action at = ap (λ (e : Environment). after (scope_at f g a.from) action e) agree.1

  fold_same : (t u : Table) (arcs : List Arc) → Each (Agree t u) arcs → (env : Environment)
      → fold (λ (e : Environment) (a : Arc). env_join e (along f g t a)) env arcs ≡ fold (λ (e : Environment) (a : Arc). env_join e (along f g u a)) env arcs
  fold_same t u [] each env = refl
  fold_same t u (a ∷ arcs) each env =
      fold_same t u arcs each.1 (env_join env (along f g t a))
      ∙ ap (λ (e : Environment). fold (λ (e : Environment) (a : Arc). env_join e (along f g u a)) (env_join env e) arcs)
      (same_by t u a each.0 (action_at f g a.edge) (act_there a.edge each.0.0.edge))

  -- ---- the arcs of a node

  incoming_there : (node : ℕ) → node < length g.nodes → slice_get g.incoming node ≡ Some (incoming_at g node)
  incoming_there node inside =
      slice_get-get_or g.incoming node [] (omega (arith, inside, fits.incoming)) ∙ ap (λ (arcs : List Arc). Some arcs) (sym (unwrap_or-slice_get g.incoming node []))

  pub leads_here : (node : ℕ) → node < length g.nodes → (a : Arc) → Contains (incoming_at g node) a → LeadsTo node a
  leads_here node inside a at =
      (fits.arriving node (incoming_at g node) a (incoming_there node inside) at, fits.into node (incoming_at g node) a (incoming_there node inside) at)

  pub forward_cells : (with_asserts origin : Bool) (node : ℕ) (table : Table) → node < length g.nodes → Fits table → cell_count (forward_value f g with_asserts origin node table) ≡ cells_at g node
  forward_cells with_asserts origin node table inside cells =
      let begun : cell_count (initial f g origin node) ≡ cells_at g node = if_cells (origin && nat_eq node 0) (started (cells_at g node)) (Unreachable (cells_at g node)) (cells_at g node) (started_cells (cells_at g node)) refl in
      let met : cell_count (joined f g origin table node) ≡ cells_at g node =
      fold_cells table cells node (incoming_at g node) (each_by (LeadsTo node) (incoming_at g node) (leads_here node inside)) (initial f g origin node) begun in
      if_cells with_asserts (all_assumed f g (scope_at f g node) (standing_at (chart_of f) (point_number g node)) (joined f g origin table node)) (joined f g origin table node) (cells_at g node)
      (all_assumed_cells (scope_at f g node) (standing_at (chart_of f) (point_number g node)) (joined f g origin table node) ∙ met) met

  module _ (lists : List (List ℕ)) (reads : AreForwardReads g lists) where
    is_read : (node : ℕ) → node < length g.nodes → (a : Arc) → Contains (incoming_at g node) a → (r : ℕ) → Contains (read_by a) r → Contains (list_at lists node) r
    is_read node inside a at r read =
        contained (list_at lists node) r (reads.members node r inside ∙ listed (all_read g node) r (read_at (incoming_at g node) a at.0 at.1 at.2 r read))

    exit_read : (o : Option ℕ) (from : ℕ) → is_some o ≡ true → Contains (from ∷ option_to_list o) (unwrap_or o 0)
    exit_read None from h = absurd (grind arith)
    exit_read (Some x) from h = contains_later from x (x ∷ []) (contains_first x [])

    pub forward_same : (with_asserts origin : Bool) (node : ℕ) (t u : Table) → node < length g.nodes
        → ((r : ℕ) → Contains (list_at lists node) r → element env_ops t r ≡ element env_ops u r) → forward_value f g with_asserts origin node t ≡ forward_value f g with_asserts origin node u
    forward_same with_asserts origin node t u inside agree =
        let same : joined f g origin t node ≡ joined f g origin u node =
        fold_same t u (incoming_at g node)
        (each_by (Agree t u) (incoming_at g node) (λ a at. (
          (leads_here node inside a at).0,
          agree a.from (is_read node inside a at a.from (contains_first a.from (option_to_list a.other))),
          λ some. agree (exit_of a) (is_read node inside a at (exit_of a) (exit_read a.other a.from some)),
        ))) (initial f g origin node) in
        ap (λ (e : Environment). if with_asserts then all_assumed f g (scope_at f g node) (standing_at (chart_of f) (point_number g node)) e else e) same

    pub reads_below : (node r : ℕ) → node < length g.nodes → Contains (list_at lists node) r → r < length g.nodes
    reads_below node r inside at =
        all_below (length g.nodes) (incoming_at g node)
        (each_by (ReadsBelow (length g.nodes)) (incoming_at g node) (λ a among. let arc = (leads_here node inside a among).0 in (arc.from, arc.exit))) r
        (sym (reads.members node r inside) ∙ listed (list_at lists node) r at)

    pub forward_is_system : (with_asserts origin : Bool) → IsSystem env_ops (forward_system f g lists with_asserts origin)
    forward_is_system with_asserts origin = record {
      reads_nodes = λ node r inside at. reads_below node r inside at;
      shapes = λ node table inside is_table. forward_cells with_asserts origin node table inside is_table.shapes;
      local = λ node t u inside is_t is_u agree. forward_same with_asserts origin node t u inside agree;
    }
