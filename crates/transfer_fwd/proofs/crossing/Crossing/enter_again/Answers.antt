use Rattle.std.proofs.Common.{◌≡◌, ◌<◌, ℕ, Bool, List, Option, Some, true, false, length, map, ap, sym, subst, ◌∙◌}
use Rattle.std.specs.Option.{option_map}
use Rattle.std.specs.Prelude.{replicate, slice_get, if◌then◌else◌}
use Rattle.alias_class.specs.declared.bind.Link.{Link}
use Rattle.alias_class.specs.Cells.{routine_of}
use Rattle.control_points.specs.Checking.{formals_of}
use Rattle.environment.specs.Environments.{Environment, cell_count, env_join, is_reachable, undefined, started, value_at}
use Rattle.environment.specs.Environments.Environment.{Reachable, Unreachable}
use Rattle.pas_program.specs.declared.routine.Routine.{Routine}
use Rattle.pas_program.specs.Checked.{tables}
use Rattle.pas_program.specs.Tables.{Head, head_of}
use Rattle.pas_program.specs.Typed.{are_passed_to, passed}
use Rattle.abstract_expr.specs.Standing.{class_in}
use Rattle.transfer_fwd.specs.Crossed.{crossing_of, inside_of, outside_of}
use Rattle.interval.specs.Values.{allows_nothing}
use Rattle.transfer_fwd.specs.Crossings.{entry_from, formals_given, linked_in, may_all_be_undefined}
use Rattle.transfer_fwd.specs.Standing.{Called}
use Rattle.transfer_fwd.proofs.Called.{formals_stand, found, inside_routine, routine_in_range}
use Rattle.transfer_fwd.proofs.Covering.{joined_again}
use Rattle.transfer_fwd.proofs.Entered.{holds_something, reached_is}
use Rattle.transfer_fwd.proofs.crossing.Crossing.enter_again.Goals as goal

pub returns-clause-value : goal.returns-clause-value
returns-clause-value c =
    let x = c.args.self.now in
    let p = x.flow.now.program in
    let t = x.classes.now in
    let o = t.outline in
    let d = class_in t x.inside in
    let left = c.args.left.now.env in
    let out = c.args.out.now.env in
    let call : Called = record { routine = x.routine; actuals = x.actuals.now; slot = x.slot } in
    let rt = found p.routines x.routine (routine_in_range x.flow.now t x.outside x.inside x.site call x.call) in
    let of : routine_of o d ≡ x.routine = inside_routine x.flow.now t x.outside x.inside x.site call x.call in
    let known : slice_get p.routines (routine_of o d) ≡ Some rt.item = ap (slice_get p.routines) of ∙ rt.known in
    let formals : List ℕ = (crossing_of x).formals in
    let formals_are : formals ≡ rt.item.formals = ap (λ (r : Option Routine). formals_of (option_map head_of r)) rt.known in
    let stand = formals_stand x.flow.now t x.outside x.inside x.site call x.call in
    let heads : Some (head_of rt.item) ≡ Some stand.head = ap (option_map head_of) (sym rt.known) ∙ stand.known in
    let fits : are_passed_to (tables p) (map (passed (tables p)) x.actuals.now) rt.item.formals ≡ true =
    ap (λ (h : Option Head). are_passed_to (tables p) (map (passed (tables p)) x.actuals.now) (formals_of h)) heads ∙ stand.fit in
    let cells = reached_is out c.requires.again in
    let long : length cells.cells ≡ (crossing_of x).cells = ap cell_count (sym cells.is) ∙ c.requires.out in
    let something : (i : ℕ) (l : Link) → slice_get x.links.now i ≡ Some l → allows_nothing (value_at left l.caller) ≡ false =
    λ i l e. holds_something left l.caller c.requires.reached c.args.left.now.proper (subst (λ (n : ℕ). l.caller < n) (sym c.requires.left) (c.shares.ensures.from_cells i l e)) in
    let give : List ℕ → Environment = λ vs. formals_given true (outside_of x) (inside_of x) left x.actuals.now vs (linked_in true left x.links.now (Reachable (replicate (length cells.cells) undefined))) in
    let entry_is : entry_from (crossing_of x) left ≡ give rt.item.formals =
    ap (λ (b : Bool). if b then formals_given true (outside_of x) (inside_of x) left x.actuals.now formals (linked_in true left x.links.now (started (crossing_of x).cells)) else Unreachable (crossing_of x).cells) c.requires.reached
    ∙ ap (λ (n : ℕ). formals_given true (outside_of x) (inside_of x) left x.actuals.now formals (linked_in true left x.links.now (started n))) (sym long)
    ∙ ap give formals_are in
    let reached : is_reachable (give rt.item.formals) ≡ true = ap is_reachable (sym entry_is) ∙ c.requires.entry in
    let joined = joined_again p o x.call.outline d rt.item known (class_in t x.outside) x.links.now c.shares.ensures (outside_of x) left x.actuals.now fits cells.cells long something reached in
    let after : List ℕ → Environment → Environment = λ vs env. may_all_be_undefined (inside_of x) rt.item.vars (formals_given false (outside_of x) (inside_of x) left x.actuals.now vs (linked_in false left x.links.now env)) in
    c.leave_undefined.ensures.value rt.item rt.known
    ∙ ap (may_all_be_undefined (inside_of x) rt.item.vars) (c.give_formals.ensures.value ∙ ap (formals_given false (outside_of x) (inside_of x) left x.actuals.now formals) c.give_links.ensures.value)
    ∙ ap (λ (vs : List ℕ). after vs out) formals_are
    ∙ ap (after rt.item.formals) cells.is
    ∙ joined
    ∙ ap (λ (env : Environment). env_join env (give rt.item.formals)) (sym cells.is)
    ∙ ap (env_join out) (sym entry_is)
