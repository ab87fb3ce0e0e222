use Rattle.std.proofs.Common.{◌≡◌, ℕ, suc, ◌+◌, ◌<◌, List, get_or, length, drop, sym, ap, ◌∙◌, arith, rules, ℤ, ◌-ℤ◌, Option, Some, w32, to_z, of_z}
use Rattle.std.specs.List.{count_by, slice_get}
use Rattle.std.specs.Option.{option_map}
use Rattle.std.specs.Prelude.{nat_abs, nat_eq}
use Rattle.std.proofs.lemmas.Int.{ints, to_z-of_z}
use Rattle.std.proofs.lemmas.List.{at_drop_all, at_drop_more}
use Rattle.std.proofs.lemmas.Option.{get_or_from_slice_get, slice_get_within}
use Rattle.arithmetic.specs.Numbers.{IsNumber}
use Rattle.interval.specs.declared.itv.Itv.{Itv}
use Rattle.interval.specs.Intervals.{is_in}
use Rattle.control_points.specs.declared.edge.Edge.{Edge}
use Rattle.control_points.specs.Chart.{leaving}
use Rattle.control_points.specs.Fits.{act_at}
use Rattle.control_points.specs.Judgements.{all_constants, constants_at, constants_of}
use Rattle.abstract_expr.proofs.Chosen.{counted, counts_append}
use Rattle.abstract_expr.proofs.Listed.{leaves_in}
use Rattle.abstract_expr.proofs.constants.are_constants.Goals as goal

-- the constants of one arm, of those from it on
arm_counted : (edges read : List Edge) (p i : ℕ) (out : List ℕ) (x : Itv) (d : Edge) (chosen found total : ℕ) → out ≡ leaving edges p → i < length out → read ≡ edges
    → found ≡ count_by (is_in x) (constants_of (Some (get_or read (get_or out i 0) d).act))
    → chosen + count_by (is_in x) (all_constants edges (drop i out)) ≡ total
    → (chosen + found) + count_by (is_in x) (all_constants edges (drop (i + 1) out)) ≡ total
arm_counted edges read p i out x d chosen found total is h same counts whole =
    let k = get_or out i 0 in
    let l = leaves_in edges p i out is h in
    let edge : get_or read k d ≡ l.edge = get_or_from_slice_get read k l.edge d (ap (λ (xs : List Edge). slice_get xs k) same ∙ l.found) in
    let arm : found ≡ count_by (is_in x) (constants_of (act_at edges k)) =
    counts ∙ ap (λ (e : Edge). count_by (is_in x) (constants_of (Some e.act))) edge
    ∙ ap (λ (o : Option Edge). count_by (is_in x) (constants_of (option_map (λ (e : Edge). e.act) o))) (sym l.found) in
    let split : count_by (is_in x) (all_constants edges (drop i out)) ≡ count_by (is_in x) (constants_of (act_at edges k)) + count_by (is_in x) (all_constants edges (drop (i + 1) out)) =
    at_drop_more (λ (ks : List ℕ). count_by (is_in x) (all_constants edges ks)) out i 0 h
    ∙ counts_append (is_in x) (constants_of (act_at edges k)) (all_constants edges (drop (i + 1) out)) in
    omega (arith, split, arm, whole)

number_same : (z : ℤ) → IsNumber z → to_z w32 (of_z w32 z) ≡ z
number_same z h = let low = h.0 in let high = h.1 in to_z-of_z w32 z (search (rules, ints))

span_is : (lo hi : ℤ) (between span : ℕ) → IsNumber lo → IsNumber hi → between ≡ nat_abs (to_z w32 (of_z w32 hi) -ℤ to_z w32 (of_z w32 lo)) → span ≡ between → span + 1 ≡ suc (nat_abs (hi -ℤ lo))
span_is lo hi between span l h e f =
    let same : between ≡ nat_abs (hi -ℤ lo) = e ∙ ap (λ (z : ℤ). nat_abs (z -ℤ to_z w32 (of_z w32 lo))) (number_same hi h) ∙ ap (λ (z : ℤ). nat_abs (hi -ℤ z)) (number_same lo l) in
    omega (arith, same, f)

pub bounds-edges-edge : goal.bounds-edges-edge
bounds-edges-edge c =
    let f = c.args.flow.now in
    let i = c.loop-edge.edge-index in
    let out = c.outgoing-edge-items.result.now in
    let k = get_or out i 0 in
    let l = leaves_in f.edges c.args.point i out c.outgoing-edge-items.ensures c.loop-edge-test.true in
    slice_get_within c.edges.result.now k l.edge (ap (λ (xs : List Edge). slice_get xs k) c.edges.ensures ∙ l.found)

pub overflow_add-chosen : goal.overflow_add-chosen
overflow_add-chosen c =
    let f = c.args.flow.now in
    let x = c.args.x in
    let d = counted (constants_at f.edges c.args.point) x (c.constants_of_a_case_differ.ensures f c.args.point) (sym c.is_empty.ensures ∙ c.if-is_empty.false) in
    let whole = arm_counted f.edges c.edges.result.now c.args.point c.loop-edge.edge-index c.outgoing-edge-items.result.now x c.index-edges-edge.result c.loop-edge.chosen c.constants_in-chosen.result (count_by (is_in x) (constants_at f.edges c.args.point))
    c.outgoing-edge-items.ensures c.loop-edge-test.true c.edges.ensures c.constants_in-chosen.ensures c.loop-edge.invariant in
    omega (arith, d.few, whole)

pub loop-edge-preserved : goal.loop-edge-preserved
loop-edge-preserved c =
    let f = c.args.flow.now in
    let x = c.args.x in
    arm_counted f.edges c.edges.result.now c.args.point c.loop-edge.edge-index c.outgoing-edge-items.result.now x c.index-edges-edge.result c.loop-edge.chosen c.constants_in-chosen.result (count_by (is_in x) (constants_at f.edges c.args.point))
    c.outgoing-edge-items.ensures c.loop-edge-test.true c.edges.ensures c.constants_in-chosen.ensures c.loop-edge.invariant

pub returns : goal.returns
returns c =
    let f = c.args.flow.now in
    let x = c.args.x in
    let out = c.outgoing-edge-items.result.now in
    let cs = constants_at f.edges c.args.point in
    let d = counted cs x (c.constants_of_a_case_differ.ensures f c.args.point) (sym c.is_empty.ensures ∙ c.if-is_empty.false) in
    let none : count_by (is_in x) (all_constants f.edges (drop c.loop-edge.edge-index out)) ≡ 0 = at_drop_all (λ (ks : List ℕ). count_by (is_in x) (all_constants f.edges ks)) out c.loop-edge.edge-index c.loop-edge-test.false in
    let total : c.loop-edge.chosen ≡ count_by (is_in x) cs = omega (arith, none, c.loop-edge.invariant) in
    let span : c.from.result + 1 ≡ suc (nat_abs (x.hi -ℤ x.lo)) = span_is x.lo x.hi c.abs_diff.result c.from.result x.lo_in_range x.hi_in_range c.abs_diff.ensures c.from.ensures in
    ap (λ (n : ℕ). nat_eq n (c.from.result + 1)) total ∙ ap (nat_eq (count_by (is_in x) cs)) span ∙ d.chosen
