use Rattle.std.proofs.Common.{◌+◌, rules, refl, ◌∙◌, subst, get_or, drop, Ok}
use Rattle.std.specs.Prelude.{IfSome}
use Rattle.std.specs.List.{slice_get}
use Rattle.std.proofs.lemmas.Option.{slice_get_within, slice_get-get_or}
use Rattle.control_points.specs.Actions.{effect_of}
use Rattle.control_points.specs.declared.edge.Edge.{Edge}
use Rattle.control_points.specs.Chart.{place_of_point}
use Rattle.control_points.specs.Flows.{chart_of}
use Rattle.control_points.specs.Steps.{first_done}
use Rattle.interp.specs.Deeds.{IsAsked}
use Rattle.interp.specs.Machines.{top_point}
use Rattle.interp.specs.Meant.{IsDecided}
use Rattle.interp.proofs.Choosing.{edge_met, first_at, first_error, first_is, first_wrong, others}
use Rattle.interp.proofs.Storage.{map_found}
use Rattle.interp.proofs.machine.Machine.first.Goals as goal

pub bounds-edges-number : goal.bounds-edges-number
bounds-edges-number c =
    let m = c.args.self.now in
    let ks = c.args.numbers.now in
    let i = c.loop-number.number-index in
    let w = map_found (λ (e : Edge). e.from) (slice_get m.flow.now.edges (get_or ks i 0)) (top_point m.frames.items) (c.requires i (get_or ks i 0) (slice_get-get_or ks i 0 c.loop-number-test.true)) in
    rw c.edges.ensures (slice_get_within m.flow.now.edges (get_or ks i 0) w.0 w.1)

pub deed_of-requires-clause-numbers : goal.deed_of-requires-clause-numbers
deed_of-requires-clause-numbers c =
    let m = c.args.self.now in
    (edge_met m.flow.now m.frames.items m.framed c.args.numbers.now c.requires c.edges.result.now c.loop-number.number-index c.index-edges-number.result c.edges.ensures c.loop-number-test.true c.index-edges-number.is).onward.numbers

pub deed_of-requires-clause-types : goal.deed_of-requires-clause-types
deed_of-requires-clause-types c =
    let m = c.args.self.now in
    (edge_met m.flow.now m.frames.items m.framed c.args.numbers.now c.requires c.edges.result.now c.loop-number.number-index c.index-edges-number.result c.edges.ensures c.loop-number-test.true c.index-edges-number.is).onward.types

pub deed_of-requires-clause-scopes : goal.deed_of-requires-clause-scopes
deed_of-requires-clause-scopes c =
    let m = c.args.self.now in
    (edge_met m.flow.now m.frames.items m.framed c.args.numbers.now c.requires c.edges.result.now c.loop-number.number-index c.index-edges-number.result c.edges.ensures c.loop-number-test.true c.index-edges-number.is).onward.scopes

pub deed_of-requires-clause-source : goal.deed_of-requires-clause-source
deed_of-requires-clause-source c =
    let m = c.args.self.now in
    (edge_met m.flow.now m.frames.items m.framed c.args.numbers.now c.requires c.edges.result.now c.loop-number.number-index c.index-edges-number.result c.edges.ensures c.loop-number-test.true c.index-edges-number.is).onward.source

pub returns-in-Some-clause-safe : goal.returns-in-Some-clause-safe
returns-in-Some-clause-safe c =
    let m = c.args.self.now in
    let o = edge_met m.flow.now m.frames.items m.framed c.args.numbers.now c.requires c.edges.result.now c.loop-number.number-index c.index-edges-number.result c.edges.ensures c.loop-number-test.true c.index-edges-number.is in
    record {
      edge = c.index-edges-number.result;
      known = o.known;
      leaves = o.leaves;
      asked = subst (λ o. IfSome o (IsAsked m.flow.now.program m.frames.items c.index-edges-number.result.act)) c.in-Some.is c.in_ok-deed.ensures.safe;
    }

pub returns-in-Some-clause-exact : goal.returns-in-Some-clause-exact
returns-in-Some-clause-exact c = λ s st.
    let m = c.args.self.now in
    let chart = chart_of m.flow.now in
    let ks = c.args.numbers.now in
    let i = c.loop-number.number-index in
    let k = get_or c.args.numbers.now i 0 in
    let e = c.index-edges-number.result in
    let o = edge_met m.flow.now m.frames.items m.framed c.args.numbers.now c.requires c.edges.result.now c.loop-number.number-index c.index-edges-number.result c.edges.ensures c.loop-number-test.true c.index-edges-number.is in
    let outcome = effect_of chart s k (place_of_point chart.points e.from) e.act in
    first_is m s ks k outcome c.in-Some.deed (first_done chart s (drop (i + 1) ks)) (c.loop-number.invariant s st ∙ first_at chart s ks i k e c.loop-number-test.true refl o.known)
    (subst (λ d. IsDecided m s k outcome (Ok d)) c.in-Some.is (c.in_ok-deed.ensures.exact k s st))

pub returns-in_err-deed-clause-exact : goal.returns-in_err-deed-clause-exact
returns-in_err-deed-clause-exact c = λ s st.
    let m = c.args.self.now in
    let chart = chart_of m.flow.now in
    let ks = c.args.numbers.now in
    let i = c.loop-number.number-index in
    let k = get_or c.args.numbers.now i 0 in
    let e = c.index-edges-number.result in
    let o = edge_met m.flow.now m.frames.items m.framed c.args.numbers.now c.requires c.edges.result.now c.loop-number.number-index c.index-edges-number.result c.edges.ensures c.loop-number-test.true c.index-edges-number.is in
    let outcome = effect_of chart s k (place_of_point chart.points e.from) e.act in
    let f = c.in_err-deed.field-0.0 in
    first_wrong m s ks c.from_residual.result f (search rules)
    (c.loop-number.invariant s st ∙ first_at chart s ks i k e c.loop-number-test.true refl o.known ∙ first_error chart s k outcome f (first_done chart s (drop (i + 1) ks)) (c.in_err-deed.ensures.exact k s st))

pub loop-number-preserved : goal.loop-number-preserved
loop-number-preserved c = λ s st.
    let m = c.args.self.now in
    let chart = chart_of m.flow.now in
    let ks = c.args.numbers.now in
    let i = c.loop-number.number-index in
    let k = get_or c.args.numbers.now i 0 in
    let e = c.index-edges-number.result in
    let o = edge_met m.flow.now m.frames.items m.framed c.args.numbers.now c.requires c.edges.result.now c.loop-number.number-index c.index-edges-number.result c.edges.ensures c.loop-number-test.true c.index-edges-number.is in
    let outcome = effect_of chart s k (place_of_point chart.points e.from) e.act in
    let nothing = subst (λ d. IsDecided m s k outcome (Ok d)) c.in_default.is (c.in_ok-deed.ensures.exact k s st) in
    c.loop-number.invariant s st ∙ first_at chart s ks i k e c.loop-number-test.true refl o.known ∙ others chart s k outcome (first_done chart s (drop (i + 1) ks)) nothing
