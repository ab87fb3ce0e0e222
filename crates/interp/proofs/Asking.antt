-- What an action asks for leads the machine on: an effect to a point of the routine of the activation that goes on, and a call.
use Rattle.std.proofs.Common.{◌≡◌, ℕ, zero, suc, ◌-◌, ◌<◌, true, List, length, refl, sym, ap, ◌∙◌, subst, arith, Option, Some, None}
use Rattle.std.specs.Borrow.{Bor}
use Rattle.std.specs.List.{slice_get}
use Rattle.std.specs.Option.{option_map, option_and_then, unwrap_or}
use Rattle.std.proofs.lemmas.Bool.{true≢false, and_parts, eqb-true}
use Rattle.std.proofs.lemmas.Option.{none-some, slice_get_within}
use Rattle.pas_program.specs.declared.expr.Actual.{Actual}
use Rattle.pas_program.specs.Checked.{numbers_in, scope_in, tables}
use Rattle.pas_program.specs.Scopes.{is_the}
use Rattle.control_points.specs.Acts.{each_act, act_types_fit}
use Rattle.control_points.specs.declared.edge.Act.{Act}
use Rattle.control_points.specs.declared.edge.Act.TheVariants as act
use Rattle.control_points.specs.declared.edge.Edge.{Edge}
use Rattle.control_points.specs.declared.flow.Flow.{Flow}
use Rattle.control_points.specs.Fits.{callee_of, routine_at}
use Rattle.control_points.specs.Leading.{EdgesLead, goes_on_after}
use Rattle.interp.specs.declared.decide.Deed.TheVariants as deed
use Rattle.interp.specs.declared.decide.Effect.{Effect}
use Rattle.interp.specs.declared.frame.Frame.{Frame}
use Rattle.interp.specs.Calls.{IsCallOf}
use Rattle.interp.specs.Deeds.{IsAsked, IsEffect, LandsAt, top_call}
use Rattle.interp.specs.Machines.{AreFrames, is_made_at, is_call_from, routine_of, top_of, top_point, top_routine}
use Rattle.interp.proofs.Chains.{holds_some, routine_is, top_routine_is}
use Rattle.interp.proofs.Lists.{some_at}
use Rattle.interp.proofs.Storage.{Stands, frame_stands}

-- the latest activation
pub record Top (flow : Flow) (frames : List Frame) : Type 0 where
  pub frame : Frame
  pub known : slice_get frames (top_of frames) ≡ Some frame
  pub point : top_point frames ≡ frame.point
  pub routine : top_routine frames ≡ frame.routine
  pub stands : Stands flow frame

pub top_is : (flow : Flow) (frames : List Frame) → AreFrames flow frames → Top flow frames
top_is flow frames h =
    let w = some_at frames (top_of frames) (omega (arith, h.some)) in
    record {
      frame = w.0;
      known = w.1;
      point = ap (λ o. unwrap_or (option_map (λ (g : Frame). g.point) o) 0) w.1;
      routine = top_routine_is frames w.0 w.1;
      stands = frame_stands flow frames h (top_of frames) w.0 w.1;
    }

-- what an edge that leaves its point may rely on
pub record Onward (flow : Flow) (frames : List Frame) (e : Edge) : Type 0 where
  pub numbers : each_act (numbers_in flow.program) e.act ≡ true
  pub types : act_types_fit (tables flow.program) e.act ≡ true
  pub scopes : each_act (scope_in flow.program (top_routine frames)) e.act ≡ true
  pub source : e.from < length flow.points

pub onward : (flow : Flow) (frames : List Frame) → AreFrames flow frames → (k : ℕ) (e : Edge) → slice_get flow.edges k ≡ Some e → e.from ≡ top_point frames → Onward flow frames e
onward flow frames h k e known leaves =
    let t = top_is flow frames h in
    let p : slice_get flow.points e.from ≡ Some t.stands.point = ap (slice_get flow.points) (leaves ∙ t.point) ∙ t.stands.known in
    record {
      numbers = flow.edges_fit.numbers k e known;
      types = flow.edges_fit.types k e known;
      scopes = subst (λ r. each_act (scope_in flow.program r) e.act ≡ true) (t.stands.same ∙ sym t.routine) (flow.edges_fit.scopes k e t.stands.point known p);
      source = flow.edges_fit.source k e known;
    }

-- ---- effects

pub record Landing (flow : Flow) (frames : List Frame) (e : Edge) (effect : Effect) : Type 0 where
  pub fits : IsEffect flow.program frames effect
  pub point : routine_at flow.points e.to ≡ routine_of frames effect.depth

source_is : (flow : Flow) (frames : List Frame) → AreFrames flow frames → (e : Edge) → e.from ≡ top_point frames → routine_at flow.points e.from ≡ routine_of frames (top_of frames)
source_is flow frames h e leaves =
    let t = top_is flow frames h in
    ap (routine_at flow.points) (leaves ∙ t.point) ∙ h.stands (top_of frames) t.frame t.known ∙ sym (routine_is frames (top_of frames) t.frame t.known)

stays : (flow : Flow) (frames : List Frame) → EdgesLead flow.points flow.edges → AreFrames flow frames → (k : ℕ) (e : Edge) → slice_get flow.edges k ≡ Some e → e.from ≡ top_point frames → goes_on_after e.act ≡ true
    → (effect : Effect) → LandsAt flow.program frames (top_of frames) (deed.Lands effect) → Landing flow frames e effect
stays flow frames w h k e known leaves g effect l = record {
  fits = l.1;
  point = w.inside k e known g ∙ source_is flow frames h e leaves ∙ ap (routine_of frames) (sym l.0);
}

jumps : (flow : Flow) (frames : List Frame) → EdgesLead flow.points flow.edges → (k r : ℕ) (e : Edge) → slice_get flow.edges k ≡ Some e → e.act ≡ act.Goto r → (effect : Effect) (n : ℕ) → routine_of frames n ≡ Some r → LandsAt flow.program frames n (deed.Lands effect) → Landing flow frames e effect
jumps flow frames w k r e known is effect n f l = record { fits = l.1; point = w.outside k r e known is ∙ sym f ∙ ap (routine_of frames) (sym l.0) }

-- the call that made the latest activation, and the one that waits for it
pub record Made (flow : Flow) (frames : List Frame) (j : ℕ) : Type 0 where
  pub caller : Frame
  pub site : Edge
  pub below : slice_get frames (top_of frames - 1) ≡ Some caller
  pub known : slice_get flow.edges j ≡ Some site
  pub waits : site.from ≡ caller.point
  pub callee : callee_of site.act ≡ Some (top_routine frames)
  pub deep : suc (top_of frames - 1) ≡ top_of frames

is_the_one : (n : ℕ) (o : Option ℕ) → is_the n o ≡ true → o ≡ Some n
is_the_one n None h = absurd (true≢false (sym h))
is_the_one n (Some m) h = ap Some (sym (eqb-true n m h))

deep_from : (flow : Flow) (frames : List Frame) → AreFrames flow frames → (g : Frame) (j n : ℕ) → n ≡ top_of frames → slice_get frames n ≡ Some g → g.call ≡ Some j → 0 < n
deep_from flow frames h g j zero e k c = absurd (none-some j (sym (h.first g k) ∙ c))
deep_from flow frames h g j (suc n) e k c = omega arith

pub made_by : (flow : Flow) (frames : List Frame) → AreFrames flow frames → (j : ℕ) → top_call frames ≡ Some j → Made flow frames j
made_by flow frames h j c =
    let t = top_is flow frames h in
    let g : t.frame.call ≡ Some j = sym (ap (option_and_then (λ (g : Frame). g.call)) t.known) ∙ c in
    let d = deep_from flow frames h t.frame j (top_of frames) refl t.known g in
    let s : suc (top_of frames - 1) ≡ top_of frames = omega arith in
    let w = some_at frames (top_of frames - 1) (let l = slice_get_within frames (top_of frames) t.frame t.known in omega arith) in
    let m = h.made (top_of frames - 1) w.0 t.frame w.1 (ap (slice_get frames) s ∙ t.known) in
    let v = holds_some (is_call_from w.0.point t.frame.routine) (slice_get flow.edges j) (ap (is_made_at flow.edges w.0.point t.frame.routine) (sym g) ∙ m) in
    let p = and_parts _ _ v.2 in
    record {
      caller = w.0;
      site = v.0;
      below = w.1;
      known = v.1;
      waits = eqb-true v.0.from w.0.point p.0;
      callee = is_the_one t.frame.routine (callee_of v.0.act) p.1 ∙ ap Some (sym t.routine);
      deep = s;
    }

returns : (flow : Flow) (frames : List Frame) → AreFrames flow frames → (k j : ℕ) (e : Edge) → slice_get flow.edges k ≡ Some e → e.act ≡ act.Return j → (effect : Effect)
    → LandsAt flow.program frames (top_of frames - 1) (deed.Lands effect) → top_call frames ≡ Some j → Landing flow frames e effect
returns flow frames h k j e known is effect l c =
    let m = made_by flow frames h j c in
    let n : k ≡ suc j = flow.calls_return.called k j e known is in
    let r = flow.calls_return.resumed j (top_routine frames) m.site e m.known (ap (slice_get flow.edges) (sym n) ∙ known) m.callee in
    record {
      fits = l.1;
      point = r ∙ ap (routine_at flow.points) m.waits ∙ h.stands (top_of frames - 1) m.caller m.below ∙ sym (routine_is frames (top_of frames - 1) m.caller m.below) ∙ ap (routine_of frames) (sym l.0);
    }

pub asked_lands : (flow : Flow) (frames : List Frame) → EdgesLead flow.points flow.edges → AreFrames flow frames → (k : ℕ) (e : Edge) → slice_get flow.edges k ≡ Some e → e.from ≡ top_point frames → (effect : Effect) → (a : Act) → e.act ≡ a → IsAsked flow.program frames a (deed.Lands effect) → Landing flow frames e effect
asked_lands flow frames w h k e known leaves effect (act.Call routine actuals slot at) is q = absurd q
asked_lands flow frames w h k e known leaves effect (act.Return j) is q = returns flow frames h k j e known is effect q.0 q.1
asked_lands flow frames w h k e known leaves effect (act.Goto r) is q = jumps flow frames w k r e known is effect q.0 q.1 q.2
asked_lands flow frames w h k e known leaves effect act.Skip is q = stays flow frames w h k e known leaves (ap goes_on_after is) effect q
asked_lands flow frames w h k e known leaves effect (act.Assign target value) is q = stays flow frames w h k e known leaves (ap goes_on_after is) effect q
asked_lands flow frames w h k e known leaves effect (act.Copy target source) is q = stays flow frames w h k e known leaves (ap goes_on_after is) effect q
asked_lands flow frames w h k e known leaves effect (act.Test cond wanted) is q = stays flow frames w h k e known leaves (ap goes_on_after is) effect q
asked_lands flow frames w h k e known leaves effect (act.Arm selector constants) is q = stays flow frames w h k e known leaves (ap goes_on_after is) effect q
asked_lands flow frames w h k e known leaves effect (act.Enter control bound first down last) is q = stays flow frames w h k e known leaves (ap goes_on_after is) effect q
asked_lands flow frames w h k e known leaves effect (act.Bypass control bound first down last) is q = stays flow frames w h k e known leaves (ap goes_on_after is) effect q
asked_lands flow frames w h k e known leaves effect (act.Next control bound down) is q = stays flow frames w h k e known leaves (ap goes_on_after is) effect q
asked_lands flow frames w h k e known leaves effect (act.Finish control bound down) is q = stays flow frames w h k e known leaves (ap goes_on_after is) effect q
asked_lands flow frames w h k e known leaves effect (act.Read target) is q = stays flow frames w h k e known leaves (ap goes_on_after is) effect q
asked_lands flow frames w h k e known leaves effect act.DropLine is q = stays flow frames w h k e known leaves (ap goes_on_after is) effect q
asked_lands flow frames w h k e known leaves effect (act.Write item) is q = stays flow frames w h k e known leaves (ap goes_on_after is) effect q
asked_lands flow frames w h k e known leaves effect act.EndLine is q = stays flow frames w h k e known leaves (ap goes_on_after is) effect q

-- ---- calls

pub asked_calls : (flow : Flow) (frames : List Frame) (k : ℕ) (e : Edge) → slice_get flow.edges k ≡ Some e → e.from ≡ top_point frames → (r : ℕ) (passed : Bor (List Actual)) → (a : Act) → e.act ≡ a → IsAsked flow.program frames a (deed.Calls r passed)
    → IsCallOf flow frames k r passed.now
asked_calls flow frames k e known leaves r passed (act.Call routine actuals slot at) is q = record {
  edge = e;
  slot = slot;
  at = at;
  known = known;
  leaves = leaves;
  is = is ∙ ap (λ n. act.Call n actuals slot at) (sym q.0) ∙ ap (λ xs. act.Call r xs slot at) (sym q.1);
}
asked_calls flow frames k e known leaves r passed (act.Return j) is q = absurd q.0
asked_calls flow frames k e known leaves r passed (act.Goto n) is q = absurd q.2
asked_calls flow frames k e known leaves r passed act.Skip is q = absurd q
asked_calls flow frames k e known leaves r passed (act.Assign target value) is q = absurd q
asked_calls flow frames k e known leaves r passed (act.Copy target source) is q = absurd q
asked_calls flow frames k e known leaves r passed (act.Test cond wanted) is q = absurd q
asked_calls flow frames k e known leaves r passed (act.Arm selector constants) is q = absurd q
asked_calls flow frames k e known leaves r passed (act.Enter control bound first down last) is q = absurd q
asked_calls flow frames k e known leaves r passed (act.Bypass control bound first down last) is q = absurd q
asked_calls flow frames k e known leaves r passed (act.Next control bound down) is q = absurd q
asked_calls flow frames k e known leaves r passed (act.Finish control bound down) is q = absurd q
asked_calls flow frames k e known leaves r passed (act.Read target) is q = absurd q
asked_calls flow frames k e known leaves r passed act.DropLine is q = absurd q
asked_calls flow frames k e known leaves r passed (act.Write item) is q = absurd q
asked_calls flow frames k e known leaves r passed act.EndLine is q = absurd q
