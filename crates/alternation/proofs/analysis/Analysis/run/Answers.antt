use Rattle.std.proofs.Common.{◌≡◌, ℕ, ◌-◌, List, Global, Vec, false, true, length, map, sym, ap, subst, ◌∙◌}
use Rattle.std.specs.Vec.{with_items}
use Rattle.std.proofs.lemmas.List.{with_items_is}
use Rattle.environment.specs.Kept.{Roomy}
use Rattle.transfer_fwd.specs.Systems.{forward_system}
use Rattle.transfer_fwd.specs.Reads.{AreForwardReads}
use Rattle.transfer_fwd.specs.Solving.{Kept}
use Rattle.alternation.specs.Analysed.{flow_of, graph_of}
use Rattle.transfer_fwd.specs.Systems.{HasRoomFor, FitsGraph}
use Rattle.alternation.specs.Limits.{type_limits}
use Rattle.alternation.specs.Solved.{AreEnough, IsPlain}
use Rattle.alternation.specs.declared.analysis.Analysis.{Analysis}
use Rattle.alternation.proofs.Solving.{are_enough, are_tables, descent_by, fewer_by, has_room, in_order, is_plain, is_table_of, same_length}
use Rattle.alternation.proofs.analysis.Analysis.run.Goals as goal

pub ascend-requires-clause-order : goal.ascend-requires-clause-order
ascend-requires-clause-order g c =
    let flow = c.self.inside.0.0.now in
    let graph = c.self.inside.0.1.0.now in
    let items = λ (v : Vec ℕ Global). v.items in
    let reads = map items c.self.inside.0.1.1.0.reads.items in
    let is = c.over-forward.ensures.system ∙ ap (λ (vs : List (Vec ℕ Global)). forward_system flow graph (map items vs) false true) c.deref.ensures.value in
    let are_reads : AreForwardReads graph reads = c.self.inside.1.1.0 in
    in_order flow graph reads _ is c.self.inside.0.1.1.0.order are_reads c.self.invariant.weak

pub ascend-requires-clause-tables : goal.ascend-requires-clause-tables
ascend-requires-clause-tables g c =
    let flow = c.self.inside.0.0.now in
    let graph = c.self.inside.0.1.0.now in
    let items = λ (v : Vec ℕ Global). v.items in
    let reads = map items c.self.inside.0.1.1.0.reads.items in
    let is = c.over-forward.ensures.system ∙ ap (λ (vs : List (Vec ℕ Global)). forward_system flow graph (map items vs) false true) c.deref.ensures.value in
    let env = λ (e : Roomy). e.env in
    let plain = c.self.inside.0.1.1.1.1.1.0 in
    let table : FitsGraph graph (map env plain.items) = c.self.inside.1.1.1.1.1.1.0 in
    let limited : map env c.self.inside.0.1.1.1.1.0.items ≡ type_limits graph = c.self.inside.1.1.1.1.1.0 in
    are_tables flow graph reads _ is (map env c.deref-2.result.now) (map env c.deref_mut-2.result.now) (ap (map env) c.deref-2.ensures.value ∙ limited)
    (subst (λ (es : List Roomy). FitsGraph graph (map env es)) (sym c.deref_mut-2.ensures.value) table)

pub ascend-requires-clause-scratch : goal.ascend-requires-clause-scratch
ascend-requires-clause-scratch g c =
    let flow = c.self.inside.0.0.now in
    let graph = c.self.inside.0.1.0.now in
    let items = λ (v : Vec ℕ Global). v.items in
    let reads = map items c.self.inside.0.1.1.0.reads.items in
    let is = c.over-forward.ensures.system ∙ ap (λ (vs : List (Vec ℕ Global)). forward_system flow graph (map items vs) false true) c.deref.ensures.value in
    has_room flow graph reads _ is _ c.self.inside.1.0 c.self.inside.1.1.1.1.1.1.1.1.0

pub descend-requires-clause-order : goal.descend-requires-clause-order
descend-requires-clause-order g c =
    let flow = c.self.inside.0.0.now in
    let graph = c.self.inside.0.1.0.now in
    let items = λ (v : Vec ℕ Global). v.items in
    let reads = map items c.self.inside.0.1.1.0.reads.items in
    let is = c.over-forward.ensures.system ∙ ap (λ (vs : List (Vec ℕ Global)). forward_system flow graph (map items vs) false true) c.deref.ensures.value in
    let again = c.ascend.ensures.equations ∙ is in
    let are_reads : AreForwardReads graph reads = c.self.inside.1.1.0 in
    in_order flow graph reads _ again c.self.inside.0.1.1.0.order are_reads c.self.invariant.weak

pub descend-requires-clause-tables : goal.descend-requires-clause-tables
descend-requires-clause-tables g c =
    let flow = c.self.inside.0.0.now in
    let graph = c.self.inside.0.1.0.now in
    let items = λ (v : Vec ℕ Global). v.items in
    let reads = map items c.self.inside.0.1.1.0.reads.items in
    let is = c.over-forward.ensures.system ∙ ap (λ (vs : List (Vec ℕ Global)). forward_system flow graph (map items vs) false true) c.deref.ensures.value in
    let again = c.ascend.ensures.equations ∙ is in
    let env = λ (e : Roomy). e.env in
    let plain = c.self.inside.0.1.1.1.1.1.0 in
    let table : FitsGraph graph (map env plain.items) = c.self.inside.1.1.1.1.1.1.0 in
    let limited : map env c.self.inside.0.1.1.1.1.0.items ≡ type_limits graph = c.self.inside.1.1.1.1.1.0 in
    let ascended = is_table_of flow graph reads _ is (map env c.ascend.new.table) c.ascend.ensures.table in
    let long = same_length (length graph.nodes) plain c.deref_mut-2.result.now c.ascend.new.table c.deref_mut-2.ensures.value c.deref_mut-2.ensures.len table.size ascended.size in
    are_tables flow graph reads _ again (map env c.deref-4.result.now) (map env c.deref_mut-4.result.now) (ap (map env) c.deref-4.ensures.value ∙ limited)
    (subst (λ (es : List Roomy). FitsGraph graph (map env es)) (sym (c.deref_mut-4.ensures.value ∙ with_items_is plain c.ascend.new.table long)) ascended)

pub descend-requires-clause-scratch : goal.descend-requires-clause-scratch
descend-requires-clause-scratch g c =
    let flow = c.self.inside.0.0.now in
    let graph = c.self.inside.0.1.0.now in
    let items = λ (v : Vec ℕ Global). v.items in
    let reads = map items c.self.inside.0.1.1.0.reads.items in
    let is = c.over-forward.ensures.system ∙ ap (λ (vs : List (Vec ℕ Global)). forward_system flow graph (map items vs) false true) c.deref.ensures.value in
    let again = c.ascend.ensures.equations ∙ is in
    has_room flow graph reads _ again _ c.self.inside.1.0 (subst (HasRoomFor graph) (sym c.ascend.ensures.room) c.self.inside.1.1.1.1.1.1.1.1.0)

pub invariant_of-self-inside : goal.invariant_of-self-inside
invariant_of-self-inside g c =
    let flow = c.self.inside.0.0.now in
    let graph = c.self.inside.0.1.0.now in
    let items = λ (v : Vec ℕ Global). v.items in
    let reads = map items c.self.inside.0.1.1.0.reads.items in
    let is = c.over-forward.ensures.system ∙ ap (λ (vs : List (Vec ℕ Global)). forward_system flow graph (map items vs) false true) c.deref.ensures.value in
    let again = c.ascend.ensures.equations ∙ is in
    let env = λ (e : Roomy). e.env in
    let plain = c.self.inside.0.1.1.1.1.1.0 in
    let table : FitsGraph graph (map env plain.items) = c.self.inside.1.1.1.1.1.1.0 in
    let ascended = is_table_of flow graph reads _ is (map env c.ascend.new.table) c.ascend.ensures.table in
    let long = same_length (length graph.nodes) plain c.deref_mut-2.result.now c.ascend.new.table c.deref_mut-2.ensures.value c.deref_mut-2.ensures.len table.size ascended.size in
    let solved = is_table_of flow graph reads _ again (map env c.descend.new.table) c.descend.ensures.table in
    let risen = with_items plain c.ascend.new.table in
    let length_kept = same_length (length graph.nodes) plain c.deref_mut-2.result.now c.descend.new.table c.deref_mut-2.ensures.value c.deref_mut-2.ensures.len table.size solved.size in
    let stale = c.self.inside.0.1.1.1.1.1.1.0 in
    let all_marks : length c.descend.new.stale ≡ stale.len = c.descend.auto.stale ∙ c.deref_mut-3.ensures.len in
    record {
      fits = c.self.inside.1.0;
      are_reads = c.self.inside.1.1.0;
      least_first = c.self.inside.1.1.1.0;
      are_steps = c.self.inside.1.1.1.1.0;
      are_limits = c.self.inside.1.1.1.1.1.0;
      table = subst (λ (es : List Roomy). FitsGraph graph (map env es)) (sym (with_items_is risen c.descend.new.table length_kept)) solved;
      marks = ap length (with_items_is (with_items stale c.ascend.new.stale) c.descend.new.stale all_marks) ∙ all_marks ∙ sym c.deref_mut.ensures.len
          ∙ ap length c.deref_mut.ensures.value ∙ c.self.inside.1.1.1.1.1.1.1.0;
      value_room = subst (HasRoomFor graph) (sym (c.descend.ensures.room ∙ c.ascend.ensures.room)) c.self.inside.1.1.1.1.1.1.1.1.0;
      arc_room = subst (HasRoomFor graph) (sym (ap (λ (k : Kept). k.room) (c.descend.ensures.kept ∙ c.ascend.ensures.kept) ∙ c.over-forward.ensures.room))
          c.self.inside.1.1.1.1.1.1.1.1.1.0;
      outline = c.self.inside.1.1.1.1.1.1.1.1.1.1.0;
    }

pub returns-clause-plain : goal.returns-clause-plain
returns-clause-plain g c =
    let flow = c.self.inside.0.0.now in
    let graph = c.self.inside.0.1.0.now in
    let items = λ (v : Vec ℕ Global). v.items in
    let reads = map items c.self.inside.0.1.1.0.reads.items in
    let is = c.over-forward.ensures.system ∙ ap (λ (vs : List (Vec ℕ Global)). forward_system flow graph (map items vs) false true) c.deref.ensures.value in
    let again = c.ascend.ensures.equations ∙ is in
    let env = λ (e : Roomy). e.env in
    let plain = c.self.inside.0.1.1.1.1.1.0 in
    let table : FitsGraph graph (map env plain.items) = c.self.inside.1.1.1.1.1.1.0 in
    let limited : map env c.self.inside.0.1.1.1.1.0.items ≡ type_limits graph = c.self.inside.1.1.1.1.1.0 in
    let are_reads : AreForwardReads graph reads = c.self.inside.1.1.0 in
    let ascended = is_table_of flow graph reads _ is (map env c.ascend.new.table) c.ascend.ensures.table in
    let long = same_length (length graph.nodes) plain c.deref_mut-2.result.now c.ascend.new.table c.deref_mut-2.ensures.value c.deref_mut-2.ensures.len table.size ascended.size in
    let solved = is_table_of flow graph reads _ again (map env c.descend.new.table) c.descend.ensures.table in
    let risen = with_items plain c.ascend.new.table in
    let length_kept = same_length (length graph.nodes) plain c.deref_mut-2.result.now c.descend.new.table c.deref_mut-2.ensures.value c.deref_mut-2.ensures.len table.size solved.size in
    let found = is_plain flow graph reads _ is are_reads c.self.inside.0.1.1.0.order _ c.self.inside.1.1.1.0 c.self.invariant.order
    (map env c.deref-2.result.now) c.as_slice.result.now (map env c.ascend.new.table) (map env c.descend.new.table) (ap (map env) c.deref-2.ensures.value ∙ limited)
    (c.as_slice.ensures.value ∙ c.self.inside.1.1.1.1.0) c.ascend.ensures.ascent
    (λ elements layout. descent_by _ _ (map env c.deref-4.result.now) (map env c.deref-2.result.now) (map env c.deref_mut-4.result.now) (map env c.ascend.new.table)
    (map env c.descend.new.table) elements c.ascend.ensures.equations (ap (map env) (c.deref-4.ensures.value ∙ sym c.deref-2.ensures.value))
    (ap (map env) (c.deref_mut-4.ensures.value ∙ with_items_is plain c.ascend.new.table long)) (c.descend.ensures.descent elements layout)) in
    let kept = subst (λ (es : List Roomy). IsPlain flow graph (map env es)) (sym (with_items_is risen c.descend.new.table length_kept)) found in
    subst (λ (a : Analysis). IsPlain (flow_of a) (graph_of a) (map env (with_items risen c.descend.new.table).items)) c.self.view_is kept

pub returns-clause-evaluations : goal.returns-clause-evaluations
returns-clause-evaluations g c =
    let flow = c.self.inside.0.0.now in
    let graph = c.self.inside.0.1.0.now in
    let items = λ (v : Vec ℕ Global). v.items in
    let reads = map items c.self.inside.0.1.1.0.reads.items in
    let is = c.over-forward.ensures.system ∙ ap (λ (vs : List (Vec ℕ Global)). forward_system flow graph (map items vs) false true) c.deref.ensures.value in
    let again = c.ascend.ensures.equations ∙ is in
    let env = λ (e : Roomy). e.env in
    let limited : map env c.self.inside.0.1.1.1.1.0.items ≡ type_limits graph = c.self.inside.1.1.1.1.1.0 in
    let are_reads : AreForwardReads graph reads = c.self.inside.1.1.0 in
    let enough = are_enough flow graph reads _ is are_reads c.self.inside.0.1.1.0.order _ c.self.inside.1.1.1.0 c.self.invariant.order
    (map env c.deref-2.result.now) c.as_slice.result.now c.args.count.now c.ascend.new.count c.descend.new.count (ap (map env) c.deref-2.ensures.value ∙ limited)
    (c.as_slice.ensures.value ∙ c.self.inside.1.1.1.1.0) c.ascend.ensures.evaluations
    (λ elements zs h layout. fewer_by _ _ (map env c.deref-4.result.now) (map env c.deref-2.result.now) zs h elements c.ascend.new.count c.descend.new.count
    c.ascend.ensures.equations (ap (map env) (c.deref-4.ensures.value ∙ sym c.deref-2.ensures.value)) (c.descend.ensures.evaluations elements zs h layout)) in
    subst (λ (a : Analysis). AreEnough (flow_of a) (graph_of a) (c.descend.new.count - c.args.count.now)) c.self.view_is enough
