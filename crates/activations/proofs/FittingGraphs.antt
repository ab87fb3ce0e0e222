-- Each arc that is listed at a node of an unfolding fits its edge.
use Rattle.std.proofs.Common.{◌≡◌, ℕ, zero, suc, ◌<◌, true, false, List, [], ◌∷◌, length, map, get_or, nat_eq, Option, Some, None, slice_get, refl, sym, ap, subst, ◌∙◌, arith}
use Rattle.std.specs.List.{Contains, filter, range_with_len}
use Rattle.std.specs.Option.{IsSome, option_map, unwrap_or}
use Rattle.std.proofs.lemmas.Bool.Decides.{nat_tests}
use Rattle.std.proofs.lemmas.List.FromFn.{get_or-map-range_with_len, length-map-range_with_len}
use Rattle.std.proofs.lemmas.Option.{get_or_from_slice_get, slice_get-get_or, slice_get_within}
use Rattle.control_points.specs.declared.edge.Act.{Act}
use Rattle.control_points.specs.declared.edge.Act.TheVariants as act
use Rattle.control_points.specs.declared.edge.Edge.{Edge}
use Rattle.control_points.specs.declared.flow.Flow.{Flow}
use Rattle.control_points.specs.Chart.{leaving}
use Rattle.control_points.specs.Fits.{callee_of, is_return_of, routine_at}
use Rattle.control_points.specs.Leading.{goes_on_after, is_return}
use Rattle.pas_program.specs.Tables.{holds_of}
use Rattle.alias_class.specs.declared.outline.Outline.{Outline}
use Rattle.alias_class.specs.Cells.{IsClass, around, routine_of}
use Rattle.alias_class.specs.Classes.{Class, class_at}
use Rattle.alias_class.specs.Outlines.{outline_of}
use Rattle.activations.specs.declared.arc.Arc.{Arc}
use Rattle.activations.specs.declared.node.Node.{Node}
use Rattle.activations.specs.Arcs.{arcs, arcs_by, arcs_from, arcs_into, arcs_of_edge, arcs_of_known, arcs_of_node, left_by, local_arc, number_of, return_arc, return_arcs}
use Rattle.activations.specs.Calls.{is_call}
use Rattle.activations.specs.Drawn.{Drawn, IsUnfolding}
use Rattle.activations.specs.Fitting.{ArcFits, ArcsFit, NodeFits, class_of_node}
use Rattle.activations.specs.Unfolding.{nodes_of, outermost, unfolding_of}
use Rattle.activations.proofs.ClassNumbers.{class_is, class_number as number_is}
use Rattle.activations.proofs.DrawnEdges.{a_call, around_routine, plain_calls, some_around}
use Rattle.activations.proofs.DrawnGotos.{RoutinesAreSeen, goto_in_scope}
use Rattle.activations.proofs.FittingArcs.{Leaves, at_node_by, call_arc, call_fits, called, callee_stands, local_fits, return_fits}
use Rattle.activations.proofs.FittingNodes.{StandsIn, node_stands_in}
use Rattle.activations.proofs.FoundNodes.{member_at}
use Rattle.activations.proofs.NumbersFrom.{all_pass}
use Rattle.activations.proofs.OuterClasses.{around_is_one}
use Rattle.activations.proofs.Pieces.{in_piece, passing}
use Rattle.activations.proofs.StandingNodes.{point_by}

some_is : {A : Type 0} (x y : A) → Some x ≡ Some y → x ≡ y
some_is x y h = grind arith

only_one : (x a : Arc) (n : ℕ) → slice_get (x ∷ []) n ≡ Some a → x ≡ a
only_one x a zero h = some_is x a h
only_one x a (suc n) h = absurd (grind arith)

return_of : (k : ℕ) (a : Act) → is_return_of k a ≡ true → a ≡ act.Return k
return_of k (act.Return j) h = let is : j ≡ k = grind (arith, nat_tests, h) in ap act.Return is
return_of k a h = absurd (grind (arith, h))

holds_at : (k : ℕ) (e : Edge) (o : Option Edge) → o ≡ Some e → holds_of (is_return_of k) (option_map (λ (d : Edge). d.act) o) ≡ true → is_return_of k e.act ≡ true
holds_at k e o known h = sym (ap (λ (x : Option Edge). holds_of (is_return_of k) (option_map (λ (d : Edge). d.act) x)) known) ∙ h

plain_no_return : (a : Act) → goes_on_after a ≡ true → is_return a ≡ false
plain_no_return (act.Return k) h = absurd (grind (arith, h))
plain_no_return a h = refl

plain_no_goto : (a : Act) (r : ℕ) (P : Type 0) → goes_on_after a ≡ true → a ≡ act.Goto r → P
plain_no_goto a r P h is = absurd (grind (arith, sym (ap goes_on_after is) ∙ h))

-- the list at a number
listed_at : (at : ℕ → List Arc) (n i : ℕ) (lists : List (List Arc)) (listed : List Arc) → lists ≡ map at (range_with_len 0 n) → slice_get lists i ≡ Some listed → listed ≡ at i
listed_at at n i lists listed is h =
    let here : slice_get (map at (range_with_len 0 n)) i ≡ Some listed = subst (λ (xs : List (List Arc)). slice_get xs i ≡ Some listed) is h in
    let within = slice_get_within (map at (range_with_len 0 n)) i listed here in
    let below : i < n = omega (arith, within, length-map-range_with_len at 0 n) in
    sym (get_or_from_slice_get (map at (range_with_len 0 n)) i listed [] here) ∙ get_or-map-range_with_len at 0 n i i [] below (omega arith)

module _ (f : Flow) (g : Drawn) (drawn : IsUnfolding f g) where
  module _ (valid : (i : ℕ) → i < length g.table.classes → IsClass g.table.outline (class_at g.table.classes i)) (seen : RoutinesAreSeen) where
    -- ---- the arcs of an edge

    module _ (i k : ℕ) (e : Edge) (leaves : Leaves f g drawn i k e) where
      abbrev here : Class
      here = class_at g.table.classes i

      plain_is : goes_on_after e.act ≡ true → ArcFits f g (local_arc (unfolding_of f g.table.classes) i i k e)
      plain_is goes_on = local_fits f g drawn i i k e leaves
          (record { class = leaves.stands.class; stands = f.edges_lead.inside k e leaves.known goes_on ∙ leaves.stands.stands })
          (record {
            no_return = plain_no_return e.act goes_on;
            no_call = plain_calls e.act goes_on;
            goto = λ r is. plain_no_goto e.act r (around (outline_of f) here r ≡ Some here) goes_on is;
            stays = λ _. refl;
          })

      goto_around : (r : ℕ) → e.act ≡ act.Goto r → IsSome (around (outline_of f) here r)
      goto_around r is =
          let valid_here = subst (λ (o : Outline). IsClass o here) drawn.outline (valid i leaves.stands.class) in
          seen f here r valid_here (goto_in_scope f k (routine_of (outline_of f) here) r e leaves.known leaves.stands.stands is)

      goto_is : (r : ℕ) → e.act ≡ act.Goto r → ArcFits f g (local_arc (unfolding_of f g.table.classes) i (number_of (unfolding_of f g.table.classes) (unwrap_or (around (outline_of f) here r) outermost)) k e)
      goto_is r is =
          let v = unfolding_of f g.table.classes in
          let found = some_around (around (outline_of f) here r) (goto_around r is) in
          let there = around_is_one v drawn.unfolded.whole i r found.0 leaves.stands.class found.1 in
          let number : number_of v (unwrap_or (around (outline_of f) here r) outermost) ≡ there.0 =
          ap (λ (o : Option Class). number_of v (unwrap_or o outermost)) found.1 ∙ number_is v drawn.unfolded.whole there.0 found.0 there.1 in
          let class : class_at g.table.classes there.0 ≡ found.0 = class_is g.table.classes there.0 found.0 there.1 in
          let routine : routine_of (outline_of f) (class_at g.table.classes there.0) ≡ r =
          ap (λ (x : Class). routine_of (outline_of f) x) class ∙ around_routine (outline_of f) here found.0 r found.1 in
          subst (λ (j : ℕ). ArcFits f g (local_arc v i j k e)) (sym number)
          (local_fits f g drawn i there.0 k e leaves
          (record { class = slice_get_within g.table.classes there.0 found.0 there.1; stands = f.edges_lead.outside k r e leaves.known is ∙ ap (λ (n : ℕ). Some n) (sym routine) })
          (record {
            no_return = ap is_return is;
            no_call = ap callee_of is;
            goto = λ s also. let same : act.Goto s ≡ act.Goto r = sym also ∙ is in let same_routine : s ≡ r = grind (arith, same) in
                ap (λ (n : ℕ). around (outline_of f) here n) same_routine ∙ found.1 ∙ ap (λ (c : Class). Some c) (sym class);
            stays = λ goes_on. plain_no_goto e.act r (there.0 ≡ i) goes_on is;
          }))

      module _ (r : ℕ) (calls : callee_of e.act ≡ Some r) where
        is_one : is_call f.edges k ≡ true
        is_one = a_call f.edges k r e leaves.known calls

        call_is : ArcFits f g (call_arc f g drawn i k e)
        call_is = call_fits f g drawn i k e leaves is_one

        return_is : (back : Edge) → slice_get f.edges (suc k) ≡ Some back → ArcFits f g (return_arc (unfolding_of f g.table.classes) i k e back)
        return_is back known =
            let c = called f g drawn i k e leaves is_one in
            let returns = return_of k back.act (holds_at k back (slice_get f.edges (suc k)) known (f.calls_return.return k r e leaves.known calls)) in
            return_fits f g drawn i k e back leaves is_one (record { known = known; is = returns })
            (callee_stands f g drawn i k e leaves is_one back.from (f.calls_return.exited k c.routine e back leaves.known known c.calls))
            (record { class = leaves.stands.class; stands = f.calls_return.resumed k r e back leaves.known known calls ∙ leaves.stands.stands })

        return_arcs_fit : (behind : Option Edge) → slice_get f.edges (suc k) ≡ behind → (n : ℕ) (a : Arc) → slice_get (return_arcs (unfolding_of f g.table.classes) i k e behind) n ≡ Some a → ArcFits f g a
        return_arcs_fit None known n a h = absurd (grind arith)
        return_arcs_fit (Some back) known n a h = subst (ArcFits f g) (only_one _ a n h) (return_is back known)

        call_arcs_fit : (n : ℕ) (a : Arc) → slice_get (call_arc f g drawn i k e ∷ return_arcs (unfolding_of f g.table.classes) i k e (slice_get f.edges (suc k))) n ≡ Some a → ArcFits f g a
        call_arcs_fit zero a h = subst (ArcFits f g) (some_is _ a h) call_is
        call_arcs_fit (suc n) a h = return_arcs_fit (slice_get f.edges (suc k)) refl n a h

      by_action : (action : Act) → e.act ≡ action → (n : ℕ) (a : Arc) → slice_get (arcs_by (unfolding_of f g.table.classes) i k e action) n ≡ Some a → ArcFits f g a
      by_action (act.Return site) is n a h = absurd (grind arith)
      by_action (act.Call r actuals slot at) is n a h = call_arcs_fit r (ap callee_of is) n a h
      by_action (act.Goto r) is n a h = subst (ArcFits f g) (only_one _ a n h) (goto_is r is)
      by_action action is n a h = subst (ArcFits f g) (only_one _ a n h) (plain_is (ap goes_on_after is))

    -- ---- all arcs

    arc_of_edge : (x : Node) (k n : ℕ) (a : Arc) → StandsIn f g.table.classes x.class x.point → (e : Edge) → slice_get f.edges k ≡ Some e → e.from ≡ x.point
        → slice_get (arcs_of_edge (unfolding_of f g.table.classes) x.class k) n ≡ Some a → ArcFits f g a
    arc_of_edge x k n a fits e known from h =
        let leaves : Leaves f g drawn x.class k e = record { known = known; stands = subst (λ (p : ℕ). StandsIn f g.table.classes x.class p) (sym from) fits } in
        by_action x.class k e leaves e.act refl n a (subst (λ (o : Option Edge). slice_get (arcs_of_known (unfolding_of f g.table.classes) x.class k o) n ≡ Some a) known h)

    pub arc_fits : (n : ℕ) (a : Arc) → slice_get (arcs (unfolding_of f g.table.classes)) n ≡ Some a → ArcFits f g a
    arc_fits n a h =
        let v = unfolding_of f g.table.classes in
        let piece = in_piece (arcs_of_node v) (nodes_of v) n a h in
        let x = piece.one in
        let inner = in_piece (arcs_of_edge v x.class) (leaving f.edges x.point) piece.rank a piece.is in
        let edge = all_pass (λ (d : Edge). nat_eq d.from x.point) 0 f.edges inner.place inner.one inner.there in
        let same : edge.place ≡ inner.one = omega (arith, edge.number) in
        arc_of_edge x inner.one inner.rank a (node_stands_in f g.table.classes piece.place x piece.there) edge.one
        (subst (λ (k : ℕ). slice_get f.edges k ≡ Some edge.one) same edge.is) (grind (arith, nat_tests, edge.passes)) inner.is

    -- ---- by the nodes at which they are listed

    record IsListed (key : Arc → ℕ) (node : ℕ) (a : Arc) : Type 0 where
      pub at : key a ≡ node
      pub fits : ArcFits f g a

    listed_by : (key : Arc → ℕ) (lists : List (List Arc)) → lists ≡ map (λ n. filter (λ (a : Arc). nat_eq (key a) n) (arcs (unfolding_of f g.table.classes))) (range_with_len 0 (length (nodes_of (unfolding_of f g.table.classes))))
        → (node : ℕ) (listed : List Arc) (a : Arc) → slice_get lists node ≡ Some listed → Contains listed a → IsListed key node a
    listed_by key lists is node listed a at among =
        let v = unfolding_of f g.table.classes in
        let here = listed_at (λ n. filter (λ (b : Arc). nat_eq (key b) n) (arcs v)) (length (nodes_of v)) node lists listed is at in
        let place = member_at listed a among in
        let found = passing (λ (b : Arc). nat_eq (key b) node) (arcs v) place.number a (subst (λ (xs : List Arc). slice_get xs place.number ≡ Some a) here place.is) in
        record { at = grind (arith, nat_tests, found.passes); fits = arc_fits found.place a found.there }

    lists_long : (at : ℕ → List Arc) (lists : List (List Arc)) → lists ≡ map at (range_with_len 0 (length (nodes_of (unfolding_of f g.table.classes)))) → length lists ≡ length g.nodes
    lists_long at lists is =
        ap (λ (xs : List (List Arc)). length xs) is ∙ length-map-range_with_len at 0 (length (nodes_of (unfolding_of f g.table.classes)))
        ∙ ap (λ (xs : List Node). length xs) (sym drawn.unfolded.nodes)

    node_fits : (n : ℕ) → n < length g.nodes → NodeFits f g n
    node_fits n inside =
        let none : Node = record { class = 0; point = 0 } in
        let at = slice_get-get_or g.nodes n none inside in
        let there = subst (λ (xs : List Node). slice_get xs n ≡ Some (get_or g.nodes n none)) drawn.unfolded.nodes at in
        let x = get_or g.nodes n none in
        let node = at_node_by f g drawn n x there in
        let fits = node_stands_in f g.table.classes n x there in
        let point = point_by f x.point (routine_of (outline_of f) (class_at g.table.classes x.class)) (slice_get f.points x.point) refl fits.stands in
        record {
          class = subst (λ (i : ℕ). i < length g.table.classes) (sym node.class) fits.class;
          point = subst (λ (p : ℕ). p < length f.points) (sym node.point) (slice_get_within f.points x.point point.one point.is);
          stands = ap (λ (p : ℕ). routine_at f.points p) node.point ∙ fits.stands
              ∙ ap (λ (i : ℕ). Some (routine_of (outline_of f) (class_at g.table.classes i))) (sym node.class)
              ∙ ap (λ (o : Outline). Some (routine_of o (class_of_node g n))) (sym drawn.outline);
        }

    pub arcs_fit : ArcsFit f g
    arcs_fit = record {
      nodes = node_fits;
      incoming = lists_long (arcs_into (arcs (unfolding_of f g.table.classes))) g.incoming drawn.unfolded.incoming;
      outgoing = lists_long (arcs_from (arcs (unfolding_of f g.table.classes))) g.outgoing drawn.unfolded.outgoing;
      into = λ node listed a at among. (listed_by (λ b. b.to) g.incoming drawn.unfolded.incoming node listed a at among).at;
      out_of = λ node listed a at among. (listed_by left_by g.outgoing drawn.unfolded.outgoing node listed a at among).at;
      arriving = λ node listed a at among. (listed_by (λ b. b.to) g.incoming drawn.unfolded.incoming node listed a at among).fits;
      leaving = λ node listed a at among. (listed_by left_by g.outgoing drawn.unfolded.outgoing node listed a at among).fits;
    }
