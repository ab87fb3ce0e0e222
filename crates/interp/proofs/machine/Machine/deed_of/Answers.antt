use Rattle.std.proofs.Common.{ℕ, [], ◌∷◌, ◌++◌, refl, ap, sym, ◌∙◌, subst, append-nil}
use Rattle.std.specs.Option.{unwrap_or}
use Rattle.std.proofs.lemmas.Bool.{and_parts}
use Rattle.pas_program.specs.Checked.{scope_in}
use Rattle.control_points.specs.Actions.{arm, goes_on, top_depth}
use Rattle.control_points.specs.Acts.{each_act}
use Rattle.control_points.specs.Flows.{chart_of}
use Rattle.control_points.specs.Input.{after_line}
use Rattle.control_points.specs.Output.{line_feed}
use Rattle.interp.specs.Machines.{AreItems, top_routine}
use Rattle.interp.specs.Meant.{IsDecided}
use Rattle.interp.proofs.Acting.{act_is, at_place, landed_same}
use Rattle.interp.proofs.Targets.{loop_visible, line_items_fit}
use Rattle.interp.proofs.machine.Machine.deed_of.Goals as goal

pub enter-requires-clause-bound_seen : goal.enter-requires-clause-bound_seen
enter-requires-clause-bound_seen c =
    let m = c.args.self.now in
    let f = sym (ap (each_act (scope_in m.flow.now.program (top_routine m.frames.items))) c.in-Enter.is) ∙ c.requires.scopes in
    loop_visible m.flow.now m.frames.items m.framed c.in-Enter.control c.in-Enter.bound (and_parts _ _ f).0

pub next_turn-requires-clause-bound_seen : goal.next_turn-requires-clause-bound_seen
next_turn-requires-clause-bound_seen c =
    let m = c.args.self.now in
    let f = sym (ap (each_act (scope_in m.flow.now.program (top_routine m.frames.items))) c.in-Next.is) ∙ c.requires.scopes in
    loop_visible m.flow.now m.frames.items m.framed c.in-Next.control c.in-Next.bound f

pub finish-requires-clause-bound_seen : goal.finish-requires-clause-bound_seen
finish-requires-clause-bound_seen c =
    let m = c.args.self.now in
    let f = sym (ap (each_act (scope_in m.flow.now.program (top_routine m.frames.items))) c.in-Finish.is) ∙ c.requires.scopes in
    loop_visible m.flow.now m.frames.items m.framed c.in-Finish.control c.in-Finish.bound f

pub lands-requires : goal.lands-requires
lands-requires c = subst AreItems (sym c.after_line.ensures) (line_items_fit c.args.self.now.items.now c.args.self.now.input)

pub returns-in-Skip-clause-exact : goal.returns-in-Skip-clause-exact
returns-in-Skip-clause-exact c = λ k s st. act_is c.args.self.now s k _ c.args.edge.now.act _ c.does.result c.in-Skip.is (c.does.ensures.exact k [] tt s st)

pub returns-in-Assign-clause-exact : goal.returns-in-Assign-clause-exact
returns-in-Assign-clause-exact c = λ k s st. act_is c.args.self.now s k _ c.args.edge.now.act _ c.assign.result c.in-Assign.is (c.assign.ensures.exact k s st)

pub returns-in-Goto-clause-exact : goal.returns-in-Goto-clause-exact
returns-in-Goto-clause-exact c = λ k s st.
    let m = c.args.self.now in
    let jumped = λ (n : ℕ). goes_on (chart_of m.flow.now) s n [] in
    act_is m s k _ c.args.edge.now.act _ c.goes_on.result c.in-Goto.is
    (subst (λ n. IsDecided m s k (jumped n) c.goes_on.result) (sym (ap (λ o. unwrap_or o (top_depth s.stack)) (c.depth_of.ensures.around s st))) (c.goes_on.ensures.exact k [] tt s st))

pub returns-in-DropLine-clause-exact : goal.returns-in-DropLine-clause-exact
returns-in-DropLine-clause-exact c = λ k s st.
    let m = c.args.self.now in
    act_is m s k _ c.args.edge.now.act _ c.lands.result c.in-DropLine.is
    (landed_same m s k c.after_line.result.now (after_line s.items) (s.output ++ []) s.output c.lands.result (c.after_line.ensures ∙ ap after_line (sym st.items)) (append-nil s.output) (c.lands.ensures.exact k s st))

pub returns-in-EndLine-clause-exact : goal.returns-in-EndLine-clause-exact
returns-in-EndLine-clause-exact c = λ k s st.
    let m = c.args.self.now in
    let r = c.lands-in-EndLine.result in
    let written = s.output ++ line_feed ∷ [] in
    act_is m s k _ c.args.edge.now.act _ r c.in-EndLine.is (landed_same m s k m.items.now s.items written written r (sym st.items) refl (c.lands-in-EndLine.ensures.exact k s st))

pub returns-in-Next-clause-exact : goal.returns-in-Next-clause-exact
returns-in-Next-clause-exact c = λ k s st.
    let m = c.args.self.now in
    at_place m s k c.args.edge.now.act _ _ c.next_turn.result c.place_of_point-in-Next.ensures (act_is m s k c.place_of_point-in-Next.result c.args.edge.now.act _ c.next_turn.result c.in-Next.is (c.next_turn.ensures.exact k s st))

pub returns-in-Return-clause-exact : goal.returns-in-Return-clause-exact
returns-in-Return-clause-exact c = λ k s st.
    let m = c.args.self.now in
    at_place m s k c.args.edge.now.act _ _ c.return_from.result c.place_of_point.ensures (act_is m s k c.place_of_point.result c.args.edge.now.act _ c.return_from.result c.in-Return.is (c.return_from.ensures.exact k s st))

pub returns-in-Copy-clause-exact : goal.returns-in-Copy-clause-exact
returns-in-Copy-clause-exact c = λ k s st. act_is c.args.self.now s k _ c.args.edge.now.act _ c.copy.result c.in-Copy.is (c.copy.ensures.exact k s st)

pub returns-in-Test-clause-exact : goal.returns-in-Test-clause-exact
returns-in-Test-clause-exact c = λ k s st. act_is c.args.self.now s k _ c.args.edge.now.act _ c.test.result c.in-Test.is (c.test.ensures.exact k s st)

pub returns-in-Arm-clause-exact : goal.returns-in-Arm-clause-exact
returns-in-Arm-clause-exact c = λ k s st.
    let m = c.args.self.now in
    act_is m s k _ c.args.edge.now.act _ c.arm.result c.in-Arm.is (subst (λ xs. IsDecided m s k (arm (chart_of m.flow.now) s c.in-Arm.of xs) c.arm.result) c.as_slice-in-Arm.ensures (c.arm.ensures.exact k s st))

pub returns-in-Enter-clause-exact : goal.returns-in-Enter-clause-exact
returns-in-Enter-clause-exact c = λ k s st. act_is c.args.self.now s k _ c.args.edge.now.act _ c.enter.result c.in-Enter.is (c.enter.ensures.exact k s st)

pub returns-in-Bypass-clause-exact : goal.returns-in-Bypass-clause-exact
returns-in-Bypass-clause-exact c = λ k s st. act_is c.args.self.now s k _ c.args.edge.now.act _ c.bypass.result c.in-Bypass.is (c.bypass.ensures.exact k s st)

pub returns-in-Read-clause-exact : goal.returns-in-Read-clause-exact
returns-in-Read-clause-exact c = λ k s st. act_is c.args.self.now s k _ c.args.edge.now.act _ c.read.result c.in-Read.is (c.read.ensures.exact k s st)

pub returns-in-Write-clause-exact : goal.returns-in-Write-clause-exact
returns-in-Write-clause-exact c = λ k s st. act_is c.args.self.now s k _ c.args.edge.now.act _ c.write.result c.in-Write.is (c.write.ensures.exact k s st)

pub returns-in-Finish-clause-exact : goal.returns-in-Finish-clause-exact
returns-in-Finish-clause-exact c = λ k s st.
    let m = c.args.self.now in
    at_place m s k c.args.edge.now.act _ _ c.finish.result c.place_of_point-in-Finish.ensures (act_is m s k c.place_of_point-in-Finish.result c.args.edge.now.act _ c.finish.result c.in-Finish.is (c.finish.ensures.exact k s st))
