use Rattle.std.proofs.Common.{◌≡◌, ◌-◌, ap, ◌∙◌, sym, subst}
use Rattle.control_points.specs.Actions as meaning
use Rattle.control_points.specs.Flows.{chart_of}
use Rattle.interp.specs.Machines.{top_of}
use Rattle.interp.specs.Meant.{IsChangeOf, IsDecided}
use Rattle.interp.proofs.Deciding.{top_is_top}
use Rattle.interp.proofs.machine.Machine.does.Goals as goal

pub returns-clause-exact : goal.returns-clause-exact
returns-clause-exact c = λ k changes h s st.
    let m = c.args.self.now in
    let d : c.len.result - 1 ≡ top_of m.frames.items = ap (λ n. n - 1) (c.len.ensures ∙ m.frames.ok.0) in
    subst (λ d. IsDecided m s k (meaning.goes_on (chart_of m.flow.now) s d changes) c.goes_on.result) (d ∙ sym (top_is_top m s st))
    (c.goes_on.ensures.exact k changes (subst (λ d. IsChangeOf m.flow.now.program m.frames.items d changes c.args.change) (sym d) h) s st)
