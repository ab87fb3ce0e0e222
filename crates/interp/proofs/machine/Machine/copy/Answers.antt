use Rattle.std.proofs.Common.{[], ◌∷◌, ap, ◌∙◌, sym, subst, nat_eq}
use Rattle.std.proofs.lemmas.Bool.{and_parts, eqb-true}
use Rattle.pas_program.specs.declared.expr.Actual.TheViews.{out-Access}
use Rattle.pas_program.specs.Checked.{tables}
use Rattle.pas_program.specs.Typed.{reached}
use Rattle.control_points.specs.Actions.{copies}
use Rattle.control_points.specs.Evaluation.{spot}
use Rattle.interp.specs.Layouts.{count_of}
use Rattle.interp.specs.Meant.{view_in}
use Rattle.interp.specs.Places.{Lies}
use Rattle.interp.proofs.Deciding.{lies_below, then_spot}
use Rattle.interp.proofs.machine.Machine.copy.Goals as goal

pub returns-clause-exact : goal.returns-clause-exact
returns-clause-exact c = λ k s st.
    let m = c.args.self.now in
    let p = m.flow.now.program in
    let to = reached (tables p) c.args.to.now in
    let from = reached (tables p) c.args.from.now in
    let same = eqb-true to.of_type from.of_type (and_parts (nat_eq to.of_type from.of_type) _ (and_parts _ _ c.requires.fits).1).0 in
    let a = c.in_ok-target.target in
    let b = c.in_ok-source.source in
    then_spot m s k to.of_type (out-Access c.args.to.now).at a (spot (view_in m s) c.args.to.now) _ c.does.result (c.in_ok-target.ensures.exact s st) (λ q l at.
    then_spot m s k from.of_type (out-Access c.args.from.now).at b (spot (view_in m s) c.args.from.now) _ c.does.result (c.in_ok-source.ensures.exact s st) (λ r o at.
    c.does.ensures.exact k (copies q.place r.place ∷ []) (record {
      of_type = to.of_type;
      target_lies = l;
      source_lies = subst (Lies p m.frames.items r.place b) (sym same) o;
      count = c.count_of.ensures ∙ ap (count_of p) c.type_of_access-of_type.ensures.value;
      target_below = lies_below p m.frames.items q.place a to.of_type l;
      source_below = lies_below p m.frames.items r.place b from.of_type o;
    }) s st))
