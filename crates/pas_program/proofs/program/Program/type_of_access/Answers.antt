use Rattle.std.proofs.Common.{◌<◌, ◌≤◌, length, subst}
use Rattle.std.proofs.lemmas.Option.{slice_get_within}
use Rattle.pas_program.specs.Checked.{tables}
use Rattle.pas_program.specs.Typed.{reached}
use Rattle.pas_program.specs.declared.expr.Actual.TheViews.{out-Access}
use Rattle.pas_program.proofs.Layouts.{array_below}
use Rattle.pas_program.proofs.Subscripts.{access_var, leads_first, leads_next, leads_not_scalar, leads_last}
use Rattle.pas_program.proofs.program.Program.type_of_access.Goals as goal

pub var_def-t-requires : goal.var_def-t-requires
var_def-t-requires c =
    let v = access_var (tables c.args.self.now) c.args.access.now c.requires in
    slice_get_within c.args.self.now.vars _ v.0 v.1

pub loop-subscript-init : goal.loop-subscript-init
loop-subscript-init c = (c.var_def-t.ensures.type_in_range, leads_first (tables c.args.self.now) c.args.access.now c.var_def-t.result c.requires c.var_def-t.ensures.value)

pub type_def-requires : goal.type_def-requires
type_def-requires c = c.loop-subscript.invariant.0

pub unreachable-requires : goal.unreachable-requires
unreachable-requires c =
    leads_not_scalar (tables c.args.self.now) (reached (tables c.args.self.now) c.args.access.now) c.loop-subscript.t c.in-Scalar.boolean c.in-Scalar.lo c.in-Scalar.hi c.loop-subscript._subscript-index (out-Access c.args.access.now).subscripts
    (subst (λ xs. c.loop-subscript._subscript-index < length xs) c.as_slice-subscript-items.ensures c.loop-subscript-test.true) c.in-Scalar.ensures.value c.loop-subscript.invariant.1

pub loop-subscript-preserved : goal.loop-subscript-preserved
loop-subscript-preserved c = (
  (array_below c.args.self.now.types c.loop-subscript.t c.in-Array.index c.in-Array.element c.args.self.now.types_fit c.in-Array.ensures.value).in_range,
  leads_next (tables c.args.self.now) (reached (tables c.args.self.now) c.args.access.now) c.loop-subscript.t c.in-Array.index c.in-Array.element c.loop-subscript._subscript-index (out-Access c.args.access.now).subscripts
      (subst (λ xs. c.loop-subscript._subscript-index < length xs) c.as_slice-subscript-items.ensures c.loop-subscript-test.true) c.in-Array.ensures.value c.loop-subscript.invariant.1,
)

pub returns-clause-value : goal.returns-clause-value
returns-clause-value c =
    leads_last (tables c.args.self.now) (reached (tables c.args.self.now) c.args.access.now) c.loop-subscript.t c.loop-subscript._subscript-index (out-Access c.args.access.now).subscripts
    (subst (λ xs. length xs ≤ c.loop-subscript._subscript-index) c.as_slice-subscript-items.ensures c.loop-subscript-test.false) c.loop-subscript.invariant.1

pub returns-clause-in_range : goal.returns-clause-in_range
returns-clause-in_range c = c.loop-subscript.invariant.0
