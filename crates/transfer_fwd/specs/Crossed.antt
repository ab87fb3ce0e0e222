-- What a call of the code stands for.
use Rattle.std.specs.Prelude.{option_map}
use Rattle.std.specs.Option.{option_and_then}
use Rattle.abstract_expr.specs.Standing.{cells_in, scope_in}
use Rattle.abstract_expr.specs.Expressions.{Scope}
use Rattle.control_points.specs.Checking.{formals_of}
use Rattle.control_points.specs.Judgements.{result_of}
use Rattle.transfer_fwd.specs.declared.crossing.Crossing.{Crossing}
use Rattle.transfer_fwd.specs.Crossings as meaning

abbrev pub outside_of : Crossing → Scope
outside_of x = scope_in x.flow.now x.classes.now x.outside

abbrev pub inside_of : Crossing → Scope
inside_of x = scope_in x.flow.now x.classes.now x.inside

abbrev pub crossing_of : Crossing → meaning.Crossing
crossing_of x = record {
  outside = outside_of x;
  inside = inside_of x;
  cells = cells_in x.classes.now x.inside;
  links = x.links.now;
  actuals = x.actuals.now;
  formals = formals_of ((outside_of x).tables.head_at x.routine);
  result = option_and_then (λ s. option_map (λ r. record { slot = ((outside_of x).bind s).cell; result = ((inside_of x).bind r).cell })
      (result_of (outside_of x).tables x.routine)) x.slot;
}
