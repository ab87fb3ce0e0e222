-- The calls in the action that leaves the point before a statement, and a call as the walks hold it.
use Rattle.std.specs.Prelude.{List, [], ◌++◌, map}
use Rattle.pas_program.specs.declared.statement.Body.{Body}
use Rattle.pas_program.specs.declared.statement.Body.TheOpen.{Body-F}
use Rattle.pas_program.specs.declared.statement.Body.TheFolds.{fold-Body}
use Rattle.control_points.specs.declared.calls.CallSite as walk
use Rattle.control_points.specs.Calls.{CallSite, Sites, expr_calls, access_calls, actuals_calls}

abbrev pub site_of : walk.CallSite → CallSite
site_of c = record { routine = c.routine; actuals = c.actuals.now; slot = c.slot; at = c.at }

abbrev pub sites_of : List walk.CallSite → Sites
sites_of sites = map site_of sites

-- those of the action, and none of the statements inside; each parameter of `read` and `write` is an action of its own
abbrev pub calls_of : {A B C : Type 0} → Body-F A B C → Sites
calls_of (Body-F.Assign target value) = access_calls target ++ expr_calls value
calls_of (Body-F.Copy target source) = access_calls target ++ access_calls source
calls_of (Body-F.Call routine actuals at) = actuals_calls actuals
calls_of (Body-F.If cond first second) = expr_calls cond
calls_of (Body-F.Case selector arms) = expr_calls selector
calls_of (Body-F.While cond body) = expr_calls cond
calls_of (Body-F.For control bound first down last body) = expr_calls first ++ expr_calls last
calls_of _ = []

abbrev pub own_calls : Body → Sites
own_calls = fold-Body Sites (Unit {0}) (Unit {0}) calls_of (λ a. tt) (λ s. tt)
