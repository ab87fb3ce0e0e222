use Rattle.std.proofs.Common.{◌≡◌, drop}
use Rattle.indexmap.specs.IndexMap.{keys}
use Rattle.pas_check.specs.Sight.{sight}
use Rattle.pas_check.specs.StatementForms.{constants_form}
use Rattle.pas_check.specs.Statements.{case_constants}
use Rattle.pas_check.specs.Written.{written}
use Rattle.pas_check.proofs.Calls.{constants_after}
use Rattle.pas_check.proofs.seen.Seen.case_constants.Given as goal

abbrev pub invariant-loop-constant : goal.invariant-loop-constant
invariant-loop-constant l = record {
  rest : case_constants (sight l.self) l.boolean (keys l.fn.before) l.constants ≡ case_constants (sight l.self) l.boolean (keys l.before) (drop l.constant-index l.constants);
  writes : written l.made ≡ written l.fn.made;
  form : constants_form (sight l.self) l.constants ≡ constants_after l.values (constants_form (sight l.self) (drop l.constant-index l.constants));
  kept : l.made.built ≡ l.fn.made.built;
}
