use Rattle.std.proofs.Common.{arith, rules}
use Rattle.pas_valid.proofs.parts.Parts.valid.Goals as goal

pub returns-in-Some : goal.returns-in-Some
returns-in-Some c = record {
  some = omega (arith, c.if-self-eq0.false);
  range = search (rules, c.vars.ensures.range);
  known = search (rules, c.vars.ensures.ranks);
  routine = c.in_ok-routines.ensures.fit;
  assertion = c.in-Some.ensures.fit;
  bounded = search rules;
}
