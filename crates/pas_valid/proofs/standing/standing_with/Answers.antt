use Rattle.pas_valid.proofs.Marks.{stands_once, stands_in_own}
use Rattle.pas_valid.proofs.standing.standing_with.Goals as goal

pub returns-then-all_marked-clause-once : goal.returns-then-all_marked-clause-once
returns-then-all_marked-clause-once c = stands_once c.args.routines.now c.args.asserts.now c.all_labels.new.marks c.if-all_marked.ensures c.in_ok-sets.ensures.once

pub returns-then-all_marked-clause-own : goal.returns-then-all_marked-clause-own
returns-then-all_marked-clause-own c = stands_in_own c.args.routines.now c.args.asserts.now c.all_labels.new.marks c.if-all_marked.ensures c.in_ok-sets.ensures.own
