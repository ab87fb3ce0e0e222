use Rattle.std.proofs.Common.{◌≡◌, [], map, drop}
use Rattle.indexmap.specs.IndexMap.{keys}
use Rattle.pas_check.specs.Sight.{sight}
use Rattle.pas_check.specs.StatementForms.{arm_form, arms_form, sequence_form}
use Rattle.pas_check.specs.Statements.{arms_in_turn, in_turn, stated, stated_arm}
use Rattle.pas_check.specs.Writes.{arm_writes, in_turn_writes, statement_writes}
use Rattle.pas_check.specs.Written.{written}
use Rattle.pas_check.proofs.InOrder.{after}
use Rattle.pas_check.proofs.checker.Checker.+statement.Given as goal

abbrev pub invariant-sequence-loop-statement : goal.invariant-sequence-loop-statement
invariant-sequence-loop-statement l = record {
  kept : sight l.self.seen ≡ sight l.fn.self.seen;
  rest : in_turn (map stated l.body) (sight l.fn.self.seen) ≡ in_turn (map stated (drop l.statement-index l.body)) (sight l.fn.self.seen);
  writes : in_turn_writes (map statement_writes l.body) (sight l.fn.self.seen) (written l.fn.self.made) ≡ in_turn_writes (map statement_writes (drop l.statement-index l.body)) (sight l.fn.self.seen) (written l.self.made);
  form : sequence_form (sight l.fn.self.seen) l.body l.fn.self.made.built ≡ after l.list (sequence_form (sight l.fn.self.seen) (drop l.statement-index l.body) l.self.made.built);
}

abbrev pub invariant-arms-loop-arm : goal.invariant-arms-loop-arm
invariant-arms-loop-arm l = record {
  kept : sight l.self.seen ≡ sight l.fn.self.seen;
  rest : arms_in_turn (sight l.fn.self.seen) l.boolean [] (map stated_arm l.arms) ≡ arms_in_turn (sight l.fn.self.seen) l.boolean (keys l.before) (map stated_arm (drop l.arm-index l.arms));
  writes : in_turn_writes (map arm_writes l.arms) (sight l.fn.self.seen) (written l.fn.self.made) ≡ in_turn_writes (map arm_writes (drop l.arm-index l.arms)) (sight l.fn.self.seen) (written l.self.made);
  form : arms_form (map arm_form l.arms) (sight l.fn.self.seen) l.fn.self.made.built ≡ after l.list (arms_form (map arm_form (drop l.arm-index l.arms)) (sight l.fn.self.seen) l.self.made.built);
}
