use Rattle.std.proofs.Common.{◌≡◌, ◌<◌, length, map, drop, true}
use Rattle.pas_program.specs.Checked.{tables}
use Rattle.pas_program.specs.Typed.{hosted, subscripted}
use Rattle.control_points.specs.Storage.{Place}
use Rattle.interp.specs.Deeds.{HasRoom}
use Rattle.interp.specs.Meant.{InState, view_in}
use Rattle.interp.specs.Places.{Lies}
use Rattle.interp.proofs.ValuingParts.{IsLed}
use Rattle.interp.proofs.machine.Machine.+evaluate.Given as goal

-- There is room for what is reached, and the subscripts left lead from its type to the whole's. The part of a variable at q that
-- the others lead to lies there.
abbrev pub invariant-element-loop-subscript : goal.invariant-element-loop-subscript
invariant-element-loop-subscript l =
    let p = l.self.flow.now.program in
    record {
      in_range : l.of_type < length p.types;
      room : HasRoom p l.self.frames.items l.of_type l.address;
      fits : (subscripted (tables p) l.of_type (map (hosted (tables p)) (drop l.subscript-index l.subscripts))).fits ≡ true;
      leads : (subscripted (tables p) l.of_type (map (hosted (tables p)) (drop l.subscript-index l.subscripts))).of_type ≡ (subscripted (tables p) l.fn.of_type (map (hosted (tables p)) l.subscripts)).of_type;
      led : InState l.self (λ s. (q : Place) → Lies p l.self.frames.items q l.fn.address l.fn.of_type → IsLed p l.self.frames.items (view_in l.self s) q l.fn.of_type l.subscripts (drop l.subscript-index l.subscripts) l.address l.of_type);
    }
