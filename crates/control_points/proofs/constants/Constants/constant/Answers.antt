use Rattle.std.proofs.Common.{◌≡◌, ◌≤◌, ◌<◌, length, sym, ap, ◌∙◌, w32, of_z, to_z, leb-true, leb-false}
use Rattle.std.proofs.lemmas.Int.{to_z-of_z}
use Rattle.control_points.specs.Thresholds.{among, most_constants}
use Rattle.control_points.proofs.FirstDifferent.{found_fresh, found_full, found_present}
use Rattle.control_points.proofs.Walked.{added_first, ok_added}
use Rattle.control_points.proofs.constants.Constants.constant.Goals as goal
use Rattle.control_points.proofs.constants.Constants.constant.Goals.{then-is_full-via-then-is_full, then-is_full-via-else-is_full+then-has}

pub returns-then-is_full : goal.returns-then-is_full
returns-then-is_full c =
    let v = c.args.self.now.values in
    let own = c.args.self.now.first in
    elim c.then-is_full.branch [
      | then-is_full-via-then-is_full w ↦ let full : most_constants ≤ length v = leb-true most_constants (length v) (sym c.is_full.ensures ∙ w.if-is_full.true) in found_full v _ own full
      | then-is_full-via-else-is_full+then-has w ↦
          let z : to_z w32 (of_z w32 c.args.z) ≡ c.args.z = to_z-of_z w32 c.args.z c.ranges.z in
          found_present v c.args.z own (ap (λ y. among y v) (sym z) ∙ sym w.has.ensures ∙ w.if-has.true)
    ]

pub returns : goal.returns
returns c =
    let v = c.args.self.now.values in
    let own = c.args.self.now.first in
    let z : to_z w32 (of_z w32 c.args.z) ≡ c.args.z = to_z-of_z w32 c.args.z c.ranges.z in
    let room : length v < most_constants = leb-false most_constants (length v) (sym c.is_full.ensures ∙ c.if-is_full.false) in
    let absent = ap (λ y. among y v) (sym z) ∙ sym c.has.ensures ∙ c.if-has.false in
    ok_added c.push.result v _ _ c.args.z z (found_fresh v c.args.z own absent room) c.push.ensures.ok

pub invariant_of-self : goal.invariant_of-self
invariant_of-self c =
    let v = c.args.self.now.values in
    let own = c.args.self.now.first in
    let z : to_z w32 (of_z w32 c.args.z) ≡ c.args.z = to_z-of_z w32 c.args.z c.ranges.z in
    let room : length v < most_constants = leb-false most_constants (length v) (sym c.is_full.ensures ∙ c.if-is_full.false) in
    let absent = ap (λ y. among y v) (sym z) ∙ sym c.has.ensures ∙ c.if-has.false in
    record { first = added_first c.push.result v _ _ c.args.z z own (sym (found_fresh v c.args.z own absent room)) c.push.ensures.ok c.push.ensures.err }
