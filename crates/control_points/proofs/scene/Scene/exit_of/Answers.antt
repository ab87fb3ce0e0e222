use Rattle.std.proofs.Common.{◌≡◌, suc, ◌+◌, get_or, ap, ◌∙◌, add-one, arith}
use Rattle.control_points.proofs.scene.Scene.exit_of.Goals as goal

pub overflow_sub-result : goal.overflow_sub-result
overflow_sub-result c =
    let scene = c.args.self.now in
    let entries = scene.numbering.now.entries in
    let r = c.args.routine in
    let block = scene.placed.blocks.block r c.requires in
    let read : get_or c.as_slice.result.now (r + 1) 0 ≡ get_or entries (suc r) 0 = ap (λ xs. get_or xs (r + 1) 0) c.as_slice.ensures ∙ ap (λ n. get_or entries n 0) (add-one r) in
    omega (arith, block.order, read)
