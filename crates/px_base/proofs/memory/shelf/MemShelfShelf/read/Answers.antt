use Rattle.std.proofs.Common.{◌≡◌, length, drop, min, arith}
use Rattle.std.proofs.lemmas.Grind.{common_steps}
use Rattle.px_base.proofs.Files.{rest_of_read}
use Rattle.px_base.proofs.memory.shelf.MemShelfShelf.read.Goals as goal

pub returns-clause-after : goal.returns-clause-after
returns-clause-after c =
    let inside = c.self.inside in
    let file = c.index.result.now in
    let n = c.copy_start-count.result in
    let size = length c.args.buf.now in
    let in_range = c.self.invariant c.in-Some.file c.in-Some.is in
    let count : n ≡ min size (length (drop inside.at file.1.items)) = grind (arith, common_steps) in
    let left = rest_of_read inside.files.items inside.picked c.in-Some.file inside.at n size file c.in-Some.is in_range.0 c.index.ensures count in
    let ok = c.in_ok-begin.ensures.failing in
    grind (arith, common_steps)
