use Rattle.std.proofs.Common.{◌<◌, ℕ, length, sym, subst, get_or, arith}
use Rattle.std.proofs.lemmas.List.Elements.{Contains-get_or}
use Rattle.alternation.proofs.dependences.add_reads.Goals as goal

pub add-requires-clause-from : goal.add-requires-clause-from
add-requires-clause-from c =
    let i = c.loop-read.read-index in
    let inside : i < length c.args.reads.now = omega (arith, c.loop-read-test.true) in
    subst (λ (n : ℕ). get_or c.args.reads.now i 0 < n) (sym c.loop-read.invariant.0)
    (c.requires.reads (get_or c.args.reads.now i 0) (Contains-get_or c.args.reads.now i 0 inside))
