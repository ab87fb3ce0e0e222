use Rattle.std.proofs.Common.{◌≡◌, true, get_or}
use Rattle.std.proofs.lemmas.Option.{slice_get-get_or}
use Rattle.pas_valid.specs.Whole.{entry_fits}
use Rattle.pas_valid.proofs.Lists.{each_got, each_last}
use Rattle.pas_valid.proofs.parts.Parts.entries.Goals as goal

pub loop-k-preserved : goal.loop-k-preserved
loop-k-preserved c =
    let p = c.args.self.now in
    each_got (λ j v. entry_fits p.vars.now p.ranks.now c.args.r c.args.d.now j v ≡ true) c.args.list.now c.loop-k.k (get_or c.args.list.now c.loop-k.k 0) (slice_get-get_or c.args.list.now c.loop-k.k 0 c.loop-k-test.true) c.in_ok-entry.ensures c.loop-k.invariant

pub returns : goal.returns
returns c =
    let p = c.args.self.now in
    each_last (λ j v. entry_fits p.vars.now p.ranks.now c.args.r c.args.d.now j v ≡ true) c.args.list.now c.loop-k.k c.loop-k-test.false c.loop-k.invariant
