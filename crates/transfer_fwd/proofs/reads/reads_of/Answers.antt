use Rattle.std.proofs.Common.{◌∙◌, ap}
use Rattle.std.proofs.lemmas.List.Filters.{dedup_is}
use Rattle.std.proofs.lemmas.List.Kept.{Contains-dedup_nat, Contains-from_dedup}
use Rattle.std.proofs.lemmas.List.Sorted.{Contains-permutation, IsPermutation-sym}
use Rattle.std.proofs.lemmas.Map.Keys.{IsStrictlyIncreasing-dedup}
use Rattle.transfer_fwd.specs.Reads.{is_in}
use Rattle.transfer_fwd.proofs.ReadArcs.{same_members}
use Rattle.transfer_fwd.proofs.reads.reads_of.Goals as goal

pub returns-clause-rising : goal.returns-clause-rising
returns-clause-rising c =
    let is = dedup_is _ _ _ c.dedup.ensures.filtered in
    rw is (IsStrictlyIncreasing-dedup _ c.sort_unstable.ensures.sorted)

pub returns-clause-members : goal.returns-clause-members
returns-clause-members c = λ read.
    let is = dedup_is _ _ _ c.dedup.ensures.filtered in
    let moved = c.sort_unstable.ensures.permutation in
    same_members _ _ read
    (λ h. Contains-permutation _ _ read (IsPermutation-sym _ _ moved) (Contains-from_dedup _ _ read (rw is at h)))
    (λ h. rw is (Contains-dedup_nat _ read (Contains-permutation _ _ read moved h)))
    ∙ ap (λ xs. is_in xs read) c.in_ok-reads.ensures
