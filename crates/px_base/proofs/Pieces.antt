-- One piece after another, written.
use Rattle.std.proofs.Common.{◌≡◌, ℕ, ◌+◌, ◌-◌, List, ◌++◌, length, take, drop, arith, append_assoc}
use Rattle.std.proofs.Math.Seq.{take-add}
use Rattle.std.proofs.lemmas.Grind.{common_steps}

-- n bytes more, of those behind the first `written`
pub written_more : (before bytes : List ℕ) (written n : ℕ) →
    (before ++ take written bytes) ++ take n (take (length bytes - written) (drop written bytes)) ≡ before ++ take (written + n) bytes
written_more before bytes written n =
    let whole : take (length bytes - written) (drop written bytes) ≡ drop written bytes = grind (arith, common_steps) in
    rw (whole, take-add written n bytes, append_assoc)
