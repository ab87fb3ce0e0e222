use Rattle.std.proofs.Common.{subst}
use Rattle.interval_back.specs.Roots.{root}
use Rattle.interval_back.proofs.Squares.{IsRoot, one_root, root_squares}
use Rattle.interval_back.proofs.roots.root.Goals as goal

pub returns-clause-value : goal.returns-clause-value
returns-clause-value c =
    let ends : IsRoot c.from-n.result c.with_digit.result = (c.with_digit.ensures.square, c.with_digit.ensures.next) in
    one_root c.args.n c.with_digit.result (root c.args.n) (subst (λ n. IsRoot n c.with_digit.result) c.from-n.ensures ends)
    (root_squares c.args.n)
