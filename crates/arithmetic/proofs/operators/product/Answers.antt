use Rattle.std.proofs.Common.{rules, FitsSigned, w64, ◌*ℤ◌}
use Rattle.arithmetic.proofs.Products.{product_fits}
use Rattle.arithmetic.proofs.operators.product.Goals as goal

pub returns : goal.returns
returns c =
    let fits : FitsSigned w64 (c.args.x *ℤ c.args.y) = product_fits c.args.x c.args.y c.ranges.x c.ranges.y in
    search (rules, fits)
