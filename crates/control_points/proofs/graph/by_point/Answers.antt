use Rattle.std.proofs.Common.{◌≡◌, ◌<◌, ◌++◌, ◌∷◌, [], length, take, ap, ◌∙◌, arith}
use Rattle.std.proofs.lemmas.List.{length-set}
use Rattle.std.specs.List.{slice_set}
use Rattle.control_points.specs.Listing.{at_end, end_of}
use Rattle.control_points.proofs.Loops.{item_at}
use Rattle.control_points.proofs.Pointed.{listed_step}
use Rattle.control_points.proofs.graph.by_point.Goals as goal

pub loop-k-preserved : goal.loop-k-preserved
loop-k-preserved c =
    let k = c.loop-k.k in
    let e = c.index-edges-k.result in
    let edges = c.args.edges.now in
    let end = c.args.end in
    let lists = c.loop-k.lists.items in
    let within : k < length edges = omega arith in
    let low : end_of end e < c.args.points = c.requires.within k e (item_at edges k e within c.index-edges-k.is) in
    let added = rw c.end_of-at.ensures at c.in_ok-add.ensures in
    let made : c.add.new.lists.items ≡ slice_set lists (end_of end e) (at_end end (take k edges) (end_of end e) ++ k ∷ []) = added (at_end end (take k edges) (end_of end e)) (c.loop-k.invariant.each (end_of end e) low) in
    record {
      many = ap length made ∙ length-set lists (end_of end e) _ ∙ c.loop-k.invariant.many;
      each = listed_step end edges k e within c.index-edges-k.is lists c.add.new.lists.items c.args.points c.loop-k.invariant.many low c.loop-k.invariant.each made;
    }
