use Rattle.std.proofs.Common.{Global, List, Vec, [], ◌∷◌, ◌++◌, ℕ, sym, ap, ◌∙◌, arith}
use Rattle.std.proofs.lemmas.List.{map-append}
use Rattle.std.proofs.lemmas.List.FromFn.{map-range_with_len_more}
use Rattle.activations.specs.Parts.{lists_of}
use Rattle.report.specs.Nodes.{first_nodes_at}
use Rattle.report.proofs.nodes.listing.no_nodes.Goals as goal

pub loop-preserved : goal.loop-preserved
loop-preserved c =
    let items = λ (v : Vec ℕ Global). v.items in
    let n = c.loop.counter in
    ap (λ (vs : List (Vec ℕ Global)). lists_of vs) c.in_ok-push.ensures.items
    ∙ map-append items c.loop.lists.items (c.new.result ∷ [])
    ∙ ap (λ (ls : List (List ℕ)). ls ++ items c.new.result ∷ []) c.loop.invariant
    ∙ rw c.new.ensures.items (sym (map-range_with_len_more (first_nodes_at c.args.graph.now 0) 0 n n (omega arith)))
