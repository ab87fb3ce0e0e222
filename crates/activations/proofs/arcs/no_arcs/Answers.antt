use Rattle.std.proofs.Common.{Global, List, Vec, [], ◌∷◌, ◌++◌, sym, ap, ◌∙◌, arith}
use Rattle.std.proofs.lemmas.List.{map-append}
use Rattle.std.proofs.lemmas.List.FromFn.{map-range_with_len_more}
use Rattle.activations.specs.declared.arc.Arc.{Arc}
use Rattle.activations.specs.Arcs.{arcs_into}
use Rattle.activations.specs.Parts.{lists_of}
use Rattle.activations.proofs.arcs.no_arcs.Goals as goal

pub loop-preserved : goal.loop-preserved
loop-preserved c =
    let items = λ (v : Vec Arc Global). v.items in
    let n = c.loop.counter in
    ap (λ (vs : List (Vec Arc Global)). lists_of vs) c.in_ok-push.ensures.items
    ∙ map-append items c.loop.lists.items (c.new.result ∷ [])
    ∙ ap (λ (ls : List (List Arc)). ls ++ items c.new.result ∷ []) c.loop.invariant
    ∙ rw c.new.ensures.items (sym (map-range_with_len_more (arcs_into []) 0 n n (omega arith)))
