use Rattle.std.proofs.Common.{◌≡◌, ℕ, List, ◌∷◌, [], ◌++◌, map, nat_eq, ap, sym, subst, ◌∙◌, arith}
use Rattle.std.specs.List.{All, IsDistinct, range_with_len}
use Rattle.std.specs.List.Sorted.{IsPermutation}
use Rattle.alias_class.specs.declared.bind.Link.{Link}
use Rattle.alias_class.specs.Passings.{IsForeign, shared_link, sharing_of}
use Rattle.alias_class.proofs.Linking.{all_links, foreign_each, inherited_link, inherited_push}
use Rattle.alias_class.proofs.passing.Passing.links.Goals as goal

pub loop-cell-preserved : goal.loop-cell-preserved
loop-cell-preserved c =
    c.in_ok-push.ensures.items
    ∙ ap (λ (xs : List Link). xs ++ record { caller = c.loop-cell.cell; callee = c.loop-cell.cell } ∷ []) c.loop-cell.invariant
    ∙ sym (inherited_push c.loop-cell.cell)

pub add_foreign_links-requires-clause-foreign : goal.add_foreign_links-requires-clause-foreign
add_foreign_links-requires-clause-foreign c =
    subst (All (IsForeign c.args.self.now)) (sym c.deref.ensures.value)
    (foreign_each c.args.self.now c.in_ok-foreign.foreign.items c.sort_unstable.new.self.items (c.in_ok-foreign.ensures.items ∙ c.as_slice.ensures.keys) c.sort_unstable.ensures.permutation c.requires.behind)

pub returns : goal.returns
returns c = record {
  links = λ count cells.
      let p = c.args.self.now in
      let sorted = c.sort_unstable.new.self.items in
      let same : c.in_ok-foreign.foreign.items ≡ p.foreign.keys = c.in_ok-foreign.ensures.items ∙ c.as_slice.ensures.keys in
      let apart : IsDistinct nat_eq p.foreign.keys = c.as_slice.ensures.unique in
      let moved : IsPermutation p.foreign.keys sorted = subst (λ (xs : List ℕ). IsPermutation xs sorted) same c.sort_unstable.ensures.permutation in
      let whole : c.loop-cell.cell ≡ p.inherited = omega arith in
      c.in_ok-add_foreign_links.ensures
      ∙ ap (λ (xs : List Link). xs ++ map (shared_link (sharing_of p)) c.deref.result.now) c.loop-cell.invariant
      ∙ ap (λ (n : ℕ). map inherited_link (range_with_len 0 n) ++ map (shared_link (sharing_of p)) c.deref.result.now) whole
      ∙ ap (λ (xs : List ℕ). map inherited_link (range_with_len 0 p.inherited) ++ map (shared_link (sharing_of p)) xs) c.deref.ensures.value
      ∙ all_links (sharing_of p) sorted count apart moved c.sort_unstable.ensures.sorted cells.inherited_few c.requires.behind cells.in_range;
}
