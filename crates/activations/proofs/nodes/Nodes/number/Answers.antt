use Rattle.std.proofs.Common.{◌≡◌, ℕ, ◌+◌, Some, slice_get, sym, subst, ◌∙◌, arith}
use Rattle.std.proofs.lemmas.Option.{slice_get_within, get_or_from_slice_get}
use Rattle.activations.proofs.FoundNodes.{member_at}
use Rattle.activations.proofs.nodes.Nodes.number.Goals as goal

pub index-requires : goal.index-requires
index-requires c =
    let found = member_at c.args.self.now.list.items (record { class = c.args.class; point = c.args.point }) c.requires.known in
    let number = c.requires.numbered.numbered found.number c.args.class c.args.point found.is in
    let within = slice_get_within c.args.self.now.firsts.items c.args.class number.first number.begins in
    omega (arith, within, c.args.self.now.firsts.ok.0)

pub index-requires-2 : goal.index-requires-2
index-requires-2 c =
    let found = member_at c.args.self.now.list.items (record { class = c.args.class; point = c.args.point }) c.requires.known in
    let number = c.requires.numbered.numbered found.number c.args.class c.args.point found.is in
    let within = slice_get_within c.args.self.now.ranks.items c.args.point number.rank number.ranked in
    omega (arith, within, c.args.self.now.ranks.ok.0)

sum_is : (c : goal.After-row_known-2-1) → (n : ℕ) × (c.index.result.now + c.index-2.result.now ≡ n) × (slice_get c.args.self.now.list.items n ≡ Some (record { class = c.args.class; point = c.args.point }))
sum_is c =
    let found = member_at c.args.self.now.list.items (record { class = c.args.class; point = c.args.point }) c.requires.known in
    let number = c.requires.numbered.numbered found.number c.args.class c.args.point found.is in
    let first = get_or_from_slice_get c.args.self.now.firsts.items c.args.class number.first c.index.result.now number.begins in
    let rank = get_or_from_slice_get c.args.self.now.ranks.items c.args.point number.rank c.index-2.result.now number.ranked in
    (found.number, omega (arith, number.number, c.index.ensures ∙ first, c.index-2.ensures ∙ rank), found.is)

pub overflow_add-result : goal.overflow_add-result
overflow_add-result c =
    let number = sum_is c in
    let within = slice_get_within c.args.self.now.list.items number.0 (record { class = c.args.class; point = c.args.point }) number.2 in
    omega (arith, number.1, within, c.requires.numbered.few)

pub returns : goal.returns
returns c = let number = sum_is c in subst (λ (n : ℕ). slice_get c.args.self.now.list.items n ≡ Some (record { class = c.args.class; point = c.args.point })) (sym number.1) number.2
