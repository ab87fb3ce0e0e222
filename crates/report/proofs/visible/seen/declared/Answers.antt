use Rattle.std.proofs.Common.{ℕ, List, get_or, map, take, sym, ap, subst, ◌∙◌}
use Rattle.std.proofs.lemmas.List.{take_all}
use Rattle.px_base.specs.declared.place.Span.{Span}
use Rattle.pas_check.specs.Names.{name_at}
use Rattle.report.specs.Visible.{HasNames}
use Rattle.report.proofs.DeclaredNames.{map_more, no_names, one_more_name}
use Rattle.report.proofs.visible.seen.declared.Goals as goal

pub loop-span-init : goal.loop-span-init
loop-span-init c = no_names c.new-names.result c.new-names.ensures.empty

pub loop-span-preserved : goal.loop-span-preserved
loop-span-preserved c =
    let text = c.args.text.now in
    let i = c.loop-span.span-index in
    let spans = c.deref-span-items.result.now in
    let span : Span = record { start = 0; end = 0 } in
    let name = name_at text (get_or spans i span) in
    let before = map (name_at text) (take i spans) in
    let Has : List (List ℕ) → Type 0 = λ names. HasNames c.insert.new.self names in
    subst Has (sym (map_more (name_at text) spans i span c.loop-span-test.true))
    (one_more_name c.loop-span.names c.insert.new.self c.in_ok-folded.field-0 name before c.in_ok-folded.ensures (λ k. c.in_ok-insert.ensures.updates.0 k) c.loop-span.invariant)

pub returns : goal.returns
returns c =
    let text = c.args.text.now in
    let Has : List (List ℕ) → Type 0 = λ names. HasNames c.loop-span.names names in
    let all = take_all c.loop-span.span-index c.deref-span-items.result.now c.loop-span-test.false ∙ c.deref-span-items.ensures.value in
    subst Has (ap (map (name_at text)) all ∙ c.in_ok-declarations.ensures text) c.loop-span.invariant
