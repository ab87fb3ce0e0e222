use Rattle.std.proofs.Common.{◌≡◌, [], ap, rules, ◌∙◌}
use Rattle.pas_check.specs.Block.{ends_inside}
use Rattle.pas_check.specs.Blocks.{all_ended, at_first, program_frame, required}
use Rattle.pas_check.specs.Built.{nothing_built}
use Rattle.pas_check.specs.Headings.{inside}
use Rattle.pas_check.specs.Labels.{Labelled, labelled}
use Rattle.pas_check.specs.Names.{Names}
use Rattle.pas_check.specs.Sight.{sight}
use Rattle.pas_check.specs.declared.seen.Made.{Made}
use Rattle.pas_check.proofs.checker.Checker.new.Goals as goal

pub returns-clause-first : goal.returns-clause-first
returns-clause-first c =
    let text = c.args.text.now in
    let tree = c.args.tree.now in
    let number = c.in_ok-number.number in
    let seen = sight c.in_ok-new.field-0 in
    let around = labelled c.in-Ok.outermost in
    let counted : number ≡ ends_inside tree.block = search rules in
    let seen_as : sight c.push_scope.new.self.seen ≡ at_first text (ends_inside tree.block) =
    c.in_ok-push_scope-in-Ok.ensures.inside ∙ ap (λ (names : Names). inside seen names around) c.in-Ok.ensures.names ∙ ap (λ (l : Labelled). inside seen (all_ended required []) l) c.in-Ok.ensures.labels ∙ c.in_ok-new.ensures.first number ∙ ap (at_first text) counted in
    let frame_as : c.new-frame.result ≡ program_frame tree = search rules in
    let built_as : c.push_scope.new.self.made.built ≡ nothing_built (program_frame tree) = ap (λ (m : Made). m.built) c.push_scope.ensures.kept ∙ c.new-3.ensures ∙ ap nothing_built frame_as in
    λ i. record { seen = seen_as i; built = built_as i }
