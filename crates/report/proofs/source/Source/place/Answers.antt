use Rattle.std.proofs.Common.{◌≡◌, ◌<◌, ◌+◌, List, ℕ, get_or, length, min, ap, ◌∙◌, arith}
use Rattle.std.proofs.lemmas.Grind.{common_steps}
use Rattle.std.proofs.lemmas.List.{take_min}
use Rattle.std.proofs.lemmas.List.FromFn.{get_or-map-range_with_len, length-map-range_with_len}
use Rattle.px_base.specs.Place.{place_after, place_at}
use Rattle.px_base.specs.declared.place.Pos.{Pos}
use Rattle.report.specs.Report.{byte_places}
use Rattle.report.proofs.source.Source.place.Goals as goal

least_below : (at most : ℕ) → min at most < 1 + most
least_below at most = grind (arith, common_steps)

pub bounds-self-min : goal.bounds-self-min
bounds-self-min c =
    let text = c.args.self.now.text.now in
    let long : length c.args.self.now.places.now ≡ 1 + length text =
    ap (λ (ps : List Pos). length ps) c.args.self.now.placed ∙ length-map-range_with_len (place_at text) 0 (1 + length text) in
    rw (c.min.ensures, long) (least_below c.args.at (length text))

pub returns : goal.returns
returns c =
    let text = c.args.self.now.text.now in
    let none : Pos = record { line = 0; col = 0 } in
    let m = min c.args.at (length text) in
    ap (λ (ps : List Pos). get_or ps c.min.result none) c.args.self.now.placed
    ∙ ap (λ (k : ℕ). get_or (byte_places text) k none) c.min.ensures
    ∙ get_or-map-range_with_len (place_at text) 0 (1 + length text) m m none (least_below c.args.at (length text)) (omega arith)
    ∙ ap place_after (take_min c.args.at text)
