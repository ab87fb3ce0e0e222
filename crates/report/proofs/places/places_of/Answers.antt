use Rattle.std.proofs.Common.{◌≡◌, ◌+◌, ◌++◌, ◌∷◌, [], List, ℕ, length, map, take, sym, ap, ◌∙◌, arith}
use Rattle.std.specs.List.{range_with_len}
use Rattle.std.proofs.lemmas.List.{map-append, take_more}
use Rattle.px_base.specs.Place.{place_after, place_at}
use Rattle.px_base.specs.declared.place.Pos.{Pos}
use Rattle.report.proofs.Ranges.{range_more}
use Rattle.report.proofs.places.places_of.Goals as goal

-- the places of n bytes, and one more
more : (text : List ℕ) (n : ℕ) (place : Pos) (before after : List Pos) → after ≡ before ++ place ∷ [] → before ≡ map (place_at text) (range_with_len 0 n) → place ≡ place_at text n
    → after ≡ map (place_at text) (range_with_len 0 (n + 1))
more text n place before after pushed is here =
    pushed ∙ ap (λ (found : List Pos). found ++ place ∷ []) is ∙ ap (λ (p : Pos). map (place_at text) (range_with_len 0 n) ++ p ∷ []) here
    ∙ sym (map-append (place_at text) (range_with_len 0 n) (n ∷ [])) ∙ ap (map (place_at text)) (sym (range_more n))

pub loop-byte-preserved : goal.loop-byte-preserved
loop-byte-preserved c =
    let text = c.args.text.now in
    let i = c.loop-byte.byte-index in
    let known = c.loop-byte.invariant in
    let lines = c.place_behind-place.ensures.lines in
    let columns = c.place_behind-place.ensures.columns in
    record {
      found = more text i c.loop-byte.place c.loop-byte.found.items c.push.new.self.items c.in_ok-push.ensures.items known.found known.place;
      place = c.place_behind-place.ensures.value (take i text) known.place ∙ ap place_after (sym (take_more text i 0 c.loop-byte-test.true));
      few_lines = omega (arith, lines, known.few_lines);
      few_columns = omega (arith, columns, known.few_columns);
    }

pub returns : goal.returns
returns c =
    let text = c.args.text.now in
    let i = c.loop-byte.byte-index in
    let known = c.loop-byte.invariant in
    let whole : i ≡ length text = omega (arith, c.loop-byte-test.false, c.loop-byte.auto.byte-index-end) in
    more text i c.loop-byte.place c.loop-byte.found.items c.push-2.new.self.items c.in_ok-push-2.ensures.items known.found known.place
    ∙ ap (λ (n : ℕ). map (place_at text) (range_with_len 0 n)) (omega (arith, whole))
