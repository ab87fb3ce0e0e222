use Rattle.std.proofs.Common.{◌≡◌, ◌∙◌, ap, sym, nat_eq, Err, Ok, false, true, rules}
use Rattle.std.specs.Map.{keys_of}
use Rattle.indexmap.specs.IndexMap.{keys}
use Rattle.pas_check.specs.Rules.{is_label_again, is_label_too_great}
use Rattle.pas_check.proofs.Constants.{put_last, some_key}
use Rattle.pas_check.proofs.label.declare_label.Goals as goal

pub returns-then-contains_key-clause-value : goal.returns-then-contains_key-clause-value
returns-then-contains_key-clause-value c =
    let before = c.args.labels.now in
    let again : is_label_again c.args.label.value (keys before) ≡ true = sym (some_key (nat_eq c.args.label.value) before.entries) ∙ sym c.contains_key.ensures ∙ c.if-contains_key.true in
    λ own. rw again (ap Err (sym c.broken.ensures))

pub returns-then-label-gt-MOST_LABEL-clause-value : goal.returns-then-label-gt-MOST_LABEL-clause-value
returns-then-label-gt-MOST_LABEL-clause-value c =
    let before = c.args.labels.now in
    let new : is_label_again c.args.label.value (keys before) ≡ false = sym (some_key (nat_eq c.args.label.value) before.entries) ∙ sym c.contains_key.ensures ∙ c.if-contains_key.false in
    let great : is_label_too_great c.args.label.value ≡ true = search rules in
    λ own. rw new (rw great (ap Err (sym c.broken-then-label-gt-MOST_LABEL.ensures)))

pub returns-in-Ok-clause-value : goal.returns-in-Ok-clause-value
returns-in-Ok-clause-value c =
    let before = c.args.labels.now in
    let new : is_label_again c.args.label.value (keys before) ≡ false = sym (some_key (nat_eq c.args.label.value) before.entries) ∙ sym c.contains_key.ensures ∙ c.if-contains_key.false in
    let small : is_label_too_great c.args.label.value ≡ false = search rules in
    rw new (rw small (ap Ok (sym (ap keys_of c.in-Ok.ensures.entries ∙ put_last nat_eq before.entries c.args.label.value _ new))))
