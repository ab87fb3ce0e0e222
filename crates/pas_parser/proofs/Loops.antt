-- What a loop that reads keeps: going on from what has been read gives the whole answer.
use Rattle.std.proofs.Common.{◌≡◌, ℕ, zero, suc, ◌+◌, ◌-◌, ◌<◌, ◌≤◌, Bool, true, false, Option, Some, None, Ok, Err, refl, ap, sym, subst, ◌∙◌, arith}
use Rattle.pas_parser.specs.declared.fault.ParseFault.{ParseFault}
use Rattle.pas_parser.specs.Loop.{repeat, when, go_on, more}
use Rattle.pas_parser.specs.Outcome.{Outcome, ◌>>=◌, IsOwn, Gives}

-- an answer that is a fault
pub gives_wrong : {A : Type 0} (whole result : Outcome A) (fault : ParseFault) → result ≡ Err fault → (IsOwn fault → whole ≡ Err fault) → Gives whole result
gives_wrong whole result fault is own = subst (Gives whole) (sym is) own

-- the first of a list, which the others follow
pub after_first : {A B : Type 0} (read : Outcome A) (rest : A → Outcome B) (first : A) → read ≡ Ok first → rest first ≡ (read >>= rest)
after_first read rest first got = sym (ap (λ o. o >>= rest) got)

pub wrong_first : {A B : Type 0} (read : Outcome A) (rest : A → Outcome B) (fault : ParseFault) → read ≡ Err fault → (read >>= rest) ≡ Err fault
wrong_first read rest fault got = ap (λ o. o >>= rest) got

-- `limit` is the number of tokens, and `place` the one that has been reached
pub record Goes {S : Type 0} (step : S → Option (Outcome S)) (whole : Outcome S) (limit place : ℕ) (so_far : S) : Type 0 where
  pub turns : ℕ
  pub enough : limit ≤ turns + place
  pub rest : repeat step turns so_far ≡ whole

pub goes_on : {S : Type 0} {step : S → Option (Outcome S)} {whole : Outcome S} {limit place : ℕ} (after : ℕ) (so_far longer : S) →
    Goes step whole limit place so_far → step so_far ≡ Some (Ok longer) → place < limit → place < after →
    Goes step whole limit after longer
unfolding repeat
goes_on {step = step} {whole = whole} {limit = limit} {place = place} after so_far longer g stepped inside moves =
    let turn : g.turns ≡ suc (g.turns - 1) = omega (arith, g.enough) in
    let again : repeat step (suc (g.turns - 1)) so_far ≡ repeat step (g.turns - 1) longer =
    ap (λ m. go_on m so_far (repeat step (g.turns - 1))) stepped in
    record {
      turns = g.turns - 1;
      enough = omega (arith, g.enough);
      rest = sym again ∙ ap (λ n. repeat step n so_far) (sym turn) ∙ g.rest;
    }

pub goes_wrong : {S : Type 0} {step : S → Option (Outcome S)} {whole : Outcome S} {limit place : ℕ} (so_far : S) (fault : ParseFault) →
    Goes step whole limit place so_far → step so_far ≡ Some (Err fault) → place < limit → whole ≡ Err fault
unfolding repeat
goes_wrong {step = step} {whole = whole} {limit = limit} {place = place} so_far fault g stepped inside =
    let turn : g.turns ≡ suc (g.turns - 1) = omega (arith, g.enough) in
    let again : repeat step (suc (g.turns - 1)) so_far ≡ Err fault = ap (λ m. go_on m so_far (repeat step (g.turns - 1))) stepped in
    sym g.rest ∙ ap (λ n. repeat step n so_far) turn ∙ again

ends_at : {S : Type 0} (step : S → Option (Outcome S)) (so_far : S) (turns : ℕ) → step so_far ≡ None → repeat step turns so_far ≡ Ok so_far
unfolding repeat
ends_at step so_far zero stepped = refl
ends_at step so_far (suc turns) stepped = ap (λ m. go_on m so_far (repeat step turns)) stepped

pub goes_to_end : {S : Type 0} {step : S → Option (Outcome S)} {whole : Outcome S} {limit place : ℕ} (so_far : S) →
    Goes step whole limit place so_far → step so_far ≡ None → whole ≡ Ok so_far
goes_to_end {step = step} so_far g stepped = sym g.rest ∙ ends_at step so_far g.turns stepped

-- of parts of one kind
pub record Lists {S X : Type 0} (next : S → ℕ) (add : S → X → S) (begins : ℕ → Bool) (part : ℕ → Outcome X) (whole : Outcome S) (limit : ℕ) (so_far : S) : Type 0 where
  pub goes : Goes (more next add begins part) whole limit (next so_far) so_far

module _ {S X : Type 0} {next : S → ℕ} {add : S → X → S} {begins : ℕ → Bool} {part : ℕ → Outcome X} {whole : Outcome S} {limit : ℕ} where
  pub lists_start : (so_far : S) → repeat (more next add begins part) limit so_far ≡ whole → Lists next add begins part whole limit so_far
  lists_start so_far rest = record { goes = record { turns = limit; enough = omega arith; rest = rest } }

  pub lists_more : (so_far : S) (found : X) (longer : S) → Lists next add begins part whole limit so_far →
      begins (next so_far) ≡ true → next so_far < limit → part (next so_far) ≡ Ok found → longer ≡ add so_far found → next so_far < next longer →
      Lists next add begins part whole limit longer
  unfolding more
  lists_more so_far found longer l here inside got same moves = record {
    goes =
        goes_on (next longer) so_far longer l.goes
        (ap (λ b. when b (part (next so_far) >>= λ x. Ok (add so_far x))) here ∙ ap (λ o. Some (o >>= λ x. Ok (add so_far x))) got ∙ ap (λ s. Some (Ok s)) (sym same))
        inside moves;
  }

  pub lists_wrong : (so_far : S) (fault : ParseFault) → Lists next add begins part whole limit so_far →
      begins (next so_far) ≡ true → next so_far < limit → part (next so_far) ≡ Err fault → whole ≡ Err fault
  unfolding more
  lists_wrong so_far fault l here inside got =
      goes_wrong so_far fault l.goes
      (ap (λ b. when b (part (next so_far) >>= λ x. Ok (add so_far x))) here ∙ ap (λ o. Some (o >>= λ x. Ok (add so_far x))) got) inside

  pub lists_end : (so_far : S) → Lists next add begins part whole limit so_far → begins (next so_far) ≡ false → whole ≡ Ok so_far
  unfolding more
  lists_end so_far l here = goes_to_end so_far l.goes (ap (λ b. when b (part (next so_far) >>= λ x. Ok (add so_far x))) here)
