-- A graph that is followed by pieces, one after the other.
use Rattle.std.proofs.Common.{◌≡◌, ℕ, ◌+◌, List, [], ◌∷◌, ◌++◌, length, length-append, append_assoc, refl, sym, ap, subst, ◌∙◌, arith}
use Rattle.std.proofs.lemmas.List.{append-nil}
use Rattle.pas_program.specs.declared.program.Program.{Program}
use Rattle.control_points.specs.declared.edge.Act.{Act}
use Rattle.control_points.specs.declared.edge.Edge.{Edge}
use Rattle.control_points.specs.declared.graph.Graph.{Graph}
use Rattle.control_points.specs.declared.judging.Judge.{Judge}
use Rattle.control_points.specs.declared.edge.Act.TheVariants as acts
use Rattle.control_points.specs.Calls.{CallSite}
use Rattle.control_points.specs.Checking.{Faults}
use Rattle.control_points.specs.Judging as judging
use Rattle.control_points.specs.Listing as listing
use Rattle.control_points.specs.Scenes.{call_act}
use Rattle.control_points.specs.Pieces.{IsFollowedBy, Part, Piece, Plan, after_part, both, call_ways, entry_of, exit_of, judged, nothing, way}

after_again : (a b c : Part) → after_part (after_part a b) c ≡ after_part a (after_part b c)
after_again a b c =
    ap (λ es. record { edges = es; checks = (a.checks ++ b.checks) ++ c.checks }) (append_assoc a.edges b.edges c.edges)
    ∙ ap (λ cs. record { edges = a.edges ++ (b.edges ++ c.edges); checks = cs }) (append_assoc a.checks b.checks c.checks)

pub both_again : (p q r : Piece) (n : ℕ) → both (both p q) r n ≡ both p (both q r) n
both_again p q r n =
    let m = n + length (p n).edges in
    let e : n + length ((p n).edges ++ (q m).edges) ≡ m + length (q m).edges = omega (arith, length-append (p n).edges (q m).edges) in
    ap (λ k. after_part (after_part (p n) (q m)) (r k)) e ∙ after_again (p n) (q m) (r (m + length (q m).edges))

module _ {a b : Graph} where
  followed_same : {p q : Piece} → ((n : ℕ) → p n ≡ q n) → IsFollowedBy a b p → IsFollowedBy a b q
  followed_same same f = record {
    edges = f.edges ∙ ap (λ (x : Part). a.edges ++ x.edges) (same (length a.edges));
    checks = f.checks ∙ ap (λ (x : Part). a.checks ++ x.checks) (same (length a.edges));
  }

  pub followed_again : (p q r : Piece) → IsFollowedBy a b (both (both p q) r) → IsFollowedBy a b (both p (both q r))
  followed_again p q r f = followed_same {p = both (both p q) r} {q = both p (both q r)} (both_again p q r) f

  pub followed_along : {p q : Piece} → p ≡ q → IsFollowedBy a b p → IsFollowedBy a b q
  followed_along e f = subst (IsFollowedBy a b) e f

  pub followed_by_nothing : b.edges ≡ a.edges → b.checks ≡ a.checks → IsFollowedBy a b nothing
  followed_by_nothing e k = record { edges = e ∙ sym (append-nil a.edges); checks = k ∙ sym (append-nil a.checks) }

  pub followed_by_way : (source target : ℕ) (act : Act) → b.edges ≡ a.edges ++ listing.edge source act target ∷ [] → b.checks ≡ a.checks → IsFollowedBy a b (way source act target)
  followed_by_way source target act e k = record { edges = e; checks = k ∙ sym (append-nil a.checks) }

  -- a call with its return
  pub followed_by_call : (plan : Plan) (c : CallSite) (source back entry exit : ℕ) (act : Act) → act ≡ call_act c → entry ≡ entry_of plan c.routine → exit ≡ exit_of plan c.routine
      → b.edges ≡ (a.edges ++ listing.edge source act entry ∷ []) ++ listing.edge exit (acts.Return (length a.edges)) back ∷ [] → b.checks ≡ a.checks → IsFollowedBy a b (call_ways plan c source back)
  followed_by_call plan c source back entry exit act act_is entry_is exit_is e k =
      let last = listing.edge exit (acts.Return (length a.edges)) back in
      record {
        edges = e
            ∙ append_assoc a.edges (listing.edge source act entry ∷ []) (last ∷ [])
            ∙ ap (λ x. a.edges ++ listing.edge source x entry ∷ last ∷ []) act_is
            ∙ ap (λ n. a.edges ++ listing.edge source (call_act c) n ∷ last ∷ []) entry_is
            ∙ ap (λ n. a.edges ++ listing.edge source (call_act c) (entry_of plan c.routine) ∷ listing.edge n (acts.Return (length a.edges)) back ∷ []) exit_is;
        checks = k ∙ sym (append-nil a.checks);
      }

  -- the checks of a judge, of whose program they are
  pub followed_by_judged : (j : Judge) (here : ℕ) (p : Program) (faults : Program → Faults) → j.program.now ≡ p → j.point ≡ here → b.edges ≡ a.edges → b.checks ≡ a.checks ++ judging.judged j (faults j.program.now) → IsFollowedBy a b (judged here (faults p))
  followed_by_judged j here p faults same at e k = record {
    edges = e ∙ sym (append-nil a.edges);
    checks = k ∙ ap (λ n. a.checks ++ judging.checks_at n (faults j.program.now)) at ∙ ap (λ x. a.checks ++ judging.checks_at here (faults x)) same;
  }

module _ {a b c : Graph} where
  pub followed_by_both : {p q : Piece} → IsFollowedBy a b p → IsFollowedBy b c q → IsFollowedBy a c (both p q)
  followed_by_both {p} {q} f g =
      let n = length a.edges in
      let more : length b.edges ≡ n + length (p n).edges = ap length f.edges ∙ length-append a.edges (p n).edges in
      let at : q (length b.edges) ≡ q (n + length (p n).edges) = ap q more in
      let next = q (n + length (p n).edges) in
      record {
        edges = g.edges ∙ ap (λ xs. xs ++ (q (length b.edges)).edges) f.edges ∙ ap (λ (x : Part). (a.edges ++ (p n).edges) ++ x.edges) at ∙ append_assoc a.edges (p n).edges next.edges;
        checks = g.checks ∙ ap (λ xs. xs ++ (q (length b.edges)).checks) f.checks ∙ ap (λ (x : Part). (a.checks ++ (p n).checks) ++ x.checks) at ∙ append_assoc a.checks (p n).checks next.checks;
      }

  -- where the first step is the checks of a judge
  pub judged_before : {q : Piece} → IsFollowedBy b c q → (j : Judge) (here : ℕ) (p : Program) (faults : Program → Faults) → j.program.now ≡ p → j.point ≡ here → b.edges ≡ a.edges → b.checks ≡ a.checks ++ judging.judged j (faults j.program.now) → IsFollowedBy a c (both (judged here (faults p)) q)
  judged_before {q} f j here p faults same at e k = followed_by_both (followed_by_judged j here p faults same at e k) f

-- ---- loops: what follows the graph at hand by what is left follows the first graph by the whole

pub record Leads (start now : Graph) (left whole : Piece) : Type 0 where
  pub then : (new : Graph) → IsFollowedBy now new left → IsFollowedBy start new whole

pub leads_first : (g : Graph) (whole : Piece) → Leads g g whole whole
leads_first g whole = record { then = λ new f. f }

pub leads_step : {start now mid : Graph} {left whole p more : Piece} → Leads start now left whole → IsFollowedBy now mid p → left ≡ both p more → Leads start mid more whole
leads_step l f is = record { then = λ new g. l.then new (followed_along (sym is) (followed_by_both f g)) }

pub leads_last : {start now : Graph} {left whole : Piece} → Leads start now left whole → left ≡ nothing → IsFollowedBy start now whole
leads_last {start} {now} l is = l.then now (followed_along (sym is) (followed_by_nothing refl refl))

-- the same from no edges and no checks on
pub record LeadsTo (now : Graph) (left : Piece) (whole : Part) : Type 0 where
  pub then : (new : Graph) → IsFollowedBy now new left → (new.edges ≡ whole.edges) × (new.checks ≡ whole.checks)

pub leads_from_nothing : (g : Graph) (whole : Piece) → g.edges ≡ [] → g.checks ≡ [] → LeadsTo g whole (whole 0)
leads_from_nothing g whole none no_checks = record {
  then = λ new f. (
    f.edges ∙ ap (λ es. es ++ (whole (length es)).edges) none,
    f.checks ∙ ap (λ cs. cs ++ (whole (length g.edges)).checks) no_checks ∙ ap (λ (es : List Edge). (whole (length es)).checks) none,
  );
}

pub leads_on : {now mid : Graph} {left p more : Piece} {whole : Part} → LeadsTo now left whole → IsFollowedBy now mid p → left ≡ both p more → LeadsTo mid more whole
leads_on l f is = record { then = λ new g. l.then new (followed_along (sym is) (followed_by_both f g)) }

pub leads_end : {now : Graph} {left : Piece} {whole : Part} → LeadsTo now left whole → left ≡ nothing → (now.edges ≡ whole.edges) × (now.checks ≡ whole.checks)
leads_end {now} l is = l.then now (followed_along (sym is) (followed_by_nothing refl refl))
