-- Actions by paths draw those by numbers: calls before an action, a condition, and the parameters of `read` and `write`.
use Rattle.std.proofs.Common.{◌≡◌, ℕ, suc, ◌+◌, true, false, List, [], ◌∷◌, length, length-append, refl, sym, ap, subst, ◌∙◌, Some, arith}
use Rattle.std.specs.List.{slice_get}
use Rattle.pas_program.specs.declared.expr.Access.{Access}
use Rattle.pas_program.specs.declared.expr.Actual.TheViews.{out-Access}
use Rattle.pas_program.specs.declared.expr.Expr.{Expr}
use Rattle.pas_program.specs.declared.routine.Assert.{Assert}
use Rattle.pas_program.specs.declared.statement.WriteItem.{WriteItem}
use Rattle.control_points.specs.declared.edge.Act.{Act}
use Rattle.control_points.specs.declared.edge.Act.TheVariants as act
use Rattle.control_points.specs.declared.point.PointKind.TheVariants as kind
use Rattle.control_points.specs.Calls.{CallSite, Sites, access_calls, expr_calls, item_calls}
use Rattle.control_points.specs.Checking.{Faults, expr_checks, item_checks, read_checks}
use Rattle.control_points.specs.Evaluation.{access_type}
use Rattle.control_points.specs.Extents.{read_points, write_points}
use Rattle.control_points.specs.Pieces.{Plan}
use Rattle.control_points.specs.Pieces as pieces
use Rattle.control_points.specs.Sites.{Path, Piece, Site, action, both, call_checks, call_links, call_piece, condition, judged, made, place_of_written, point_of, reads, way, writes}
use Rattle.control_points.proofs.Fitting.{EachSite}
use Rattle.control_points.proofs.Followed.{both_again}
use Rattle.control_points.proofs.PathsDrawn.{Draws, IsAt, IsReady, draws_both, draws_call, draws_judged, draws_knowing, draws_like, draws_nothing, draws_point, draws_way, none_before, none_behind, same_behind}
use Rattle.control_points.proofs.PathsLists.{EachFrom, each_first, each_front, each_past, each_rest}

module _ (g h : Site → ℕ) (plan : Plan) (r : ℕ) where
  abbrev pub AreReady : Sites → Type 0
  AreReady = EachSite (λ c. IsReady g h plan c.routine)

  ready_rest : (c : CallSite) (sites : Sites) → AreReady (c ∷ sites) → AreReady sites
  ready_rest c sites e = record { each = λ k d h. e.each (suc k) d h }

  pub made_many : (path : Path) (n : ℕ) (source : Site) (sites : Sites) → length (made plan.tables r path n source sites).piece.points ≡ length sites
  made_many path n source [] = refl
  made_many path n source (c ∷ sites) = ap suc (made_many path (suc n) (record { routine = r; path = path; kind = kind.AfterCall; number = n }) sites)

  pub made_here : (path : Path) (n : ℕ) (source : Site) (sites : Sites) (s : ℕ) → g source ≡ s → EachFrom (IsAt g h) (s + 1) (made plan.tables r path n source sites).piece.points → g (made plan.tables r path n source sites).here ≡ s + length sites
  made_here path n source [] s e p = let same : s ≡ s + 0 = omega arith in e ∙ same
  made_here path n source (c ∷ sites) s e p =
      let back : Site = record { routine = r; path = path; kind = kind.AfterCall; number = n } in
      let more = (made plan.tables r path (suc n) back sites).piece.points in
      let one : EachFrom (IsAt g h) (s + 1 + 1) more = each_rest (IsAt g h) (s + 1) (s + 1 + 1) (record { site = back; at = c.at; asserts = [] }) more refl p in
      let same : s + 1 + length sites ≡ s + suc (length sites) = omega arith in
      made_here path (suc n) back sites (s + 1) (each_first (IsAt g h) (s + 1) (record { site = back; at = c.at; asserts = [] }) more p) one ∙ same

  call_draws : (c : CallSite) (source back : Site) (a s : ℕ) → IsReady g h plan c.routine → g source ≡ s → g back ≡ s + 1 → Draws g h (call_piece plan.tables c source back) a (pieces.call plan c s (s + 1))
  call_draws c source back a s ready e f =
      draws_both g h (judged source (call_checks plan.tables c)) (both (call_links c source back) (point_of back c.at)) a a (pieces.judged s (call_checks plan.tables c)) (pieces.call_ways plan c s (s + 1)) (omega arith)
      (draws_judged g h source (call_checks plan.tables c) a s e)
      (draws_like g h (both (call_links c source back) (point_of back c.at)) a (pieces.both (pieces.call_ways plan c s (s + 1)) pieces.nothing) (pieces.call_ways plan c s (s + 1)) (none_behind (pieces.call_ways plan c s (s + 1)))
      (draws_both g h (call_links c source back) (point_of back c.at) a a _ pieces.nothing (omega arith) (draws_call g h plan c source back a s (s + 1) ready e f) (draws_point g h back c.at a)))

  pub made_draws : (path : Path) (n : ℕ) (source : Site) (sites : Sites) (s : ℕ) → AreReady sites → g source ≡ s → Draws g h (made plan.tables r path n source sites).piece (s + 1) (pieces.calls plan sites s)
  made_draws path n source [] s ready e = draws_nothing g h (s + 1)
  made_draws path n source (c ∷ sites) s ready e =
      let back : Site = record { routine = r; path = path; kind = kind.AfterCall; number = n } in
      let more = (made plan.tables r path (suc n) back sites).piece in
      draws_knowing g h (made plan.tables r path n source (c ∷ sites)).piece (s + 1) (pieces.calls plan (c ∷ sites) s)
      (λ p.
      let f : g back ≡ s + 1 = each_first (IsAt g h) (s + 1) (record { site = back; at = c.at; asserts = [] }) more.points p in
      draws_both g h (call_piece plan.tables c source back) more (s + 1) (s + 1 + 1) (pieces.call plan c s (s + 1)) (pieces.calls plan sites (s + 1)) refl
      (call_draws c source back (s + 1) s (ready.each 0 c refl) e f)
      (made_draws path (suc n) back sites (s + 1) (ready_rest c sites ready) f))

  module _ (asserts : List Assert) where
    pub action_many : (path : Path) (source : Site) (sites : Sites) (faults : Faults) (rest : Site → Piece) → length (action plan.tables asserts r path source sites faults rest).points ≡ length sites + length (rest (made plan.tables r path 0 source sites).here).points
    action_many path source sites faults rest =
        let m = made plan.tables r path 0 source sites in
        length-append m.piece.points (rest m.here).points ∙ ap (λ k. k + length (rest m.here).points) (made_many path 0 source sites)

    pub action_draws : (path : Path) (source : Site) (sites : Sites) (faults : Faults) (rest : Site → Piece) (s : ℕ) (q : pieces.Piece) → AreReady sites → g source ≡ s
        → ((here : Site) → g here ≡ s + length sites → Draws g h (rest here) (s + 1 + length sites) q)
        → Draws g h (action plan.tables asserts r path source sites faults rest) (s + 1) (pieces.both (pieces.calls plan sites s) (pieces.both (pieces.judged (s + length sites) faults) q))
    action_draws path source sites faults rest s q ready e f =
        let m = made plan.tables r path 0 source sites in
        let k = s + 1 + length sites in
        draws_knowing g h (action plan.tables asserts r path source sites faults rest) (s + 1) _
        (λ p.
        let here : g m.here ≡ s + length sites = made_here path 0 source sites s e (each_front (IsAt g h) (s + 1) m.piece.points (rest m.here).points p) in
        let many : k ≡ s + 1 + length m.piece.points = ap (λ j. s + 1 + j) (sym (made_many path 0 source sites)) in
        draws_both g h m.piece (both (judged m.here faults) (rest m.here)) (s + 1) k (pieces.calls plan sites s) (pieces.both (pieces.judged (s + length sites) faults) q) many
        (made_draws path 0 source sites s ready e)
        (draws_both g h (judged m.here faults) (rest m.here) k k (pieces.judged (s + length sites) faults) q (omega arith) (draws_judged g h m.here faults k (s + length sites) here) (f m.here here)))

    pub two_ways_draw : (source t u : Site) (a b : Act) (k s m n : ℕ) → g source ≡ s → g t ≡ m → g u ≡ n → Draws g h (both (way source a t) (way source b u)) k (pieces.both (pieces.way s a m) (pieces.way s b n))
    two_ways_draw source t u a b k s m n e f i = draws_both g h (way source a t) (way source b u) k k _ _ (omega arith) (draws_way g h source t a k s m e f) (draws_way g h source u b k s n e i)

    pub condition_draws : (path : Path) (source : Site) (cond : Expr) (held failed : Site) (s m n : ℕ) → AreReady (expr_calls cond) → g source ≡ s → g held ≡ m → g failed ≡ n
        → Draws g h (condition plan.tables asserts r path source cond held failed) (s + 1) (pieces.both (pieces.calls plan (expr_calls cond) s) (pieces.condition plan cond (s + length (expr_calls cond)) m n))
    condition_draws path source cond held failed s m n ready e f i =
        action_draws path source (expr_calls cond) (expr_checks plan.tables cond) (λ here. both (way here (act.Test cond true) held) (way here (act.Test cond false) failed)) s _ ready e
        (λ here at. two_ways_draw here held failed (act.Test cond true) (act.Test cond false) _ _ m n at f i)

    -- ---- the parameters of `read` and `write`

    -- calls, checks and the action, from which the rest goes on
    regrouped : (c j w rest : pieces.Piece) (m : ℕ) → pieces.both c (pieces.both j (pieces.both w rest)) m ≡ pieces.both (pieces.both c (pieces.both j w)) rest m
    regrouped c j w rest m =
        same_behind c (pieces.both j (pieces.both w rest)) (pieces.both (pieces.both j w) rest) (λ n. sym (both_again j w rest n)) m
        ∙ sym (both_again c (pieces.both j w) rest m)

    -- one parameter, whose point past stands behind the calls
    parameter_draws : (path : Path) (k : ℕ) (source past : Site) (at : ℕ) (sites : Sites) (faults : Faults) (a : Act) (s : ℕ) (rest : Piece) (q : pieces.Piece) → AreReady sites → g source ≡ s
        → (g past ≡ s + suc (length sites) → Draws g h rest (s + suc (length sites) + 1) q)
        → Draws g h (both (made plan.tables r path k source sites).piece (both (judged (made plan.tables r path k source sites).here faults) (both (way (made plan.tables r path k source sites).here a past) (both (point_of past at) rest)))) (s + 1)
        (pieces.both (pieces.both (pieces.calls plan sites s) (pieces.both (pieces.judged (s + length sites) faults) (pieces.way (s + length sites) a (s + length sites + 1)))) q)
    parameter_draws path k source past at sites faults a s rest q ready e f =
        let m = made plan.tables r path k source sites in
        let b = s + 1 + length sites in
        let behind = both (point_of past at) rest in
        let whole = both m.piece (both (judged m.here faults) (both (way m.here a past) behind)) in
        draws_knowing g h whole (s + 1) _
        (λ p.
        let many : b ≡ s + 1 + length m.piece.points = ap (λ j. s + 1 + j) (sym (made_many path k source sites)) in
        let here : g m.here ≡ s + length sites = made_here path k source sites s e (each_front (IsAt g h) (s + 1) m.piece.points behind.points p) in
        let there : g past ≡ b = each_first (IsAt g h) b (record { site = past; at = at; asserts = [] }) rest.points (each_past (IsAt g h) (s + 1) b m.piece.points behind.points many p) in
        let one : b ≡ s + suc (length sites) = omega arith in
        let two : b ≡ s + length sites + 1 = omega arith in
        let three : s + suc (length sites) + 1 ≡ b + 1 = omega arith in
        draws_like g h whole (s + 1) _ _ (regrouped (pieces.calls plan sites s) (pieces.judged (s + length sites) faults) (pieces.way (s + length sites) a (s + length sites + 1)) q)
        (draws_both g h m.piece _ (s + 1) b (pieces.calls plan sites s) _ many (made_draws path k source sites s ready e)
        (draws_both g h (judged m.here faults) _ b b (pieces.judged (s + length sites) faults) _ (omega arith) (draws_judged g h m.here faults b (s + length sites) here)
        (draws_both g h (way m.here a past) behind b b _ q (omega arith) (draws_way g h m.here past a b (s + length sites) (s + length sites + 1) here (there ∙ two))
        (draws_like g h behind b (pieces.both pieces.nothing q) q (none_before q)
        (draws_both g h (point_of past at) rest b (b + 1) pieces.nothing q refl (draws_point g h past at b) (subst (λ j. Draws g h rest j q) three (f (there ∙ one)))))))))

    pub reads_draw : (path : Path) (n k : ℕ) (source : Site) (end : Act) (targets : List Access) (next : Site) (s u : ℕ) → ((j : ℕ) (a : Access) → slice_get targets j ≡ Some a → AreReady (access_calls a)) → g source ≡ s → g next ≡ u
        → Draws g h (reads plan.tables asserts r path n k source end targets next) (s + 1) (pieces.reads plan targets end s u)
    reads_draw path n k source end [] next s u ready e f = draws_way g h source next end (s + 1) s u e f
    reads_draw path n k source end (a ∷ targets) next s u ready e f =
        let m = made plan.tables r path k source (access_calls a) in
        let past : Site = record { routine = r; path = path; kind = kind.AfterRead; number = n } in
        parameter_draws path k source past (out-Access a).at (access_calls a) (read_checks plan.tables (access_type plan.tables a) a) (act.Read a) s (reads plan.tables asserts r path (suc n) m.number past end targets next) (pieces.reads plan targets end (s + read_points a) u) (ready 0 a refl) e
        (λ at. reads_draw path (suc n) m.number past end targets next (s + read_points a) u (λ j b i. ready (suc j) b i) at f)

    pub writes_draw : (path : Path) (n k : ℕ) (source : Site) (end : Act) (items : List WriteItem) (next : Site) (s u : ℕ) → ((j : ℕ) (item : WriteItem) → slice_get items j ≡ Some item → AreReady (item_calls item)) → g source ≡ s → g next ≡ u
        → Draws g h (writes plan.tables asserts r path n k source end items next) (s + 1) (pieces.writes plan items end s u)
    writes_draw path n k source end [] next s u ready e f = draws_way g h source next end (s + 1) s u e f
    writes_draw path n k source end (item ∷ items) next s u ready e f =
        let m = made plan.tables r path k source (item_calls item) in
        let past : Site = record { routine = r; path = path; kind = kind.AfterWrite; number = n } in
        parameter_draws path k source past (place_of_written plan.tables asserts r item.value) (item_calls item) (item_checks plan.tables item) (act.Write item) s (writes plan.tables asserts r path (suc n) m.number past end items next) (pieces.writes plan items end (s + write_points item) u) (ready 0 item refl) e
        (λ at. writes_draw path (suc n) m.number past end items next (s + write_points item) u (λ j b i. ready (suc j) b i) at f)
