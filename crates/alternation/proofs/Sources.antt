-- What the forward equations of an unfolding read are its nodes.
use Rattle.std.proofs.Common.{◌≡◌, ℕ, suc, ◌<◌, Bool, true, false, ◌||◌, Global, List, [], ◌∷◌, Vec, ◌++◌, length, map, get_or, nat_eq, Option, Some, None, unwrap_or, refl, sym, ap, subst, ◌∙◌, true≢false, arith}
use Rattle.std.specs.List.{All, flat_map, list_any}
use Rattle.std.specs.Option.{option_to_list}
use Rattle.std.specs.Cmp.{nat_eq_equiv}
use Rattle.std.proofs.lemmas.Bool.Decides.{nat_tests}
use Rattle.std.proofs.lemmas.List.{get_or-map, length-map}
use Rattle.std.proofs.lemmas.List.Elements.{Contains-get_or}
use Rattle.std.proofs.lemmas.Map.Views.{list_any-from_Contains}
use Rattle.std.proofs.lemmas.Option.{slice_get-get_or}
use Rattle.fixpoint.specs.Reversal.{list_at}
use Rattle.control_points.specs.declared.flow.Flow.{Flow}
use Rattle.activations.specs.declared.arc.Arc.{Arc}
use Rattle.activations.specs.Drawn.{Drawn}
use Rattle.activations.specs.Fitting.{ArcsFit}
use Rattle.transfer_fwd.specs.Forward.{incoming_at}
use Rattle.transfer_fwd.specs.Reads.{AreForwardReads, read_by}

-- the arc leaves nodes below a number
record LeavesBelow (n : ℕ) (a : Arc) : Type 0 where
  from : a.from < n
  exit : (node : ℕ) → a.other ≡ Some node → node < n

first_by : (b : Bool) (n m : ℕ) (rest : List ℕ) (r : ℕ) → nat_eq r m ≡ b → m < n → (list_any (nat_eq r) rest ≡ true → r < n)
    → (b || list_any (nat_eq r) rest) ≡ true → r < n
first_by true n m rest r same below later at = let is : r ≡ m = grind (arith, nat_tests, same) in omega (arith, is, below)
first_by false n m rest r differs below later at = later at

below_first : (n m : ℕ) (rest : List ℕ) (r : ℕ) → m < n → (list_any (nat_eq r) rest ≡ true → r < n) → list_any (nat_eq r) (m ∷ rest) ≡ true → r < n
below_first n m rest r below later at = first_by (nat_eq r m) n m rest r refl below later at

below_option : (n : ℕ) (o : Option ℕ) (rest : List ℕ) (r : ℕ) → ((node : ℕ) → o ≡ Some node → node < n) → (list_any (nat_eq r) rest ≡ true → r < n)
    → list_any (nat_eq r) (option_to_list o ++ rest) ≡ true → r < n
below_option n None rest r exit later at = later at
below_option n (Some m) rest r exit later at = below_first n m rest r (exit m refl) later at

sources_below : (n : ℕ) (arcs : List Arc) → All (LeavesBelow n) arcs → (r : ℕ) → list_any (nat_eq r) (flat_map read_by arcs) ≡ true → r < n
sources_below n [] all r at = absurd (true≢false (sym at))
sources_below n (a ∷ arcs) all r at =
    let some : 0 < suc (length arcs) = omega arith in
    let here : LeavesBelow n a = all 0 a some in
    let rest : All (LeavesBelow n) arcs = λ k d inside. all (suc k) d (omega (arith, inside)) in
    below_first n a.from (option_to_list a.other ++ flat_map read_by arcs) r here.from
    (below_option n a.other (flat_map read_by arcs) r here.exit (sources_below n arcs rest r)) at

reads_below : (f : Flow) (g : Drawn) (lists : List (List ℕ)) → ArcsFit f g → AreForwardReads g lists → (k r : ℕ) → k < length g.nodes
    → list_any (nat_eq r) (list_at lists k) ≡ true → r < length g.nodes
reads_below f g lists fits reads k r inside at =
    let within : k < length g.incoming = subst (λ (n : ℕ). k < n) (sym fits.incoming) inside in
    let is = slice_get-get_or g.incoming k [] within in
    let arcs = get_or g.incoming k [] in
    let listed : incoming_at g k ≡ arcs = ap (λ (o : Option (List Arc)). unwrap_or o []) is in
    let all : All (LeavesBelow (length g.nodes)) arcs = λ i d here.
    (let arc = fits.arriving k arcs (get_or arcs i d) is (Contains-get_or arcs i d here) in record { from = arc.from; exit = arc.exit }) in
    sources_below (length g.nodes) arcs all r
    (ap (λ (listed_arcs : List Arc). list_any (nat_eq r) (flat_map read_by listed_arcs)) (sym listed) ∙ sym (reads.members k r inside) ∙ at)

pub reads_are_nodes : (f : Flow) (g : Drawn) (vecs : List (Vec ℕ Global)) → ArcsFit f g → AreForwardReads g (map (λ (v : Vec ℕ Global). v.items) vecs)
    → All (λ (v : Vec ℕ Global). All (λ n. n < length vecs) v.items) vecs
reads_are_nodes f g vecs fits reads k d inside i e here =
    let items = λ (v : Vec ℕ Global). v.items in
    let long : length vecs ≡ length g.nodes = sym (length-map vecs items) ∙ reads.as_many in
    let read = (get_or vecs k d).items in
    let is : list_at (map items vecs) k ≡ read = get_or-map items vecs k d [] inside in
    let r = get_or read i e in
    let member : list_any (nat_eq r) (list_at (map items vecs) k) ≡ true
    = ap (λ (ns : List ℕ). list_any (nat_eq r) ns) is ∙ list_any-from_Contains nat_eq_equiv r read (Contains-get_or read i e here) in
    subst (λ (n : ℕ). r < n) (sym long) (reads_below f g (map items vecs) fits reads k r (subst (λ (n : ℕ). k < n) long inside) member)
