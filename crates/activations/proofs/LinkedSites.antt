-- The sites of an unfolding are calls of its classes, whose links are listed one after another.
use Rattle.std.proofs.Common.{◌≡◌, ℕ, ◌+◌, ◌<◌, ◌≤◌, List, [], ◌∷◌, ◌++◌, Vec, Global, Option, Some, map, take, length, get_or, slice_get, sym, ap, ◌∙◌, arith}
use Rattle.std.specs.Option.{option_map}
use Rattle.std.proofs.lemmas.List.{length-map, map-append, take_all, take_more}
use Rattle.std.proofs.lemmas.Option.{get_or_from_slice_get, slice_get-get_or, slice_get-map, slice_get_within}
use Rattle.control_points.specs.declared.flow.Flow.{Flow}
use Rattle.control_points.specs.Fits.{routine_at}
use Rattle.alias_class.specs.declared.bind.Link.{Link}
use Rattle.alias_class.specs.Calls.{IsSite, links_at}
use Rattle.alias_class.specs.Cells.{routine_of}
use Rattle.alias_class.specs.Classes.{Class, class_at}
use Rattle.alias_class.specs.Outlines.{outline_of}
use Rattle.activations.specs.declared.discovery.Call.{Call}
use Rattle.activations.specs.Arcs.{Site, call_of, calls, links, links_of_site, sites, sites_of_node}
use Rattle.activations.specs.Parts.{lists_of}
use Rattle.activations.specs.Unfolding.{nodes_of, unfolding_of}
use Rattle.activations.proofs.CalledEdges.{is_called}
use Rattle.activations.proofs.DrawnNodes.{node_in_class}
use Rattle.activations.proofs.Pieces.{in_piece}
use Rattle.activations.proofs.SitesOnce.{site_at}

pub record IsKnownSite (f : Flow) (classes : List Class) (s : Site) : Type 0 where
  pub class : s.caller < length classes
  pub site : IsSite f.points f.edges (routine_of (outline_of f) (class_at classes s.caller)) s.edge

pub known_site : (f : Flow) (classes : List Class) (n : ℕ) (s : Site) → slice_get (sites (unfolding_of f classes)) n ≡ Some s → IsKnownSite f classes s
known_site f classes n s at =
    let u = unfolding_of f classes in
    let p = in_piece (sites_of_node u) (nodes_of u) n s at in
    let here = site_at u p.one p.rank s p.is in
    let inside = node_in_class f classes p.one p.place p.there in
    let called = is_called f s.edge here.edge here.known here.call in
    record {
      class = omega (arith, inside.0, here.caller);
      site = record {
        edge = here.edge;
        called = called.routine;
        known = here.known;
        is_call = called.calls;
        stands = ap (λ (p : ℕ). routine_at f.points p) here.from ∙ inside.1 ∙ ap (λ (i : ℕ). Some (routine_of (outline_of f) (class_at classes i))) (sym here.caller);
      };
    }

-- ---- the call that is read next

pub record IsReadCall (f : Flow) (classes : List Class) (n : ℕ) (c : Call) : Type 0 where
  pub site : Site
  pub at : slice_get (sites (unfolding_of f classes)) n ≡ Some site
  pub caller : c.caller ≡ site.caller
  pub edge : c.site ≡ site.edge
  pub known : IsKnownSite f classes site

pub read_call : (f : Flow) (classes : List Class) (listed : List Call) (n : ℕ) (d : Call) → listed ≡ calls (unfolding_of f classes) → n < length listed → IsReadCall f classes n (get_or listed n d)
read_call f classes listed n d is inside =
    let u = unfolding_of f classes in
    let none : Site = record { caller = 0; edge = 0 } in
    let long : length listed ≡ length (sites u) = ap (λ (cs : List Call). length cs) is ∙ length-map (sites u) (call_of u) in
    let site = get_or (sites u) n none in
    let at = slice_get-get_or (sites u) n none (omega (arith, inside, long)) in
    let called : get_or listed n d ≡ call_of u site =
    ap (λ (cs : List Call). get_or cs n d) is
    ∙ get_or_from_slice_get (calls u) n (call_of u site) d (slice_get-map (call_of u) (sites u) n ∙ ap (λ (o : Option Site). option_map (call_of u) o) at) in
    record { site = site; at = at; caller = ap (λ (d : Call). d.caller) called; edge = ap (λ (d : Call). d.site) called; known = known_site f classes n site at }

-- ---- one more

pub more_links : (f : Flow) (classes : List Class) (n : ℕ) (c : Call) (lists after : List (Vec Link Global)) (one : Vec Link Global) → IsReadCall f classes n c
    → lists_of lists ≡ map (links_of_site (unfolding_of f classes)) (take n (sites (unfolding_of f classes))) → after ≡ lists ++ one ∷ []
    → one.items ≡ links_at (outline_of f) f.edges (class_at classes c.caller) c.site
    → lists_of after ≡ map (links_of_site (unfolding_of f classes)) (take (n + 1) (sites (unfolding_of f classes)))
more_links f classes n c lists after one read so_far is links_are =
    let u = unfolding_of f classes in
    let items = λ (v : Vec Link Global). v.items in
    let here : one.items ≡ links_of_site u read.site =
    links_are ∙ ap (λ (i : ℕ). links_at (outline_of f) f.edges (class_at classes i) c.site) read.caller ∙ ap (λ (k : ℕ). links_at (outline_of f) f.edges (class_at classes read.site.caller) k) read.edge in
    let taken : take (n + 1) (sites u) ≡ take n (sites u) ++ read.site ∷ [] =
    take_more (sites u) n read.site (slice_get_within (sites u) n read.site read.at) ∙ ap (λ (s : Site). take n (sites u) ++ s ∷ []) (get_or_from_slice_get (sites u) n read.site read.site read.at) in
    ap (λ (vs : List (Vec Link Global)). lists_of vs) is ∙ map-append items lists (one ∷ [])
    ∙ ap (λ (ls : List (List Link)). ls ++ one.items ∷ []) so_far ∙ ap (λ (l : List Link). map (links_of_site u) (take n (sites u)) ++ l ∷ []) here
    ∙ sym (map-append (links_of_site u) (take n (sites u)) (read.site ∷ [])) ∙ ap (λ (ss : List Site). map (links_of_site u) ss) (sym taken)

pub all_listed : (f : Flow) (classes : List Class) (n : ℕ) (lists : List (List Link)) → lists ≡ map (links_of_site (unfolding_of f classes)) (take n (sites (unfolding_of f classes)))
    → length (sites (unfolding_of f classes)) ≤ n → lists ≡ links (unfolding_of f classes)
all_listed f classes n lists so_far all = so_far ∙ ap (λ (ss : List Site). map (links_of_site (unfolding_of f classes)) ss) (take_all n (sites (unfolding_of f classes)) all)
