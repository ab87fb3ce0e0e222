-- Headings with their blocks, one after the other.
use Rattle.std.proofs.Common.{◌≡◌, ℕ, ◌+◌, ◌<◌, ◌≤◌, ◌↔◌, Bool, true, false, cond, List, [], ◌∷◌, ◌++◌, length, arith, get_or, drop, map, reverse, codes, Option, Some, None, Ok, Err, Vec, Global, refl, sym, ap, subst, ◌∙◌}
use Rattle.std.specs.Prelude.{not}
use Rattle.std.specs.Map.{KeepsOthers, lookup}
use Rattle.std.specs.Str.{bytes_eq, str_to_ascii_lowercase}
use Rattle.std.proofs.lemmas.Slice.Eq.{bytes_eq-Decides}
use Rattle.px_base.specs.declared.place.Span.{Span}
use Rattle.std.proofs.lemmas.List.{drop_all}
use Rattle.pas_tree.specs.declared.block.Block.{Block}
use Rattle.pas_tree.specs.declared.block.Routine.{Routine}
use Rattle.pas_tree.specs.declared.block.RoutineBody.TheViews.{out-Routine}
use Rattle.pas_check.specs.declared.fault.Fault.{Fault}
use Rattle.pas_check.specs.declared.fault.Fault.TheVariants.{Broken}
use Rattle.pas_check.specs.declared.fault.Rule.TheVariants as rule
use Rattle.pas_check.specs.declared.heading.Opened.{Opened}
use Rattle.pas_check.specs.declared.plan.Plan.{Plan}
use Rattle.pas_check.specs.declared.seen.Made.{Made}
use Rattle.pas_check.specs.declared.seen.Seen.{Seen}
use Rattle.pas_check.specs.Block.{ends_of}
use Rattle.pas_check.specs.Blocks.{Numbered, Planned, RoutineMay, RoutinesMay, Standing, block_of, bodies_given, body_after, forward_read, forwarded, goes_on, is_forward, lacking_by, no_more, opened, opened_by, opening_for, plan_by, plan_of, planned, planned_of, planned_with, standing, stops_in, waits, waits_for, with_word}
use Rattle.pas_check.specs.Headings.{heading_read}
use Rattle.pas_check.specs.Names.{Name, name_at, spelling}
use Rattle.pas_check.specs.Outcome.{Outcome, ◌>>=◌, unless}
use Rattle.pas_check.specs.Routine.{repeated_heading}
use Rattle.pas_check.specs.Sight.{Sight, sight}
use Rattle.pas_check.specs.Stage.{Stage}
use Rattle.pas_check.proofs.ByName.{changed_at}
use Rattle.pas_check.proofs.Declarations.{last_is}
use Rattle.pas_check.proofs.Passing.{drop_next}

-- the plans of these headings, from the last to the first, where so many routines have ended before them
abbrev pub AreTheirs : List ℕ → ℕ → List Plan → List Routine → Type 0
AreTheirs text before plans routines = map plan_of (reverse plans) ≡ map planned_of (planned text before routines)

-- a heading is planned as itself
plan_routine : (r : Routine) (before : ℕ) (own : Option Block) (later : Option Numbered) → (plan_by r before own later).routine ≡ r
plan_routine r before (Some b) later = refl
plan_routine r before None None = refl
plan_routine r before None (Some p) = refl

planned_as : (r : Routine) (p : Plan) (q : Planned) → q.routine ≡ r → plan_of p ≡ planned_of q → planned_with r p ≡ q
planned_as r p q own same = λ i. record { routine = (sym own) i; number = (same i).0; later = (same i).1 }

module _ (text : List ℕ) (before : ℕ) (routines : List Routine) (k : ℕ) where
  pub routines_end : (s : Standing) → length routines ≤ k → RoutinesMay s (planned text before (drop k routines)) (Ok s)
  routines_end s h = subst (λ rs. RoutinesMay s (planned text before rs) (Ok s)) (sym (drop_all k routines h)) no_more

  module _ (r : Routine) (h : k < length routines) (e : r ≡ get_or routines k r) where
    abbrev plan : Planned
    plan = plan_by r before (block_of r) (body_after text r before (drop (k + 1) routines))

    abbrev after : List Planned
    after = planned text (before + ends_of r) (drop (k + 1) routines)

    planned_next : planned text before (drop k routines) ≡ plan ∷ after
    planned_next = ap (planned text before) (drop_next routines k r h e)

    -- there is a plan for it
    pub no_plan : (plans : List Plan) → length plans ≡ 0 → AreTheirs text before plans (drop k routines) → ⊥
    no_plan [] none same = cc (same ∙ ap (map planned_of) planned_next)
    no_plan (p ∷ plans) none same = omega arith

    module _ (plans rest : List Plan) (p : Plan) (popped : plans ≡ rest ++ p ∷ []) (same : AreTheirs text before plans (drop k routines)) where
      both : plan_of p ∷ map plan_of (reverse rest) ≡ planned_of plan ∷ map planned_of after
      both = sym (ap (map plan_of) (last_is plans rest p popped)) ∙ same ∙ ap (map planned_of) planned_next

      pub plans_go : AreTheirs text (before + ends_of r) rest (drop (k + 1) routines)
      plans_go = cc both

      with_its : (s : Standing) (o : Outcome Standing) → RoutineMay s (planned_with r p) o → RoutineMay s plan o
      with_its s o now =
          let same : plan_of p ≡ planned_of plan = cc both in
          subst (λ (q : Planned). RoutineMay s q o) (planned_as r p plan (plan_routine r before (block_of r) (body_after text r before (drop (k + 1) routines))) same) now

      pub routines_go : (s t : Standing) (o : Outcome Standing) → RoutineMay s (planned_with r p) (Ok t) → RoutinesMay t (planned text (before + ends_of r) (drop (k + 1) routines)) o → RoutinesMay s (planned text before (drop k routines)) o
      routines_go s t o now rest_of = subst (λ ps. RoutinesMay s ps o) (sym planned_next) (goes_on (with_its s (Ok t) now) rest_of)

      pub routines_stop : (s : Standing) (f : Fault) → RoutineMay s (planned_with r p) (Err f) → RoutinesMay s (planned text before (drop k routines)) (Err f)
      routines_stop s f now = subst (λ ps. RoutinesMay s ps (Err f)) (sym planned_next) (stops_in (with_its s (Err f) now))

-- a name is spelled
pub where_spelled : (v : Sight) (new old : Made) → new ≡ record old { lower = new.lower } → ◌≡◌ {A = Stage} (record { seen = v; built = new.built }) (record { seen = v; built = old.built })
where_spelled v new old kept = ap (λ (m : Made). record { seen = v; built = m.built }) kept

-- the same where the plans are made
module _ (c : Seen) (routines : List Routine) where
  pub plans_theirs : (before : ℕ) (plans : List Plan) → AreTheirs c.text.now before plans routines → AreTheirs (sight c).text before plans routines
  unfolding sight
  plans_theirs before plans h = h

  pub lacking_theirs : (others : List Routine) → routines ≡ others → (lacking : Option ℕ) → lacking_by lacking ≡ bodies_given c.text.now routines → lacking_by lacking ≡ bodies_given (sight c).text others
  unfolding sight
  lacking_theirs others same lacking h = h ∙ ap (bodies_given c.text.now) same

-- ---- headings that wait

opening_found : (name : Name) (es : List (Vec ℕ Global × Opened)) → opening_for name es ≡ lookup (λ (k : Vec ℕ Global). bytes_eq name k.items) es
opening_found name [] = refl
opening_found name (e ∷ es) = ap (cond (bytes_eq name e.0.items) (Some e.1)) (opening_found name es)

pub awaited_by : (function : Bool) (name : Name) (es : List (Vec ℕ Global × Opened)) (o : Option Opened) → o ≡ lookup (λ (k : Vec ℕ Global). bytes_eq name k.items) es → with_word function (opening_for name es) ≡ with_word function o
awaited_by function name es o e = ap (with_word function) (opening_found name es ∙ sym e)

pub waiting_after : (name : Name) (old new : List (Vec ℕ Global × Opened)) (w : Option Opened) → lookup (λ (k : Vec ℕ Global). bytes_eq name k.items) new ≡ w
    → KeepsOthers (λ (x y : Vec ℕ Global). bytes_eq x.items y.items) (λ (k : Vec ℕ Global). bytes_eq name k.items) old new → (λ (n : Name). opening_for n new) ≡ waits (λ (n : Name). opening_for n old) name w
waiting_after name old new w here others = λ i n. at_name n i
  where
    at_name : (n : Name) → opening_for n new ≡ cond (bytes_eq name n) w (opening_for n old)
    at_name n = opening_found n new ∙ changed_at name old new w here others n ∙ ap (cond (bytes_eq name n) w) (sym (opening_found n old))

-- ---- a heading with a word

-- the word in the place of a block
pub forward_is : (text : List ℕ) (word : Span) (bs : List ℕ) (b : Bool) → bs ≡ spelling text word → b ≡ true ↔ str_to_ascii_lowercase bs ≡ codes "forward" → is_forward text word ≡ b
forward_is text word bs b spelled test = ap (λ s. bytes_eq (str_to_ascii_lowercase s) (codes "forward")) (sym spelled) ∙ by b (bytes_eq (str_to_ascii_lowercase bs) (codes "forward")) test refl
  where
    by : (b r : Bool) → b ≡ true ↔ str_to_ascii_lowercase bs ≡ codes "forward" → bytes_eq (str_to_ascii_lowercase bs) (codes "forward") ≡ r → r ≡ b
    by true r test is = sym is ∙ (bytes_eq-Decides (str_to_ascii_lowercase bs) (codes "forward")).1 (test.0 refl)
    by false true test is = sym (test.1 ((bytes_eq-Decides (str_to_ascii_lowercase bs) (codes "forward")).0 is))
    by false false test is = refl

-- the heading is read, and then the word
pub forward_by : (s : Standing) (p : Planned) (word : Span) (o : Outcome (Stage × Opened)) → heading_read s.at p.routine p.number p.later ≡ o → forward_read s p word ≡ (o >>= forwarded s p.routine word)
unfolding forward_read
forward_by s p word o is = ap (λ (q : Outcome (Stage × Opened)). q >>= (λ h. forwarded s p.routine word h)) is

module _ (s : Standing) (r : Routine) (word : Span) (h : Stage × Opened) where
  pub word_refused : (f : Fault) → is_forward h.0.seen.text word ≡ false → f ≡ Broken rule.Kind word.start → forwarded s r word h ≡ Err f
  word_refused f other is = ap (λ b. unless {A = Standing} (not b) rule.Kind word.start (Ok (standing h.0 (waits s.waiting (name_at h.0.seen.text (out-Routine r).name) (Some h.1))))) other ∙ ap Err (sym is)

  pub word_waits : (x : Stage) (w : Name → Option Opened) (name : Name) → x ≡ h.0 → is_forward h.0.seen.text word ≡ true → name ≡ name_at h.0.seen.text (out-Routine r).name → w ≡ waits s.waiting name (Some h.1) → forwarded s r word h ≡ Ok (standing x w)
  word_waits x w name kept right spelled is =
      ap (λ b. unless {A = Standing} (not b) rule.Kind word.start (Ok (standing h.0 (waits s.waiting (name_at h.0.seen.text (out-Routine r).name) (Some h.1))))) right
      ∙ ap (λ n. Ok (standing h.0 (waits s.waiting n (Some h.1)))) (sym spelled) ∙ ap (λ u. Ok (standing h.0 u)) (sym is) ∙ ap (λ y. Ok (standing y w)) (sym kept)

-- ---- a heading with its block

-- what holds where the walk stands
pub at_hand : {A : Type 0} (now : A) (P : A → Type 0) → P now → (s : A) → s ≡ now → P s
at_hand now P holds s is = subst P (sym is) holds

pub opened_as : (s : Standing) (p : Planned) (b : Block) (o : Outcome (Standing × Opened)) → opened_by s p.routine b p.number (waits_for s p.routine) ≡ o → opened s p b ≡ o
unfolding opened
opened_as s p b o is = is

module _ (s : Standing) (r : Routine) (b : Block) (number : ℕ) (x : Stage) (kept : x ≡ s.at) (name : Name) (spelled : name ≡ name_at s.at.seen.text (out-Routine r).name) where
  waits_by : (o : Option Opened) → o ≡ with_word (out-Routine r).function (s.waiting name) → opened_by s r b number (waits_for s r) ≡ opened_by s r b number o
  waits_by o is = ap (opened_by s r b number) (ap (λ n. with_word (out-Routine r).function (s.waiting n)) (sym spelled) ∙ sym is)

  module _ (p : Opened) (taken : Some p ≡ with_word (out-Routine r).function (s.waiting name)) where
    repeated_by : (o : Outcome (Unit {0})) → repeated_heading (out-Routine r) ≡ o
        → opened_by s r b number (waits_for s r) ≡ (o >>= (λ done. Ok (standing s.at (waits s.waiting (name_at s.at.seen.text (out-Routine r).name) None), p)))
    repeated_by o is = waits_by (Some p) taken ∙ ap (λ (q : Outcome (Unit {0})). q >>= (λ done. Ok (standing s.at (waits s.waiting (name_at s.at.seen.text (out-Routine r).name) None), p))) is

    pub repeated_fails : (f : Fault) → repeated_heading (out-Routine r) ≡ Err f → opened_by s r b number (waits_for s r) ≡ Err f
    repeated_fails f is = repeated_by (Err f) is

    pub repeated_opens : (w : Name → Option Opened) → repeated_heading (out-Routine r) ≡ Ok tt → w ≡ waits s.waiting name None → opened_by s r b number (waits_for s r) ≡ Ok (standing x w, p)
    repeated_opens w is out =
        repeated_by (Ok tt) is ∙ ap (λ n. Ok (standing s.at (waits s.waiting n None), p)) (sym spelled) ∙ ap (λ u. Ok (standing s.at u, p)) (sym out) ∙ ap (λ y. Ok (standing y w, p)) (sym kept)

  module _ (none : None ≡ with_word (out-Routine r).function (s.waiting name)) where
    heading_by : (o : Outcome (Stage × Opened)) → heading_read x r number (Some b) ≡ o → opened_by s r b number (waits_for s r) ≡ (o >>= (λ h. Ok (standing h.0 s.waiting, h.1)))
    heading_by o is = waits_by None none ∙ ap (λ (q : Outcome (Stage × Opened)). q >>= (λ h. Ok (standing h.0 s.waiting, h.1))) (ap (λ y. heading_read y r number (Some b)) (sym kept) ∙ is)

    pub heading_fails : (f : Fault) → heading_read x r number (Some b) ≡ Err f → opened_by s r b number (waits_for s r) ≡ Err f
    heading_fails f is = heading_by (Err f) is

    pub heading_opens : (w : Name → Option Opened) (h : Stage × Opened) → w ≡ s.waiting → heading_read x r number (Some b) ≡ Ok h → opened_by s r b number (waits_for s r) ≡ Ok (standing h.0 w, h.1)
    heading_opens w h same is = heading_by (Ok h) is ∙ ap (λ u. Ok (standing h.0 u, h.1)) (sym same)
