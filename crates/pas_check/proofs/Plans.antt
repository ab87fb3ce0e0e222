-- The headings of a block, planned from the last to the first.
use Rattle.std.proofs.Common.{◌≡◌, ℕ, ◌+◌, ◌<◌, ◌≤◌, Bool, true, false, List, [], ◌∷◌, ◌++◌, append_assoc, arith, drop, get_or, length, map, reverse, Option, Some, None, Result, Ok, Err, cond, true≢false, if◌then◌else◌, refl, sym, ap, ◌∙◌, option_map, bytes_eq, Vec, Global}
use Rattle.std.proofs.lemmas.List.{append-nil, drop_all, length-append, map-append, reverse-append, reverse-reverse}
use Rattle.std.specs.Bool.{beq}
use Rattle.std.specs.List.{sum}
use Rattle.std.specs.Option.{option_to_list}
use Rattle.std.specs.Map.{lookup, KeepsOthers}
use Rattle.std.specs.Prelude.{◌&&◌, OnOk, fold, is_some, not}
use Rattle.std.specs.Result.{is_ok}
use Rattle.px_base.specs.declared.place.Span.{Span}
use Rattle.pas_tree.specs.declared.block.Block.{Block}
use Rattle.pas_tree.specs.declared.block.Routine.{Routine}
use Rattle.pas_tree.specs.declared.block.RoutineBody.TheFolds.{fold_out-Block}
use Rattle.pas_tree.specs.declared.block.RoutineBody.TheVariants as body_of
use Rattle.pas_tree.specs.declared.block.RoutineBody.TheViews.{out-Block, out-Routine, out-RoutineBody}
use Rattle.pas_check.specs.declared.fault.Rule.TheVariants as rule
use Rattle.pas_check.specs.declared.plan.Bodies.{Bodies}
use Rattle.pas_check.specs.declared.plan.Body.{Body}
use Rattle.pas_check.specs.declared.plan.Plans.{Plans}
use Rattle.pas_check.specs.Block.{block_ends, body_ends, ends_inside, ends_of, routine_ends}
use Rattle.pas_check.specs.Blocks.{Numbered, block_in, block_of, bodies_given, body_after, is_body_of, lacking_by, later_block, numbered, plan_by, plan_of, planned, planned_of}
use Rattle.pas_check.specs.Names.{Name, name_at}
use Rattle.pas_check.specs.Outcome.{Outcome, ◌>>=◌, unless}
use Rattle.pas_check.specs.Plans.{ArePlanned, block_at, block_by, block_given, numbers_from, own_number, waiting_plan}
use Rattle.pas_check.specs.Rules.{lacks_body}
use Rattle.pas_check.proofs.ByName.{bytes_swap, changed_at, map_cond}
use Rattle.pas_check.proofs.Passing.{drop_next}

pub body_at : (name : Name) (old new : List (Vec ℕ Global × Body)) (body : Body) → lookup (λ (k : Vec ℕ Global). bytes_eq name k.items) new ≡ Some body
    → KeepsOthers (λ (x y : Vec ℕ Global). bytes_eq x.items y.items) (λ (k : Vec ℕ Global). bytes_eq name k.items) old new
    → (other : Name) → block_at other new ≡ cond (bytes_eq other name) (Some (block_by body)) (block_at other old)
body_at name old new body here others other =
    let before : Option Body = lookup (λ (k : Vec ℕ Global). bytes_eq other k.items) old in
    ap (option_map block_by) (changed_at name old new (Some body) here others other ∙ ap (λ b. cond b (Some body) before) (bytes_swap name other)) ∙ map_cond block_by (bytes_eq other name) (Some body) before

-- the last one of those that are left, with those after it
module _ {A : Type 0} (all rest before : List A) (x : A) (whole : rest ++ drop (length rest) all ≡ all) (last : rest ≡ before ++ x ∷ []) where
  dropped : (xs ys : List A) → drop (length xs) (xs ++ ys) ≡ ys
  dropped [] ys = refl
  dropped (y ∷ xs) ys = dropped xs ys

  parts : all ≡ before ++ x ∷ drop (length rest) all
  parts = sym whole ∙ ap (λ r. r ++ drop (length rest) all) last ∙ append_assoc before (x ∷ []) (drop (length rest) all)

  pub from_last : drop (length before) all ≡ x ∷ drop (length rest) all
  from_last = ap (drop (length before)) parts ∙ dropped before (x ∷ drop (length rest) all)

  pub before_last : before ++ drop (length before) all ≡ all
  before_last = ap (λ l. before ++ l) from_last ∙ sym parts

pub map_reverse : {A B : Type 0} (f : A → B) (xs : List A) → map f (reverse xs) ≡ reverse (map f xs)
map_reverse f [] = refl
map_reverse f (x ∷ xs) =
    ap (map f) (reverse-append (x ∷ []) xs) ∙ map-append f (reverse xs) (x ∷ []) ∙ ap (λ l. l ++ f x ∷ []) (map_reverse f xs)
    ∙ sym (reverse-append (f x ∷ []) (map f xs))

-- ---- counts of routines

ends_inside_by : (b : Block) → ends_inside b ≡ sum (map ends_of (out-Block b).routines)
unfolding ends_inside ends_of
ends_inside_by b = fold_out-Block ℕ ℕ ℕ body_ends block_ends routine_ends b

-- so many more than n end in these
abbrev pub ends_after : ℕ → List Routine → ℕ
ends_after n rs = fold (λ a x. a + x) n (map ends_of rs)

pub ends_first : (b : Block) (routines : List Routine) → routines ≡ (out-Block b).routines → ends_after 0 routines ≡ ends_inside b
ends_first b routines e = ap (λ rs. ends_after 0 rs) e ∙ sym (ends_inside_by b)

pub ends_next : (routines : List Routine) (k : ℕ) (r : Routine) (whole n m next : ℕ) → ends_after n (drop k routines) ≡ whole → k < length routines → r ≡ get_or routines k r
    → m ≡ ends_of r → next ≡ n + m → ends_after next (drop (k + 1) routines) ≡ whole
ends_next routines k r whole n m next so h e is more =
    ap (λ a. ends_after a (drop (k + 1) routines)) (more ∙ ap (λ b. n + b) is) ∙ sym (ap (λ rs. ends_after n rs) (drop_next routines k r h e)) ∙ so

pub ends_last : (routines : List Routine) (k n whole : ℕ) → ends_after n (drop k routines) ≡ whole → length routines ≤ k → n ≡ whole
ends_last routines k n whole so h = sym (ap (λ rs. ends_after n rs) (drop_all k routines h)) ∙ so

-- ---- numbers of headings

-- the numbers of those before k, and then of the others
pub numbers_next : (routines : List Routine) (k : ℕ) (r : Routine) (old new : List ℕ) (whole : List ℕ) (before number ends next : ℕ) → whole ≡ old ++ numbers_from before (drop k routines) → k < length routines → r ≡ get_or routines k r
    → number ≡ own_number before (block_of r) → new ≡ old ++ number ∷ [] → ends ≡ ends_of r → next ≡ before + ends → whole ≡ new ++ numbers_from next (drop (k + 1) routines)
numbers_next routines k r old new whole before number ends next so h e is added same more =
    let rest : List Routine = drop (k + 1) routines in
    so ∙ ap (λ rs. old ++ numbers_from before rs) (drop_next routines k r h e)
    ∙ sym (append_assoc old (own_number before (block_of r) ∷ []) (numbers_from (before + ends_of r) rest))
    ∙ ap (λ n. (old ++ n ∷ []) ++ numbers_from (before + ends_of r) rest) (sym is)
    ∙ ap (λ ns. ns ++ numbers_from (before + ends_of r) rest) (sym added)
    ∙ ap (λ m. new ++ numbers_from m rest) (ap (λ n. before + n) (sym same) ∙ sym more)

pub numbers_end : (routines : List Routine) (k : ℕ) (numbers whole : List ℕ) (before : ℕ) → whole ≡ numbers ++ numbers_from before (drop k routines) → length routines ≤ k → numbers ≡ whole
numbers_end routines k numbers whole before so h = sym (append-nil numbers) ∙ sym (ap (λ rs. numbers ++ numbers_from before rs) (drop_all k routines h)) ∙ sym so

-- the routines that have ended after these
abbrev pub ended_after : ℕ → List Routine → ℕ
ended_after first [] = first
ended_after first (r ∷ rest) = ended_after (first + ends_of r) rest

pub ended_last : (first : ℕ) (rs : List Routine) (r : Routine) → ended_after first (rs ++ r ∷ []) ≡ ended_after first rs + ends_of r
ended_last first [] r = refl
ended_last first (x ∷ rs) r = ended_last (first + ends_of x) rs r

pub numbers_last : (first : ℕ) (rs : List Routine) (r : Routine) → numbers_from first (rs ++ r ∷ []) ≡ numbers_from first rs ++ own_number (ended_after first rs) (block_of r) ∷ []
numbers_last first [] r = refl
numbers_last first (x ∷ rs) r = ap (λ ns. own_number first (block_of x) ∷ ns) (numbers_last (first + ends_of x) rs r)

-- where the headings left are planned from the last to the first
pub record AreLeft (text : List ℕ) (bodies : Bodies) (plans : Plans) (first : ℕ) (routines rest : List Routine) (numbers : List ℕ) : Type 0 where
  pub whole : rest ++ drop (length rest) routines ≡ routines
  pub done : ArePlanned text bodies plans (ended_after first rest) (drop (length rest) routines)
  pub left : numbers ≡ numbers_from first rest

-- ---- the plan of a heading

-- of two calls, of which the second passes on what the first answers
pub passed_on : {A E F : Type 0} {P Q R : Type 0} (o : Result A E) (q : Result A F) → is_ok q ≡ is_ok o → OnOk o P → OnOk o Q → (P → Q → R) → OnOk q R
passed_on (Ok x) (Ok y) e p q both = both p q
passed_on (Ok x) (Err f) e p q both = tt
passed_on (Err g) (Ok y) e p q both = absurd (true≢false e)
passed_on (Err g) (Err f) e p q both = tt

some_mapped : {A B : Type 0} (f : A → B) (o : Option A) → is_some o ≡ is_some (option_map f o)
some_mapped f None = refl
some_mapped f (Some x) = refl

either : (b : Bool) (o : Option Block) (n m : ℕ) (x y : Option Numbered) → is_some x ≡ is_some y → is_some (cond b (option_map (numbered n) o) x) ≡ is_some (cond b (option_map (numbered m) o) y)
either true None n m x y e = refl
either true (Some b) n m x y e = refl
either false o n m x y e = e

-- whether there is a later block does not depend on how many have ended before
is_later : (text : List ℕ) (name : Name) (function : Bool) (n m : ℕ) (rest : List Routine) → is_some (later_block text name function n rest) ≡ is_some (later_block text name function m rest)
is_later text name function n m [] = refl
is_later text name function n m (r ∷ rest) =
    either (is_body_of text name function r) (block_of r) n m (later_block text name function (n + ends_of r) rest) (later_block text name function (m + ends_of r) rest)
    (is_later text name function (n + ends_of r) (m + ends_of r) rest)

-- a heading without a block is the body of none
passed_by : {A : Type 0} (o : Option Block) (test : Bool) (x : Block → A) (other : Option A) → o ≡ None → other ≡ cond (is_some o && test) (option_map x o) other
passed_by None test x other e = refl
passed_by (Some b) test x other e = absurd (cc e)

lacking_next : (o : Option Block) (has : Bool) (old : Option ℕ) (at : ℕ) (others : Outcome (Unit {0})) → o ≡ None → lacking_by old ≡ others
    → lacking_by (cond has old (Some at)) ≡ (unless (not (is_some o) && lacks_body has) rule.Body at (Ok (tt {0})) >>= (λ done. others))
lacking_next None true old at others e is = is
lacking_next None false old at others e is = refl
lacking_next (Some b) has old at others e is = absurd (cc e)

-- the block that a heading waits for
word_plan : (r : Routine) (number before : ℕ) (o : Option Block) (later : Option Numbered) → o ≡ None → number ≡ own_number before o → waiting_plan number later ≡ planned_of (plan_by r before o later)
word_plan r number before None None e is =
    let pair : ℕ → ℕ × Option Block = λ n. (n, None) in
    ap pair is
word_plan r number before None (Some p) e is = refl
word_plan r number before (Some b) later e is = absurd (cc e)

module _ (text : List ℕ) (bodies : Bodies) (old new : Plans) (r : Routine) (number before : ℕ) (rest : List Routine) (kept : ArePlanned text bodies old (before + ends_of r) rest) where
  pub word_planned : (word : Span) (name : Name) (body : Option Body) → (out-Routine r).body ≡ body_of.Word word → number ≡ own_number before (block_of r) → name ≡ name_at text (out-Routine r).name
      → option_map block_by body ≡ block_given bodies name (out-Routine r).function → map plan_of new.list.items ≡ map plan_of old.list.items ++ waiting_plan number (option_map block_by body) ∷ []
      → new.lacking ≡ (if is_some body then old.lacking else Some (out-Routine r).name.start) → ArePlanned text bodies new before (r ∷ rest)
  word_planned word name body is same spelled found plan lacks =
      let function : Bool = (out-Routine r).function in
      let own : Name = name_at text (out-Routine r).name in
      let none : block_of r ≡ None = ap (λ b. block_in (out-RoutineBody b)) is ∙ ap block_in (body_of.outs-Word word) in
      let later : option_map block_by body ≡ body_after text r before rest = found ∙ ap (λ (n : Name). block_given bodies n function) spelled ∙ kept.given own function in
      let has : is_some body ≡ is_some (body_after text r 0 rest) = some_mapped block_by body ∙ ap is_some later ∙ is_later text own function (before + ends_of r) (0 + ends_of r) rest in
      let one : ℕ × Option Block = waiting_plan number (option_map block_by body) in
      record {
        given = λ n f. kept.given n f ∙ passed_by (block_of r) (bytes_eq n own && beq f function) (numbered before) (later_block text n f (before + ends_of r) rest) none;
        headings =
            ap reverse plan ∙ reverse-append (map plan_of old.list.items) (one ∷ []) ∙ ap (λ l. one ∷ l) kept.headings
            ∙ ap (λ p. p ∷ map planned_of (planned text (before + ends_of r) rest)) (ap (waiting_plan number) later ∙ word_plan r number before (block_of r) (body_after text r before rest) none same);
        lacking = ap lacking_by (lacks ∙ ap (λ b. cond b old.lacking (Some (out-Routine r).name.start)) has)
            ∙ lacking_next (block_of r) (is_some (body_after text r 0 rest)) old.lacking (out-Routine r).name.start (bodies_given text rest) none kept.lacking;
      }

-- ---- all headings

-- the last of some numbers is taken from them
pub popped : (xs ys : List ℕ) (x : ℕ) (o : Option ℕ) (all : List ℕ) → all ≡ xs ++ x ∷ [] → all ≡ ys ++ option_to_list o → (0 < length all → is_some o ≡ true) → (ys ≡ xs) × (o ≡ Some x)
popped xs ys x None all whole parts some = absurd (true≢false (sym (some (omega (arith, ap length whole, length-append xs (x ∷ []))))))
popped xs ys x (Some y) all whole parts some =
    let turned : x ∷ reverse xs ≡ y ∷ reverse ys = sym (reverse-append xs (x ∷ [])) ∙ ap reverse (sym whole ∙ parts) ∙ reverse-append ys (y ∷ []) in
    let others : reverse ys ≡ reverse xs = cc turned in
    let one : Some y ≡ Some x = cc turned in
    (sym (reverse-reverse ys) ∙ ap reverse others ∙ reverse-reverse xs, one)

pub all_planned : (text : List ℕ) (bodies : Bodies) (plans : Plans) (first : ℕ) (routines rest : List Routine) (numbers : List ℕ) → AreLeft text bodies plans first routines rest numbers → length rest ≡ 0
    → ArePlanned text bodies plans first routines
all_planned text bodies plans first routines [] numbers left none = left.done
all_planned text bodies plans first routines (r ∷ rest) numbers left none = absurd (omega arith)
