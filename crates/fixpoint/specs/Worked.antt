-- Systems over intervals, as an example of how the law of a system is met: a node holds its start, and what flows to it from the nodes that it reads.
use Rattle.std.specs.Prelude.{◌≡◌, ℕ, ◌<◌, false, List, [], ◌∷◌, length, slice_index_or, refl}
use Rattle.std.specs.List.{Contains, fold}
use Rattle.std.proofs.Common.{ap, sym, subst, ◌∙◌}
use Rattle.px_base.specs.declared.operator.BinOp.TheVariants.{Add}
use Rattle.interval.specs.declared.itv.Itv.{Itv}
use Rattle.interval.specs.declared.val.Val.{Val}
use Rattle.interval.specs.Forward.{binary_answer}
use Rattle.interval.specs.Intervals.{meet, numbers}
use Rattle.interval.specs.Values.{nothing, val_join, val_ops}
use Rattle.fixpoint.specs.Members.{contains_first, contains_later}
use Rattle.fixpoint.specs.Reversal.{list_at}
use Rattle.fixpoint.specs.System.{System, element, IsSystem}

-- what the equation of a node says: from each node that it reads the numbers within the part flow, after a step
pub record Rule : Type 0 where
  pub start : Val
  pub part : Itv
  pub step : Itv

abbrev pub flow : Val → Itv → Itv → Val
flow from part step = record { undef = false; itv = (binary_answer Add (meet from.itv part) step).value }

abbrev pub joined : Rule → List Val → Val → ℕ → Val
joined rule table all node = val_join all (flow (element val_ops table node) rule.part rule.step)

abbrev pub value_of : Rule → List ℕ → List Val → Val
value_of rule reads table = fold (joined rule table) rule.start reads

-- a rule for no node
abbrev pub unused : Rule
unused = record { start = nothing; part = numbers; step = numbers }

abbrev pub rule_at : List Rule → ℕ → Rule
rule_at rules k = slice_index_or rules k unused

-- the system of rules and of what each reads
abbrev pub system_of : List Rule → List (List ℕ) → System Val
system_of rules reads = record {
  nodes = length rules;
  reads = list_at reads;
  shape = λ _. 0;
  value = λ k table. value_of (rule_at rules k) (list_at reads k) table;
}

-- the lists have members below a number
abbrev pub AreListsBelow : ℕ → List (List ℕ) → Type 0
AreListsBelow nodes lists = (k r : ℕ) → k < length lists → Contains (list_at lists k) r → r < nodes

-- tables that agree at the nodes of a list have one join there
joined_same : (rule : Rule) (t u : List Val) (start : Val) (nodes : List ℕ)
    → ((r : ℕ) → Contains nodes r → element val_ops t r ≡ element val_ops u r)
    → fold (joined rule t) start nodes ≡ fold (joined rule u) start nodes
joined_same rule t u start [] agree = refl
joined_same rule t u start (node ∷ rest) agree =
    joined_same rule t u (joined rule t start node) rest (λ r at. agree r (contains_later node r rest at))
    ∙ ap (λ (v : Val). fold (joined rule u) (val_join start (flow v rule.part rule.step)) rest) (agree node (contains_first node rest))

pub is_system : (rules : List Rule) (reads : List (List ℕ)) → length reads ≡ length rules → AreListsBelow (length rules) reads
    → IsSystem val_ops (system_of rules reads)
is_system rules reads as_many below = record {
  reads_nodes = λ k r inside at. below k r (subst (λ (n : ℕ). k < n) (sym as_many) inside) at;
  shapes = λ _ _ _ _. refl;
  local = λ k t u _ _ _ agree. joined_same (rule_at rules k) t u (rule_at rules k).start (list_at reads k) agree;
}
