-- What is said of the sinks.
use Rattle.std.specs.Prelude.{◌≡◌, ◌⊎◌, ℕ, List, Option}
use Rattle.px_base.specs.Bytes.{Adds, AddsPrefix}
use Rattle.px_base.specs.Faults.{Rose}
use Rattle.syntox.specs.declared.due.Stream.{Stream}
use Rattle.syntox.specs.declared.due.Stream.TheVariants.{Answers, Complaints}
use Rattle.syntox.specs.declared.status.Status.{Status}
use Rattle.syntox.specs.declared.status.Status.TheVariants.{WriteFault}

-- what is told of the bytes that a sink has taken, and its count of faults
pub record Moment : Type 0 where
  pub taken : Option (List ℕ)
  pub faults : ℕ

abbrev pub at : Option (List ℕ) → ℕ → Moment
at taken faults = record { taken = taken; faults = faults }

-- The text that is due went to a sink whole and the status is the one meant, or else the sink failed and took a prefix.
abbrev pub Says : Status → Moment → Moment → List ℕ → Status → Type 0
Says meant before after text status =
    ((status ≡ meant) × Adds before.taken after.taken text)
    ⊎ ((status ≡ WriteFault) × Rose before.faults after.faults × AddsPrefix before.taken after.taken text)

-- the sinks before and after
pub record Sinks : Type 0 where
  pub out_before : Moment
  pub out_after : Moment
  pub err_before : Moment
  pub err_after : Moment

abbrev pub sinks : Moment → Moment → Moment → Moment → Sinks
sinks out_before out_after err_before err_after = record {
  out_before = out_before;
  out_after = out_after;
  err_before = err_before;
  err_after = err_after;
}

-- The text went to the sink that it is due to, and the other sink is as it was.
abbrev pub Delivers : Stream → List ℕ → Status → Sinks → Status → Type 0
Delivers Answers text meant s status = Says meant s.out_before s.out_after text status × (s.err_after ≡ s.err_before)
Delivers Complaints text meant s status = Says meant s.err_before s.err_after text status × (s.out_after ≡ s.out_before)

-- The sink to which nothing is due is as it was, whole: what is said of `out` holds, or what is said of `err`.
abbrev pub Spares : Stream → Type 0 → Type 0 → Type 0
Spares Answers out err = err
Spares Complaints out err = out

-- A sink has taken a text of which this holds.
abbrev pub Takes : Option (List ℕ) → Option (List ℕ) → (List ℕ → Type 0) → Type 0
Takes before after P = (text : List ℕ) × P text × Adds before after text
