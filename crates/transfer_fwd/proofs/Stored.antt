-- What a store leaves of an environment.
use Rattle.std.proofs.Common.{◌≡◌, Bool, true, false, refl, sym}
use Rattle.std.specs.Prelude.{if◌then◌else◌}
use Rattle.std.proofs.lemmas.Bool.{false≢true}
use Rattle.alias_class.specs.declared.bind.Bind.{Bind}
use Rattle.interval.specs.declared.val.Val.{Val}
use Rattle.environment.specs.Environments.{Environment, is_reachable}
use Rattle.environment.specs.Environments.Environment.{Reachable, Unreachable}
use Rattle.transfer_fwd.specs.Actions.{stored}

either : {A : Type 0} (b : Bool) (x : A) → x ≡ (if b then x else x)
either true x = refl
either false x = refl

-- an environment that is not reached stays so
pub stored_unreached : (to : Bind) (v : Val) (env : Environment) → is_reachable env ≡ false → env ≡ stored to v env
stored_unreached to v (Unreachable n) e = either to.whole (Unreachable n)
stored_unreached to v (Reachable vs) e = absurd (false≢true (sym e))
