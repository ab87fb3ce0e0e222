-- What a list of types rests on when one is added.
use Rattle.std.proofs.Common.{◌≡◌, true, List, [], ◌∷◌, ◌++◌, length, sym, subst, Ok, Err, Result}
use Rattle.std.specs.Result.{OnOk, OnErr}
use Rattle.pas_program.specs.declared.type_def.TypeDef.{TypeDef}
use Rattle.pas_program.specs.Types.{TypesFit, type_fits}
use Rattle.pas_program.proofs.Layouts.{types_fit_push}

pub pushed_fits : {T E : Type 0} (r : Result T E) (old new : List TypeDef) (d : TypeDef) → TypesFit old → type_fits old (length old) d ≡ true → OnOk r (new ≡ old ++ d ∷ []) → OnErr r (new ≡ old) → TypesFit new
pushed_fits (Ok x) old new d fits h ok err = subst TypesFit (sym ok) (types_fit_push old d fits h)
pushed_fits (Err e) old new d fits h ok err = subst TypesFit (sym err) fits
