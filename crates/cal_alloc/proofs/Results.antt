-- Facts of the value that a result has.
use Rattle.std.proofs.Common.{◌≡◌, Option, Some, Result, Ok, Err, IfOk, sym}
use Rattle.std.specs.Result.{result_ok}

-- what holds of the value that is expected holds of the value that is there
pub IfOk-by : {T E : Type 0} (result : Result T E) (value : Option T) (P : T → Type 0) → result_ok result ≡ value →
    ((x : T) → value ≡ Some x → P x) → IfOk result P
IfOk-by (Ok x) value P e holds = holds x (sym e)
IfOk-by (Err x) value P e holds = tt
