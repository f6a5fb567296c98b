-- The error that `?` returns.
use Rattle.std.proofs.Common.{◌≡◌, Result, Ok, Err, ap}
use Rattle.std.specs.Result.{IsErrAnd}

pub same_error : {A E : Type 0} (r : Result A E) (e : E) → IsErrAnd r (λ y. y ≡ e) → r ≡ Err e
same_error (Ok x) e is = absurd is
same_error (Err y) e is = ap Err is
