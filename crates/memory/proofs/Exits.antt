-- What an answer tells of the checks that made it, and what a `?` hands on.
use Rattle.std.proofs.Common.{◌≡◌, ℕ, Bool, true, false, IsErrAnd, Some, None, Ok, Err, Option, Result, refl, ap, ◌∙◌, arith}
use Rattle.std.specs.Option.{ok_or}
use Rattle.std.proofs.lemmas.Result.{err_from_is_err_and}
use Rattle.fault.specs.Checks.{check}
use Rattle.fault.specs.declared.Fault.{Fault}

-- an error that passes as it is
pub passed_on : {T E : Type 0} (r : Result T E) (d : E) → IsErrAnd r (λ y. y ≡ d) → r ≡ Err d
passed_on r d h = let p = err_from_is_err_and r h in p.1 ∙ ap Err p.2

pub check_passed : (b : Bool) (f : Fault) → Ok tt ≡ check b f → b ≡ true
check_passed true f e = refl
check_passed false f e = let z : ◌≡◌ {A = ℕ} 0 1 = cc in absurd (omega arith)

pub check_failed : (b : Bool) (f d : Fault) → Err d ≡ check b f → b ≡ false
check_failed true f d e = let z : ◌≡◌ {A = ℕ} 0 1 = cc in absurd (omega arith)
check_failed false f d e = refl

-- the refusal where nothing is found
pub none_found : (o : Option ℕ) (f d : Fault) → Err f ≡ ok_or o d → f ≡ d
none_found None f d e = cc
none_found (Some x) f d e = let z : ◌≡◌ {A = ℕ} 0 1 = cc in absurd (omega arith)
