-- What the exits of a chain of checks tell.
use Rattle.std.proofs.Common.{◌≡◌, Ok, Err, Result, refl, ap, ◌∙◌}
use Rattle.fault.specs.Checks.{then}
use Rattle.fault.specs.declared.Fault.{Fault}

-- a check with a value behind it
module _ {X : Type 0} where
  pub then_failed : (v : Result (Unit {0}) Fault) (x : X) (d : Fault) → Err d ≡ then v (Ok x) → v ≡ Err d
  then_failed (Ok u) x d e = cc
  then_failed (Err f) x d e = cc

  pub then_passed : (v : Result (Unit {0}) Fault) (x y : X) → Ok y ≡ then v (Ok x) → v ≡ Ok tt
  then_passed (Ok u) x y e = refl
  then_passed (Err f) x y e = cc

  pub then_value : (v : Result (Unit {0}) Fault) (x y : X) → Ok y ≡ then v (Ok x) → y ≡ x
  then_value (Ok u) x y e = cc
  then_value (Err f) x y e = cc

-- three checks with a value behind them, exit by exit
module _ {X : Type 0} (u v w : Result (Unit {0}) Fault) (x : X) where
  pub failed_first : (d : Fault) → Err d ≡ u → Err d ≡ then u (then v (then w (Ok x)))
  failed_first d a = ap (λ i. then i (then v (then w (Ok x)))) a

  pub failed_second : (d : Fault) → Ok tt ≡ u → Err d ≡ v → Err d ≡ then u (then v (then w (Ok x)))
  failed_second d a b = ap (λ i. then i (then w (Ok x))) b ∙ ap (λ i. then i (then v (then w (Ok x)))) a

  pub failed_third : (d : Fault) → Ok tt ≡ u → Ok tt ≡ v → Err d ≡ w → Err d ≡ then u (then v (then w (Ok x)))
  failed_third d a b e = ap (λ i. then i (Ok x)) e ∙ ap (λ i. then i (then w (Ok x))) b ∙ ap (λ i. then i (then v (then w (Ok x)))) a

  pub all_passed : Ok tt ≡ u → Ok tt ≡ v → Ok tt ≡ w → Ok x ≡ then u (then v (then w (Ok x)))
  all_passed a b e = ap (λ i. then i (Ok x)) e ∙ ap (λ i. then i (then w (Ok x))) b ∙ ap (λ i. then i (then v (then w (Ok x)))) a
