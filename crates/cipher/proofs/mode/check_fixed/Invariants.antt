use Rattle.std.proofs.Common.{◌≡◌, drop}
use Rattle.cipher.specs.Sealing.{has_fixed, first_unfixed}
use Rattle.cipher.proofs.mode.check_fixed.Given as goal

abbrev pub invariant-loop-place : goal.invariant-loop-place
invariant-loop-place l =
    (has_fixed (drop l.place-index l.fixed) l.iv ≡ has_fixed l.fixed l.iv) × (first_unfixed (drop l.place-index l.fixed) l.iv ≡ first_unfixed l.fixed l.iv)
