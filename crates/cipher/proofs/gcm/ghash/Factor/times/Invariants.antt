use Rattle.std.proofs.Common.{◌≡◌, ◌*◌}
use Rattle.cipher.specs.Horner.{horner}
use Rattle.cipher.proofs.gcm.ghash.Factor.times.Given as goal

abbrev pub invariant-loop-b : goal.invariant-loop-b
invariant-loop-b l = l.w ≡ horner l.x l.self.value (8 * l.b-index)
