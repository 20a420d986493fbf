-- As many of the turns so far as would be of all.
use Rattle.std.proofs.Common.{◌≡◌, ◌≤◌, cond, is_some}
use Rattle.cipher.specs.Cipher.{opened_to}
use Rattle.speed.proofs.opening.opens.Given as goal

abbrev pub invariant-loop : goal.invariant-loop
invariant-loop g l = (l.count ≡ cond (is_some (opened_to g.C.PacketCipher.cipher l.key l.iv l.body)) l.counter 0) × (l.count ≤ l.counter)
