use Rattle.std.proofs.Common.{◌≡◌, eqb, length, take}
use Rattle.cipher.specs.Sealing.{same}
use Rattle.cipher.proofs.mode.same_tag.Given as goal

abbrev pub invariant-loop-x : goal.invariant-loop-x
invariant-loop-x l = eqb l.difference 0 ≡ same (take (length l.yielded) l.a) (take (length l.yielded) l.b)
