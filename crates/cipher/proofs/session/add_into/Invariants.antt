use Rattle.std.proofs.Common.{◌≡◌, ◌++◌, take, drop}
use Rattle.cipher.specs.Bytes.{xors}
use Rattle.cipher.proofs.session.add_into.Given as goal

abbrev pub invariant-loop-i : goal.invariant-loop-i
invariant-loop-i l = l.part ≡ xors (take l.i l.initial.part) l.pad ++ drop l.i l.initial.part
