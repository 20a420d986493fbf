use Rattle.std.proofs.Common.{◌≡◌, ◌+◌, length}
use Rattle.cipher.specs.Aes.{round_key}
use Rattle.cipher.specs.Columns.{flat, Schedule}
use Rattle.cipher.proofs.aes.expanded.Given as goal

abbrev pub invariant-loop-i : goal.invariant-loop-i
invariant-loop-i l = (flat l.k ≡ round_key l.key l.i) × (length l.keys ≡ 11) × Schedule l.key l.keys (l.i + 1)
