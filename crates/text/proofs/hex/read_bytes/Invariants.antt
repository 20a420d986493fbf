-- The bytes so far, and what the rest of the digits says, make what all of them say.
use Rattle.std.proofs.Common.{◌≡◌, ◌*◌, length, take, drop}
use Rattle.text.specs.Hex.{hex_read}
use Rattle.text.proofs.HexReads.{behind}
use Rattle.text.proofs.hex.read_bytes.Given as goal

abbrev pub invariant-loop-i : goal.invariant-loop-i
invariant-loop-i l = (length l.bytes ≡ length l.initial.bytes) × (behind (take l.i l.bytes) (hex_read (drop (2 * l.i) l.text)) ≡ hex_read l.text)
