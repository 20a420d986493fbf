-- The bytes so far, and what the rest of the digits says, make what all of them say.
use Rattle.std.proofs.Common.{◌≡◌, ◌*◌, drop, vec_items}
use Rattle.text.specs.Hex.{hex_read}
use Rattle.text.proofs.HexReads.{behind}
use Rattle.text.proofs.hex.hex_bytes.Given as goal

abbrev pub invariant-loop-high : goal.invariant-loop-high
invariant-loop-high l = behind (vec_items l.bytes) (hex_read (drop (2 * l.high-index) l.text)) ≡ hex_read l.text
