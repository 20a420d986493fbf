use Rattle.std.proofs.Common.{◌≡◌, ◌+◌, ◌*◌, ◌<◌, length, drop}
use Rattle.cipher.specs.Blocks.{chain}
use Rattle.cipher.specs.Ghash.{hash_step}
use Rattle.cipher.proofs.gcm.ghash.Factor.ghash.Given as goal

abbrev pub invariant-loop-part : goal.invariant-loop-part
invariant-loop-part l =
    (l.y ≡ chain (hash_step l.self.value) 0 l.data (length l.yielded))
    × (l.part-iterator.size ≡ 16) × (l.part-iterator.rest.now ≡ drop (16 * length l.yielded) l.data) × (16 * length l.yielded < length l.data + 16)
