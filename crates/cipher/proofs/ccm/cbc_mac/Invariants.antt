use Rattle.std.proofs.Common.{◌≡◌, ◌+◌, ◌*◌, ◌<◌, length, drop}
use Rattle.cipher.specs.Bytes.{xors}
use Rattle.cipher.specs.Blocks.{chain}
use Rattle.cipher.proofs.ccm.cbc_mac.Given as goal

abbrev pub invariant-loop-part : goal.invariant-loop-part
invariant-loop-part g l =
    let E = g.B.BlockCipher.block l.session.key in
    (length l.x ≡ 16) × (l.x ≡ chain (λ x b. E (xors x b)) (E l.first) l.data (length l.yielded))
    × (l.part-iterator.size ≡ 16) × (l.part-iterator.rest.now ≡ drop (16 * length l.yielded) l.data) × (16 * length l.yielded < length l.data + 16)
