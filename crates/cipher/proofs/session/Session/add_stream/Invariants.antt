use Rattle.std.proofs.Common.{◌≡◌, ◌*◌, ◌++◌, take, drop}
use Rattle.cipher.specs.Blocks.{stream, counter}
use Rattle.cipher.specs.Sealing.{xor_from}
use Rattle.cipher.proofs.session.Session.add_stream.Given as goal

abbrev pub invariant-loop-i : goal.invariant-loop-i
invariant-loop-i g l =
    let s = stream (λ n. g.B.BlockCipher.block l.self.key (counter l.self.iv n)) l.first in
    l.data ≡ xor_from s 0 (take (16 * l.i) l.initial.data) ++ drop (16 * l.i) l.initial.data
