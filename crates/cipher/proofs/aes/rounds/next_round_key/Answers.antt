use Rattle.std.proofs.Common.{ap, ◌∙◌}
use lib.Bits.{bit_xor}
use Rattle.cipher.specs.Bytes.{xors, word_bytes}
use Rattle.cipher.specs.Words.{word_bytes_xor}
use Rattle.cipher.proofs.Flats.{join4}
use Rattle.cipher.proofs.aes.rounds.next_round_key.Goals as goal

pub returns : goal.returns
returns c =
    let k = c.args.k in
    let t = c.turned.result in
    let a = bit_xor k.a t in
    let b = bit_xor k.b a in
    let d = bit_xor k.c b in
    let ea = word_bytes_xor k.a t ∙ ap (xors (word_bytes k.a)) c.turned.ensures in
    let eb = word_bytes_xor k.b a ∙ ap (xors (word_bytes k.b)) ea in
    let ec = word_bytes_xor k.c b ∙ ap (xors (word_bytes k.c)) eb in
    join4 ea eb ec (word_bytes_xor k.d d ∙ ap (xors (word_bytes k.d)) ec)
