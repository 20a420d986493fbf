use Rattle.cipher.specs.Words.{word_bytes_xor}
use Rattle.cipher.proofs.Flats.{join4}
use Rattle.cipher.proofs.aes.columns.ColumnsBitXor.bitxor.Goals as goal

pub returns : goal.returns
returns c =
    let s = c.args.self in
    let k = c.args.k in
    join4 (word_bytes_xor s.a k.a) (word_bytes_xor s.b k.b) (word_bytes_xor s.c k.c) (word_bytes_xor s.d k.d)
