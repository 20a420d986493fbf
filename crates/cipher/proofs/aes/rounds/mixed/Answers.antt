use Rattle.std.proofs.Common.{◌≡◌, ℕ, ◌<◌, sym, ap, ◌∙◌, ap₂, rules}
use lib.Bits.{bit_xor, xor_assoc, xor_comm, xor_lt}
use Rattle.cipher.specs.Bytes.{xors, word_bytes}
use Rattle.cipher.specs.Words.{cons4, word_bytes_xor, rotated8}
use Rattle.cipher.specs.Aes.{sub, triple, xor4, first_term, third_term}
use Rattle.cipher.specs.Field.{xtime}
use Rattle.cipher.proofs.aes.rounds.mixed.Goals as goal

-- the sum of four bytes, the first and third added before the others
in_pairs : (a b c d : ℕ) → bit_xor (bit_xor a c) (bit_xor b d) ≡ xor4 a b c d
in_pairs a b c d =
    xor_assoc a c (bit_xor b d)
    ∙ ap (bit_xor a) (sym (xor_assoc c b d) ∙ ap (λ n. bit_xor n d) (xor_comm c b) ∙ xor_assoc b c d)
    ∙ sym (xor_assoc a b (bit_xor c d))
    ∙ sym (xor_assoc (bit_xor a b) c d)

pub returns : goal.returns
returns c =
    let p = bit_xor c.term.result c.third_term.result in
    let q = bit_xor c.term-2.result c.third_term-2.result in
    let sa = sub c.args.a in
    let sb = sub c.args.b in
    let sc = sub c.args.c in
    let sd = sub c.args.d in
    let ep : word_bytes p ≡ xors (first_term sa) (third_term sc) = word_bytes_xor _ _ ∙ ap₂ xors c.term.ensures c.third_term.ensures in
    let eq : word_bytes q ≡ xors (first_term sb) (third_term sd) = word_bytes_xor _ _ ∙ ap₂ xors c.term-2.ensures c.third_term-2.ensures in
    let fits : q < 4294967296 = xor_lt 32 c.term-2.result c.third_term-2.result (search rules) (search rules) in
    let er =
    ap word_bytes c.rotate_right.ensures
    ∙ rotated8 q (bit_xor (xtime sb) sd) (bit_xor sb (triple sd)) (bit_xor sb (xtime sd)) (bit_xor (triple sb) sd) fits eq in
    word_bytes_xor p c.rotate_right.result ∙ ap₂ xors ep er
    ∙ cons4 (in_pairs (xtime sa) (triple sb) sc sd) (in_pairs sa (xtime sb) (triple sc) sd) (in_pairs sa sb (xtime sc) (triple sd)) (in_pairs (triple sa) sb sc (xtime sd))
