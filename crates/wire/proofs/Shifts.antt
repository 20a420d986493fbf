-- Shifts of the checksum's register are linear over xor, so its two bytes can be shifted apart.
use Rattle.std.proofs.Common.{◌≡◌, ℕ, zero, suc, ◌+◌, ◌*◌, ◌/◌, ◌%◌, ◌<◌, leb, sym, refl, ap, ◌∙◌, subst, ap₂, arith}
use lib.Bits.{bit_xor, xor_assoc, xor_block, xor_comm, xor_lt, xor_mod, xor_shifted, xor_shr, xor_zero_r}
use Rattle.std.proofs.lemmas.List.FromFn.{get_or-map-range_with_len}
use Rattle.std.proofs.lemmas.Bool.{cond_both, leb-true, leb-false}
use Rattle.wire.specs.Checksum.{crc_bit, crc_bits, crc_byte}

-- a shift with no test: the top bit counts how often the polynomial is added
abbrev shift : ℕ → ℕ
shift a = bit_xor ((a * 2) % 0x10000) (a / 0x8000 % 2 * 0x1021)

-- it is the shift of a register of 16 bits
crc_bit_is : (a : ℕ) → a < 0x10000 → crc_bit a ≡ shift a
crc_bit_is a h =
    cond_both (leb 0x8000 a) _ _ (λ x. x ≡ shift a)
    (λ e. let one : a / 0x8000 % 2 ≡ 1 = omega (arith, leb-true 0x8000 a e) in ap (λ n. bit_xor ((a * 2) % 0x10000) (n * 0x1021)) (sym one))
    (λ e.
    let below : a < 0x8000 = leb-false 0x8000 a e in
    let none : a / 0x8000 % 2 ≡ 0 = omega arith in
    let whole : (a * 2) % 0x10000 ≡ a * 2 = omega arith in
    sym (ap₂ (λ m n. bit_xor m (n * 0x1021)) whole none ∙ xor_zero_r (a * 2)))

-- the register keeps its 16 bits
shift_lt : (a : ℕ) → shift a < 0x10000
shift_lt a = xor_lt 16 ((a * 2) % 0x10000) (a / 0x8000 % 2 * 0x1021) (omega arith) (omega arith)

crc_bit_lt : (a : ℕ) → a < 0x10000 → crc_bit a < 0x10000
crc_bit_lt a h = subst (λ n. n < 0x10000) (sym (crc_bit_is a h)) (shift_lt a)

-- the polynomial added for two top bits
bit_times : (a b : ℕ) → a < 2 → b < 2 → bit_xor a b * 0x1021 ≡ bit_xor (a * 0x1021) (b * 0x1021)
bit_times zero b p q = refl
bit_times (suc zero) zero p q = refl
bit_times (suc zero) (suc zero) p q = refl
bit_times (suc zero) (suc (suc b)) p q = absurd (omega arith)
bit_times (suc (suc a)) b p q = absurd (omega arith)

twice_xor : (a b : ℕ) → bit_xor a b * 2 ≡ bit_xor (a * 2) (b * 2)
twice_xor a b =
    let u : bit_xor a b * 2 ≡ bit_xor a b * 2 + 0 = omega arith in
    let v : a * 2 + 0 ≡ a * 2 = omega arith in
    let w : b * 2 + 0 ≡ b * 2 = omega arith in
    u ∙ sym (xor_block 1 a b 0 0 (omega arith) (omega arith)) ∙ ap₂ bit_xor v w

swap_middle : (a b c d : ℕ) → bit_xor (bit_xor a b) (bit_xor c d) ≡ bit_xor (bit_xor a c) (bit_xor b d)
swap_middle a b c d =
    xor_assoc a b (bit_xor c d)
    ∙ ap (bit_xor a) (sym (xor_assoc b c d) ∙ ap (λ n. bit_xor n d) (xor_comm b c) ∙ xor_assoc c b d)
    ∙ sym (xor_assoc a c (bit_xor b d))

-- one shift, and then some, of two registers added
shift_xor : (a b : ℕ) → shift (bit_xor a b) ≡ bit_xor (shift a) (shift b)
shift_xor a b =
    let low : (bit_xor a b * 2) % 0x10000 ≡ bit_xor ((a * 2) % 0x10000) ((b * 2) % 0x10000) = ap (λ n. n % 0x10000) (twice_xor a b) ∙ xor_mod (a * 2) (b * 2) 16 in
    let top : bit_xor a b / 0x8000 % 2 ≡ bit_xor (a / 0x8000 % 2) (b / 0x8000 % 2) = ap (λ n. n % 2) (xor_shr a b 15) ∙ xor_mod (a / 0x8000) (b / 0x8000) 1 in
    ap₂ (λ m n. bit_xor m (n * 0x1021)) low top
    ∙ ap (bit_xor _) (bit_times (a / 0x8000 % 2) (b / 0x8000 % 2) (omega arith) (omega arith))
    ∙ swap_middle ((a * 2) % 0x10000) ((b * 2) % 0x10000) (a / 0x8000 % 2 * 0x1021) (b / 0x8000 % 2 * 0x1021)

crc_bit_xor : (a b : ℕ) → a < 0x10000 → b < 0x10000 → crc_bit (bit_xor a b) ≡ bit_xor (crc_bit a) (crc_bit b)
crc_bit_xor a b p q = crc_bit_is (bit_xor a b) (xor_lt 16 a b p q) ∙ shift_xor a b ∙ sym (ap₂ bit_xor (crc_bit_is a p) (crc_bit_is b q))

crc_bits_xor : (n a b : ℕ) → a < 0x10000 → b < 0x10000 → crc_bits n (bit_xor a b) ≡ bit_xor (crc_bits n a) (crc_bits n b)
unfolding crc_bits
crc_bits_xor zero a b p q = refl
crc_bits_xor (suc n) a b p q = ap (crc_bits n) (crc_bit_xor a b p q) ∙ crc_bits_xor n (crc_bit a) (crc_bit b) (crc_bit_lt a p) (crc_bit_lt b q)

-- out of a byte in the low half no bit falls
crc_bits_low : (a : ℕ) → a < 0x100 → crc_bits 8 a ≡ a * 0x100
unfolding crc_bits
crc_bits_low a h =
    let e : 0 + a ≡ a = omega arith in
    sym (get_or-map-range_with_len (crc_bits 8) 0 0x100 a a 0 h e) ∙ get_or-map-range_with_len (λ i. i * 0x100) 0 0x100 a a 0 h e

-- the top half and a byte make an index of the table
pub top_lt : (r b : ℕ) → r < 0x10000 → b < 0x100 → bit_xor (r / 0x100) b < 0x100
top_lt r b p q = xor_lt 8 (r / 0x100) b (omega arith) q

-- the byte meets the top half, where a table has what eight shifts make of it; the low half moves up
pub crc_byte_is : (r b : ℕ) → r < 0x10000 → b < 0x100 → crc_byte r b ≡ bit_xor ((r * 0x100) % 0x10000) (crc_bits 8 (bit_xor (r / 0x100) b * 0x100))
unfolding crc_byte
crc_byte_is r b p q =
    let top = bit_xor (r / 0x100) b in
    let low = r % 0x100 in
    let under : top < 0x100 = top_lt r b p q in
    let parts : r ≡ r / 0x100 * 0x100 + low = omega arith in
    let whole : b * 0x100 ≡ b * 0x100 + 0 = omega arith in
    let moved : low * 0x100 ≡ (r * 0x100) % 0x10000 = omega arith in
    let met : bit_xor r (b * 0x100) ≡ bit_xor (top * 0x100) low =
    ap₂ bit_xor parts whole ∙ xor_block 8 (r / 0x100) b low 0 (omega arith) (omega arith)
    ∙ ap (λ n. top * 0x100 + n) (xor_zero_r low) ∙ sym (xor_shifted top 8 low (omega arith)) in
    ap (crc_bits 8) met ∙ crc_bits_xor 8 (top * 0x100) low (omega arith) (omega arith)
    ∙ ap (bit_xor (crc_bits 8 (top * 0x100))) (crc_bits_low low (omega arith) ∙ moved)
    ∙ xor_comm (crc_bits 8 (top * 0x100)) ((r * 0x100) % 0x10000)
