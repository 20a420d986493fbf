-- Numbers that are bytes: of a checksum, and of a frame.
use Rattle.std.proofs.Common.{◌≡◌, ℕ, zero, suc, ◌*◌, ◌/◌, ◌%◌, ◌<◌, true, leb, ltb, List, [], ◌∷◌, ◌++◌, arith, lit<}
use lib.Bits.{xor_lt}
use Rattle.std.specs.List.{All, list_all}
use Rattle.std.proofs.lemmas.Bool.{and_parts, cond_both, leb-false, ltb-true}
use Rattle.wire.specs.Checksum.{crc, crc_bit, crc_bits, crc_byte, crc_from}
use Rattle.rules.specs.Words.{Each}
use Rattle.rules.specs.Arrival.{InByte}
use Rattle.rules.proofs.Receipt.{each_snoc}

-- the checksum of bytes has 16 bits
crc_bit_lt : (r : ℕ) → r < 0x10000 → crc_bit r < 0x10000
crc_bit_lt r h =
    cond_both (leb 0x8000 r) _ _ (λ x. x < 0x10000)
    (λ e. xor_lt 16 ((r * 2) % 0x10000) 0x1021 (omega arith) (lit< tt))
    (λ e. omega (arith, leb-false 0x8000 r e))

crc_bits_lt : (n r : ℕ) → r < 0x10000 → crc_bits n r < 0x10000
unfolding crc_bits
crc_bits_lt zero r h = h
crc_bits_lt (suc n) r h = crc_bits_lt n (crc_bit r) (crc_bit_lt r h)

crc_from_lt : (r : ℕ) (bs : List ℕ) → r < 0x10000 → Each InByte bs → crc_from r bs < 0x10000
unfolding crc_from crc_byte
crc_from_lt r [] h k = h
crc_from_lt r (b ∷ bs) h k = crc_from_lt (crc_byte r b) bs (crc_bits_lt 8 _ (xor_lt 16 r (b * 0x100) h (omega (arith, k.0)))) k.1

pub high_byte : (core : List ℕ) → Each InByte core → InByte (crc core / 0x100)
unfolding crc
high_byte core h = omega (arith, crc_from_lt 0xFFFF core (lit< tt) h)

-- the frame of a core command of n bytes, but its last byte
abbrev pub frame_front : ℕ → List ℕ → List ℕ
frame_front n core = 0x80 ∷ n ∷ 0 ∷ (core ++ (crc core % 0x100) ∷ [])

pub front_bytes : (core : List ℕ) (n : ℕ) → InByte n → Each InByte core → Each InByte (frame_front n core)
front_bytes core n h k = (lit< tt, (h, (lit< tt, each_snoc core (crc core % 0x100) k (omega arith))))

-- bytes by a test, and by std's word
pub bytes_by : (bs : List ℕ) → list_all (λ b. ltb b 0x100) bs ≡ true → Each InByte bs
bytes_by [] h = tt
bytes_by (b ∷ bs) h = let p = and_parts (ltb b 0x100) (list_all (λ x. ltb x 0x100) bs) h in (ltb-true b 0x100 p.0, bytes_by bs p.1)

pub bytes_from : (bs : List ℕ) → All InByte bs → Each InByte bs
bytes_from [] h = tt
bytes_from (b ∷ bs) h = (h 0 b (omega arith), bytes_from bs (λ k d l. h (suc k) d (omega arith)))
