-- The checksum, bit by bit: CRC-CCITT, polynomial 0x1021, start 0xFFFF, top bit first, nothing added at the end.
use Rattle.std.specs.Prelude.{◌≡◌, ℕ, zero, suc, ◌*◌, ◌%◌, cond, List, [], ◌∷◌, bit_xor, nat_le}

-- One shift of the register of 16 bits: where the top bit falls out, the polynomial is added.
abbrev pub crc_bit : ℕ → ℕ
crc_bit r = cond (nat_le 0x8000 r) (bit_xor ((r * 2) % 0x10000) 0x1021) (r * 2)

-- Some shifts, one after another.
unfoldable pub crc_bits : ℕ → ℕ → ℕ
crc_bits zero r = r
crc_bits (suc n) r = crc_bits n (crc_bit r)

-- The register after one byte more: the byte is added to its top half, and eight shifts follow.
unfoldable pub crc_byte : ℕ → ℕ → ℕ
crc_byte r b = crc_bits 8 (bit_xor r (b * 0x100))

-- The register after all the bytes, the first one first.
unfoldable pub crc_from : ℕ → List ℕ → ℕ
crc_from r [] = r
crc_from r (b ∷ bs) = crc_from (crc_byte r b) bs

-- The checksum of the bytes.
unfoldable pub crc : List ℕ → ℕ
crc bs = crc_from 0xFFFF bs

-- Each list of bytes has the checksum that stands beside it.
abbrev AllAre : List (List ℕ × ℕ) → Type 0
AllAre [] = Unit {0}
AllAre (e ∷ es) = (crc e.0 ≡ e.1) × AllAre es

-- Worked examples.
abbrev pub Examples : Type 0
Examples =
    AllAre
    ((0x15 ∷ [], 0xA364) ∷ (0x19 ∷ [], 0x62E8) ∷ (0x25 ∷ [], 0x9537) ∷ (0x3B ∷ 0x00 ∷ [], 0xC460) ∷ (0x3B ∷ 0x05 ∷ [], 0x94C5) ∷ [])
