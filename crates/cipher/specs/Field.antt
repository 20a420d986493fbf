-- The field of AES (FIPS 197, section 4), and how the S-box comes from it. A byte is a polynomial: bit i goes with the power i.
use Rattle.std.specs.Prelude.{◌≡◌, ℕ, zero, suc, ◌+◌, ◌*◌, ◌/◌, ◌%◌, ◌^◌, ◌<◌, ◌⊎◌, bit_xor}

-- the product with x, that is 2, modulo x^8 + x^4 + x^3 + x + 1 (4.2.1)
abbrev pub xtime : ℕ → ℕ
xtime b = bit_xor (b * 2 % 256) (b / 128 * 0x1b)

-- the product of b with the last n bits of c
abbrev pub product_of : ℕ → ℕ → ℕ → ℕ
product_of zero b c = 0
product_of (suc n) b c = bit_xor (c % 2 * b) (product_of n (xtime b) (c / 2))

-- the product of two bytes (4.2)
unfoldable pub product : ℕ → ℕ → ℕ
product b c = product_of 8 b c

-- bit i of a byte
abbrev pub bit : ℕ → ℕ → ℕ
bit b i = b / 2 ^ i % 2

-- bit i of the affine transformation (5.1.1)
abbrev pub affine_bit : ℕ → ℕ → ℕ
affine_bit b i = (bit b i + bit b ((i + 4) % 8) + bit b ((i + 5) % 8) + bit b ((i + 6) % 8) + bit b ((i + 7) % 8) + bit 0x63 i) % 2

-- the last n bits of the affine transformation
abbrev pub affine_of : ℕ → ℕ → ℕ
affine_of zero b = 0
affine_of (suc n) b = affine_bit b n * 2 ^ n + affine_of n b

-- the affine transformation of a byte
unfoldable pub affine : ℕ → ℕ
affine b = affine_of 8 b

-- c is the inverse of b, or both are 0
abbrev pub Inverse : ℕ → ℕ → Type 0
Inverse b c = ((b ≡ 0) × (c ≡ 0)) ⊎ (product b c ≡ 1)

-- s is the affine transformation of the inverse of b
abbrev pub AffineInverse : ℕ → ℕ → Type 0
AffineInverse b s = (c : ℕ) × (c < 256) × Inverse b c × (s ≡ affine c)
