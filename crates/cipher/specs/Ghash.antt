-- The field of GCM, and GHASH over it (SP 800-38D, section 6): a block is a number whose top bit is the block's first bit.
use Rattle.std.specs.Prelude.{ℕ, zero, suc, ◌+◌, ◌-◌, ◌*◌, ◌/◌, ◌%◌, ◌^◌, cond, List, [], ◌∷◌, length, ◌==◌, bit_xor, slice_index}
use Rattle.cipher.specs.Blocks.{blocks, chain}

-- the number of a block of 16 bytes, the first on top
abbrev pub number : List ℕ → ℕ
number b =
    slice_index b 0 * 2 ^ 120 + slice_index b 1 * 2 ^ 112 + slice_index b 2 * 2 ^ 104 + slice_index b 3 * 2 ^ 96
    + slice_index b 4 * 2 ^ 88 + slice_index b 5 * 2 ^ 80 + slice_index b 6 * 2 ^ 72 + slice_index b 7 * 2 ^ 64
    + slice_index b 8 * 2 ^ 56 + slice_index b 9 * 2 ^ 48 + slice_index b 10 * 2 ^ 40 + slice_index b 11 * 2 ^ 32
    + slice_index b 12 * 2 ^ 24 + slice_index b 13 * 2 ^ 16 + slice_index b 14 * 2 ^ 8 + slice_index b 15

-- the bytes of such a number
abbrev pub block_bytes : ℕ → List ℕ
block_bytes n =
    (n / 2 ^ 120 % 256) ∷ (n / 2 ^ 112 % 256) ∷ (n / 2 ^ 104 % 256) ∷ (n / 2 ^ 96 % 256) ∷
    (n / 2 ^ 88 % 256) ∷ (n / 2 ^ 80 % 256) ∷ (n / 2 ^ 72 % 256) ∷ (n / 2 ^ 64 % 256) ∷
    (n / 2 ^ 56 % 256) ∷ (n / 2 ^ 48 % 256) ∷ (n / 2 ^ 40 % 256) ∷ (n / 2 ^ 32 % 256) ∷
    (n / 2 ^ 24 % 256) ∷ (n / 2 ^ 16 % 256) ∷ (n / 2 ^ 8 % 256) ∷ (n % 256) ∷ []

-- the product with x: a shift by one bit, and R added where a 1 falls out (6.3)
abbrev pub times_x : ℕ → ℕ
times_x v = bit_xor (v / 2) (v % 2 * 0xe1000000000000000000000000000000)

-- V after i steps of the multiplication with y (algorithm 1)
unfoldable pub v_after : ℕ → ℕ → ℕ
v_after y zero = y
v_after y (suc i) = times_x (v_after y i)

-- Z after i steps of the multiplication of x and y (algorithm 1)
unfoldable pub z_after : ℕ → ℕ → ℕ → ℕ
z_after x y zero = 0
z_after x y (suc i) = cond (x / 2 ^ (127 - i) % 2 == 1) (bit_xor (z_after x y i) (v_after y i)) (z_after x y i)

-- the product of two blocks (algorithm 1)
unfoldable pub times : ℕ → ℕ → ℕ
times x y = z_after x y 128

-- one block more of GHASH (algorithm 2)
abbrev pub hash_step : ℕ → ℕ → List ℕ → ℕ
hash_step h y b = times (bit_xor y (number b)) h

-- GHASH of no associated data, of xs, and of the block with both lengths in bits
abbrev pub ghash : ℕ → List ℕ → ℕ
ghash h xs = times (bit_xor (chain (hash_step h) 0 xs (blocks (length xs))) (length xs * 8)) h
