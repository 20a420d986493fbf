-- The product of GHASH from the last bit on, as the code computes it; the proofs say that it is the product.
use Rattle.std.specs.Prelude.{ℕ, zero, suc, ◌/◌, ◌%◌, ◌^◌, Bool, true, false, ◌==◌, bit_xor}
use Rattle.cipher.specs.Ghash.{times_x, v_after}

-- v added where a bit is set
abbrev pub added : Bool → ℕ → ℕ → ℕ
added true z v = bit_xor z v
added false z v = z

-- the product of y with the last n bits of x
unfoldable pub horner : ℕ → ℕ → ℕ → ℕ
horner x y zero = 0
horner x y (suc n) = added (x / 2 ^ n % 2 == 1) (times_x (horner x y n)) y

-- four shifts
abbrev pub times_x4 : ℕ → ℕ
times_x4 v = bit_xor (v / 16) (v_after (v % 16) 4)

-- eight shifts
abbrev pub times_x8 : ℕ → ℕ
times_x8 v = bit_xor (v / 256) (v_after (v % 256) 8)
