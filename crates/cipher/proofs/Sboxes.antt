-- The S-box is the affine image of the inverse in the field: one test that is computed over the whole table.
use Rattle.std.proofs.Common.{◌≡◌, ℕ, zero, suc, ◌+◌, ◌<◌, Bool, true, false, cond, ◌&&◌, eqb, ltb, List, [], ◌∷◌, length, get_or, refl, subst, inl, inr, le_of_suc-le-suc, not-suc-le-zero, arith, eqb-true}
use Rattle.std.proofs.lemmas.Bool.{and_parts, ltb-true}
use Rattle.cipher.specs.Aes.{sbox, sub}
use Rattle.cipher.specs.Field.{product, affine, Inverse, AffineInverse}

-- b to the power 254, which is its inverse, by squares
abbrev power254 : ℕ → ℕ
power254 b =
    let b2 = product b b in
    let b4 = product b2 b2 in
    let b8 = product b4 b4 in
    let b16 = product b8 b8 in
    let b32 = product b16 b16 in
    let b64 = product b32 b32 in
    product (product (product (product (product (product (product b64 b64) b64) b32) b16) b8) b4) b2

-- whether c is the inverse of b, or both are 0
abbrev inverse : ℕ → ℕ → Bool
inverse b c = cond (eqb b 0) (eqb c 0) (eqb (product b c) 1)

abbrev fits : ℕ → ℕ → ℕ → Bool
fits b s c = ltb c 256 && (inverse b c && eqb s (affine c))

-- the bytes of the list, the first of which stands for b, fit
abbrev every : List ℕ → ℕ → Bool
every [] b = true
every (s ∷ ss) b = fits b s (power254 b) && every ss (suc b)

inverse_is : (b c : ℕ) (t : Bool) → eqb b 0 ≡ t → cond t (eqb c 0) (eqb (product b c) 1) ≡ true → Inverse b c
inverse_is b c true e h = inl (eqb-true b 0 e, eqb-true c 0 h)
inverse_is b c false e h = inr (eqb-true (product b c) 1 h)

fits_is : (b s c : ℕ) → fits b s c ≡ true → AffineInverse b s
fits_is b s c h =
    let p = and_parts (ltb c 256) (inverse b c && eqb s (affine c)) h in
    let q = and_parts (inverse b c) (eqb s (affine c)) p.1 in
    (c, ltb-true c 256 p.0, inverse_is b c (eqb b 0) refl q.0, eqb-true s (affine c) q.1)

from : (ss : List ℕ) (b k : ℕ) → every ss b ≡ true → k < length ss → AffineInverse (b + k) (get_or ss k 0)
from [] b k t h = absurd (not-suc-le-zero h)
from (s ∷ ss) b zero t h =
    let z : b ≡ b + 0 = omega arith in
    subst (λ (n : ℕ). AffineInverse n s) z (fits_is b s (power254 b) (and_parts (fits b s (power254 b)) (every ss (suc b)) t).0)
from (s ∷ ss) b (suc k) t h =
    let z : suc b + k ≡ b + suc k = omega arith in
    subst (λ (n : ℕ). AffineInverse n (get_or ss k 0)) z
    (from ss (suc b) k (and_parts (fits b s (power254 b)) (every ss (suc b)) t).1 (le_of_suc-le-suc h))

computed : (every sbox 0 ≡ true) × (length sbox ≡ 256)
unfolding sbox product affine
computed = (refl, refl)

pub sbox_affine : (b : ℕ) → b < 256 → AffineInverse b (sub b)
sbox_affine b h =
    let z : 0 + b ≡ b = omega arith in
    let l : b < length sbox = omega (arith, computed.1) in
    subst (λ (n : ℕ). AffineInverse n (sub b)) z (from sbox 0 b computed.0 l)
