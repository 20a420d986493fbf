-- Lemmas on lists of bytes, and on the bytes of words.
use Rattle.std.specs.Prelude.{◌≡◌, ℕ, ◌+◌, ◌*◌, ◌/◌, ◌%◌, ◌^◌, ◌<◌, min, List, [], ◌∷◌, length, bit_or, bit_xor}
use Rattle.std.proofs.Common.{sym, ap, ap₂, ◌∙◌, arith}
use Rattle.std.specs.Int.Bits.{or_shifted_r}
use Rattle.std.proofs.lemmas.Nat.{shr-shr, div-add-mod', xor_shr, xor_mod}
use Rattle.cipher.specs.Bytes.{xors, word_bytes}

-- the exclusive or of two lists is as long as the shorter
pub length_xors : (xs ys : List ℕ) → length (xors xs ys) ≡ min (length xs) (length ys)
length_xors [] ys = omega arith
length_xors (x ∷ xs) [] = omega arith
length_xors (x ∷ xs) (y ∷ ys) = omega (arith, length_xors xs ys)

-- the bytes of the exclusive or of two words are the exclusive or of their bytes
byte_xor : (x y k : ℕ) → bit_xor x y / 2 ^ k % 2 ^ 8 ≡ bit_xor (x / 2 ^ k % 2 ^ 8) (y / 2 ^ k % 2 ^ 8)
byte_xor x y k = ap (λ n. n % 2 ^ 8) (xor_shr x y k) ∙ xor_mod (x / 2 ^ k) (y / 2 ^ k) 8

pub cons4 : {a b c d a' b' c' d' : ℕ} → a ≡ a' → b ≡ b' → c ≡ c' → d ≡ d' → ◌≡◌ {A = List ℕ} (a ∷ b ∷ c ∷ d ∷ []) (a' ∷ b' ∷ c' ∷ d' ∷ [])
cons4 p q r s = cc

pub word_bytes_xor : (x y : ℕ) → word_bytes (bit_xor x y) ≡ xors (word_bytes x) (word_bytes y)
word_bytes_xor x y = cons4 (byte_xor x y 24) (byte_xor x y 16) (byte_xor x y 8) (xor_mod x y 8)

-- the bytes of the word that four bytes make are these four
pub word_bytes_of : (a b c d : ℕ) → a < 256 → b < 256 → c < 256 → d < 256
    → word_bytes (a * 16777216 + b * 65536 + c * 256 + d) ≡ a ∷ b ∷ c ∷ d ∷ []
word_bytes_of a b c d p q r s = cons4 (omega arith) (omega arith) (omega arith) (omega arith)

-- the word that four bytes make, put together byte by byte
sums : (x y z w a b c d : ℕ) → w ≡ x * 256 + d → x ≡ y * 256 + c → y ≡ z * 256 + b → z ≡ a → w ≡ a * 16777216 + b * 65536 + c * 256 + d
sums x y z w a b c d p q r s = omega arith

module _ (w a b c d : ℕ) (fits : w < 4294967296) (is : word_bytes w ≡ a ∷ b ∷ c ∷ d ∷ []) where
  -- the four bytes of a word: each is below 256, and they make the word
  parts : (a ≡ w / 16777216 % 256) × (b ≡ w / 65536 % 256) × (c ≡ w / 256 % 256) × (d ≡ w % 256)
  parts = (cc, cc, cc, cc)

  small : (a < 256) × (b < 256) × (c < 256) × (d < 256)
  small = (omega (arith, parts.0), omega (arith, parts.1), omega (arith, parts.2), omega (arith, parts.3))

  whole : w ≡ a * 16777216 + b * 65536 + c * 256 + d
  whole =
      let p : w / 256 / 256 ≡ w / 65536 = shr-shr w 8 8 in
      let q : w / 65536 / 256 ≡ w / 16777216 = shr-shr w 16 8 in
      let top : w / 16777216 < 256 = omega arith in
      let e3 : w / 16777216 ≡ a = omega (arith, parts.0) in
      let e2 : w / 65536 ≡ w / 16777216 * 256 + b = sym (div-add-mod' (w / 65536) 256) ∙ ap₂ (λ m n. m * 256 + n) q (sym parts.1) in
      let e1 : w / 256 ≡ w / 65536 * 256 + c = sym (div-add-mod' (w / 256) 256) ∙ ap₂ (λ m n. m * 256 + n) p (sym parts.2) in
      let e0 : w ≡ w / 256 * 256 + d = sym (div-add-mod' w 256) ∙ ap (λ n. w / 256 * 256 + n) (sym parts.3) in
      sums (w / 256) (w / 65536) (w / 16777216) w a b c d e0 e1 e2 e3

  -- a rotation to the right by one, two and three bytes
  pub rotated8 : word_bytes (bit_or (w / 256) (w * 16777216 % 4294967296)) ≡ d ∷ a ∷ b ∷ c ∷ []
  rotated8 =
      let e : w * 16777216 % 4294967296 ≡ w % 256 * 16777216 = omega arith in
      let h : w / 256 ≡ a * 65536 + b * 256 + c = omega (arith, whole, small.0, small.1, small.2, small.3) in
      let j : bit_or (w / 256) (w * 16777216 % 4294967296) ≡ d * 16777216 + a * 65536 + b * 256 + c =
      ap (bit_or (w / 256)) e ∙ or_shifted_r (w % 256) 24 (w / 256) (omega arith) ∙ omega (arith, h, parts.3) in
      ap word_bytes j ∙ word_bytes_of d a b c small.3 small.0 small.1 small.2

  pub rotated16 : word_bytes (bit_or (w / 65536) (w * 65536 % 4294967296)) ≡ c ∷ d ∷ a ∷ b ∷ []
  rotated16 =
      let e : w * 65536 % 4294967296 ≡ w % 65536 * 65536 = omega arith in
      let h : w / 65536 ≡ a * 256 + b = omega (arith, whole, small.0, small.1, small.2, small.3) in
      let l : w % 65536 ≡ c * 256 + d = omega (arith, whole, small.0, small.1, small.2, small.3) in
      let j : bit_or (w / 65536) (w * 65536 % 4294967296) ≡ c * 16777216 + d * 65536 + a * 256 + b =
      ap (bit_or (w / 65536)) e ∙ or_shifted_r (w % 65536) 16 (w / 65536) (omega arith) ∙ omega (arith, h, l) in
      ap word_bytes j ∙ word_bytes_of c d a b small.2 small.3 small.0 small.1

  pub rotated24 : word_bytes (bit_or (w / 16777216) (w * 256 % 4294967296)) ≡ b ∷ c ∷ d ∷ a ∷ []
  rotated24 =
      let e : w * 256 % 4294967296 ≡ w % 16777216 * 256 = omega arith in
      let h : w / 16777216 ≡ a = omega (arith, whole, small.0, small.1, small.2, small.3) in
      let l : w % 16777216 ≡ b * 65536 + c * 256 + d = omega (arith, whole, small.0, small.1, small.2, small.3) in
      let j : bit_or (w / 16777216) (w * 256 % 4294967296) ≡ b * 16777216 + c * 65536 + d * 256 + a =
      ap (bit_or (w / 16777216)) e ∙ or_shifted_r (w % 16777216) 8 (w / 16777216) (omega arith) ∙ omega (arith, h, l) in
      ap word_bytes j ∙ word_bytes_of b c d a small.1 small.2 small.3 small.0
