-- The laws of GCM.
use Rattle.std.specs.Prelude.{◌≡◌, ℕ, zero, suc, ◌+◌, ◌/◌, ◌%◌, ◌<◌, ◌≤◌, true, List, [], ◌∷◌, ◌++◌, length, take, replicate, ◌==◌, bit_xor, slice_index, refl}
use Rattle.std.proofs.Common.{ap, ap₂, ◌∙◌, arith, eqb-true, lit<}
use Rattle.std.proofs.lemmas.List.{append_assoc, take_more}
use Rattle.std.proofs.lemmas.List.Elements.{All-append, All-replicate}
use Rattle.std.proofs.lemmas.Bool.{and_parts}
use Rattle.cipher.specs.Blocks.{stream, counter}
use Rattle.cipher.specs.Cipher.{Lawful}
use Rattle.cipher.specs.Sealing.{xor_from, has_fixed}
use Rattle.cipher.specs.Ghash.{number, block_bytes, ghash}
use Rattle.cipher.specs.Gcm.{gcm, gcm_tag, gcm_mac, gcm_stream, gcm_counter, gcm_fixed}
use Rattle.cipher.specs.Schemes.{mode_lawful}
use Rattle.cipher.specs.Words.{length_xors}

-- a place where a list has a number above 0 is below its length
within : (xs : List ℕ) (i : ℕ) → 0 < slice_index xs i → i < length xs
within [] i h = absurd (omega arith)
within (x ∷ xs) zero h = omega arith
within (x ∷ xs) (suc i) h = omega (arith, within xs i h)

-- the last fixed byte is not 0, so an IV with all of them has 16 bytes
fixed_long : (iv : List ℕ) → has_fixed gcm_fixed iv ≡ true → 15 < length iv
fixed_long iv h =
    let p = and_parts (slice_index iv 12 == 0) _ h in
    let q = and_parts (slice_index iv 13 == 0) _ p.1 in
    let r = and_parts (slice_index iv 14 == 0) _ q.1 in
    let s = and_parts (slice_index iv 15 == 1) true r.1 in
    within iv 15 (omega (arith, eqb-true (slice_index iv 15) 1 s.0))

-- with an IV that has the fixed bytes, a number below 65536 gives the same counter block in two bytes as in four
pub same_counter : (iv : List ℕ) (n : ℕ) → has_fixed gcm_fixed iv ≡ true → n < 65536 → counter iv n ≡ gcm_counter iv n
same_counter iv n h k =
    let l = fixed_long iv h in
    let y = and_parts (slice_index iv 12 == 0) _ h in
    let z = and_parts (slice_index iv 13 == 0) _ y.1 in
    let a = eqb-true (slice_index iv 12) 0 y.0 in
    let b = eqb-true (slice_index iv 13) 0 z.0 in
    let t : take 14 iv ≡ (take 12 iv ++ slice_index iv 12 ∷ []) ++ slice_index iv 13 ∷ [] =
    take_more iv 13 0 (omega arith) ∙ ap (λ t. t ++ slice_index iv 13 ∷ []) (take_more iv 12 0 (omega arith)) in
    let c : n / 16777216 % 256 ≡ 0 = omega arith in
    let d : n / 65536 % 256 ≡ 0 = omega arith in
    rw (t, a, b, c, d, append_assoc, append_assoc)

-- a list is the same under two key streams that agree at its places
pub xor_from_same : (s t : ℕ → ℕ) (i m : ℕ) (xs : List ℕ) → i + length xs ≤ m → ((k : ℕ) → k < m → s k ≡ t k) → xor_from s i xs ≡ xor_from t i xs
xor_from_same s t i m [] h f = refl
xor_from_same s t i m (x ∷ xs) h f =
    ap₂ (λ n u. bit_xor x n ∷ u) (f i (omega arith)) (xor_from_same s t (i + 1) m xs (omega arith) f)

module _ (E : List ℕ → List ℕ) (iv : List ℕ) (h : has_fixed gcm_fixed iv ≡ true) where
  -- so both forms of counter blocks make the same key stream for at most 282 bytes
  pub same_stream : (xs : List ℕ) → length xs ≤ 282 → xor_from (stream (λ n. E (counter iv n)) 2) 0 xs ≡ xor_from (gcm_stream E iv) 0 xs
  same_stream xs k = xor_from_same (stream (λ n. E (counter iv n)) 2) (gcm_stream E iv) 0 282 xs (omega arith)
      (λ j d. ap (λ b. slice_index (E b) (j % 16)) (same_counter iv (2 + j / 16) h (omega arith)))

-- the tag has 16 bytes, if the block cipher gives 16
pub length_gcm_mac : (E : List ℕ → List ℕ) (iv xs : List ℕ) → length (E iv) ≡ 16 → length (gcm_mac E iv xs) ≡ 16
length_gcm_mac E iv xs h = length_xors (block_bytes (ghash (number (E (replicate 16 0))) xs)) (E iv) ∙ omega arith

-- GCM over a block cipher that gives 16 bytes is a lawful packet cipher
pub gcm_lawful : (block : List ℕ → List ℕ → List ℕ) → ((k b : List ℕ) → length k ≡ 16 → length b ≡ 16 → length (block k b) ≡ 16) → Lawful (gcm block)
gcm_lawful block size =
    mode_lawful gcm_fixed (λ k iv. gcm_stream (block k) iv) (λ k iv. gcm_tag (block k) iv) refl (replicate 15 0 ++ 1 ∷ []) refl refl
    (All-append (λ b. b < 256) (replicate 15 0) (1 ∷ []) (All-replicate (λ b. b < 256) 15 0 (lit< tt)) (All-replicate (λ b. b < 256) 1 1 (lit< tt)))
    (λ k iv c hk hi. length_gcm_mac (block k) iv (xor_from (gcm_stream (block k) iv) 0 c) (size k iv hk hi))
