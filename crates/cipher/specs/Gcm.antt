-- GCM (SP 800-38D) over a block cipher E: a nonce of 12 bytes, a tag of 16, no associated data.
use Rattle.std.specs.Prelude.{ℕ, List, [], ◌∷◌, ◌++◌, take, replicate}
use Rattle.cipher.specs.Bytes.{xors, word_bytes}
use Rattle.cipher.specs.Blocks.{stream}
use Rattle.cipher.specs.Cipher.{Cipher}
use Rattle.cipher.specs.Ghash.{number, block_bytes, ghash}
use Rattle.cipher.specs.Sealing.{Fixed, xor_from, mode}

-- a counter block: the nonce and a number of four bytes, which the increment adds to (6.2)
abbrev pub gcm_counter : List ℕ → ℕ → List ℕ
gcm_counter iv n = take 12 iv ++ word_bytes n

-- the key stream for the contents, from the block behind J0 on (algorithm 4, step 3)
abbrev pub gcm_stream : (List ℕ → List ℕ) → List ℕ → ℕ → ℕ
gcm_stream E iv = stream (λ n. E (gcm_counter iv n)) 2

-- the tag of bytes under the key stream: their hash under the subkey E(0), under E(J0) (algorithm 4, steps 1, 5 and 6)
abbrev pub gcm_mac : (List ℕ → List ℕ) → List ℕ → List ℕ → List ℕ
gcm_mac E j0 xs = xors (block_bytes (ghash (number (E (replicate 16 0))) xs)) (E j0)

-- the tag of contents
abbrev pub gcm_tag : (List ℕ → List ℕ) → List ℕ → List ℕ → List ℕ
gcm_tag E iv c = gcm_mac E iv (xor_from (gcm_stream E iv) 0 c)

-- the IV is the block J0: the nonce, 00 00 00 01 (algorithm 4, step 2)
abbrev pub gcm_fixed : Fixed
gcm_fixed = (12, 0) ∷ (13, 0) ∷ (14, 0) ∷ (15, 1) ∷ []

-- GCM over a block cipher
abbrev pub gcm : (List ℕ → List ℕ → List ℕ) → Cipher
gcm block = mode gcm_fixed (λ k iv. gcm_stream (block k) iv) (λ k iv. gcm_tag (block k) iv)
