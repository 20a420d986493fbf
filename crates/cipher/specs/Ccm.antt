-- CCM (SP 800-38C and RFC 3610) over a block cipher E: a nonce of 13 bytes, a length field of two, a tag of 16, no associated data.
use Rattle.std.specs.Prelude.{ℕ, ◌+◌, ◌-◌, ◌*◌, ◌/◌, ◌%◌, List, [], ◌∷◌, ◌++◌, length, take, drop}
use Rattle.cipher.specs.Bytes.{xors}
use Rattle.cipher.specs.Blocks.{blocks, chain, counter, stream}
use Rattle.cipher.specs.Cipher.{Cipher}
use Rattle.cipher.specs.Sealing.{Fixed, mode}

-- the flags of the first block: whether there is associated data, a tag of t bytes, a length field of q bytes (SP 800-38C, A.2.1)
abbrev pub flags : ℕ → ℕ → ℕ → ℕ
flags adata t q = 64 * adata + 8 * ((t - 2) / 2) + (q - 1)

-- the first block B0: flags, nonce, length of the contents (A.2.1)
abbrev pub first_block : List ℕ → ℕ → List ℕ
first_block iv n = flags 0 16 2 ∷ (take 13 (drop 1 iv) ++ (n / 256 % 256) ∷ (n % 256) ∷ [])

-- the CBC-MAC of the first block and of the contents in blocks (6.1, steps 2 and 3)
abbrev pub mac : (List ℕ → List ℕ) → List ℕ → List ℕ → List ℕ
mac E b0 c = chain (λ y b. E (xors y b)) (E b0) c (blocks (length c))

-- the tag: the MAC under the key stream's block 0 (6.1, steps 4 and 8)
abbrev pub ccm_tag : (List ℕ → List ℕ) → List ℕ → List ℕ → List ℕ
ccm_tag E iv c = xors (mac E (first_block iv (length c)) c) (E (counter iv 0))

-- the key stream for the contents, from counter block 1 on (6.1, steps 5 to 8)
abbrev pub ccm_stream : (List ℕ → List ℕ) → List ℕ → ℕ → ℕ
ccm_stream E iv = stream (λ n. E (counter iv n)) 1

-- the IV is counter block 0: the flags q - 1, that is 0x01, the nonce, 00 00 (A.3)
abbrev pub ccm_fixed : Fixed
ccm_fixed = (0, 1) ∷ (14, 0) ∷ (15, 0) ∷ []

-- CCM over a block cipher
abbrev pub ccm : (List ℕ → List ℕ → List ℕ) → Cipher
ccm block = mode ccm_fixed (λ k iv. ccm_stream (block k) iv) (λ k iv. ccm_tag (block k) iv)
