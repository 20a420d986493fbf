-- The laws of CCM.
use Rattle.std.specs.Prelude.{◌≡◌, ℕ, zero, suc, ◌<◌, List, ◌∷◌, length, replicate, refl}
use Rattle.std.proofs.Common.{arith, lit<, length-append, length-take, length-drop}
use Rattle.std.proofs.lemmas.List.{length-replicate}
use Rattle.std.proofs.lemmas.List.Elements.{All-cons, All-replicate}
use Rattle.cipher.specs.Bytes.{xors}
use Rattle.cipher.specs.Blocks.{block_at, blocks, chain, counter}
use Rattle.cipher.specs.Ccm.{ccm, ccm_tag, ccm_stream, ccm_fixed, first_block, mac}
use Rattle.cipher.specs.Cipher.{Lawful}
use Rattle.cipher.specs.Schemes.{mode_lawful}
use Rattle.cipher.specs.Words.{length_xors}

-- a block of data and a counter block have 16 bytes
pub length_block_at : (xs : List ℕ) (i : ℕ) → length (block_at xs i) ≡ 16
length_block_at xs i = simp (length-append, length-replicate, length-take) (omega arith)

pub length_counter : (iv : List ℕ) (n : ℕ) → length iv ≡ 16 → length (counter iv n) ≡ 16
length_counter iv n h = simp (length-append, length-take) (omega arith)

module _ (E : List ℕ → List ℕ) (size : (b : List ℕ) → length b ≡ 16 → length (E b) ≡ 16) where
  -- over a block cipher that gives 16 bytes, the CBC-MAC after any number of blocks and the tag have 16 bytes
  length_chain : (b0 c : List ℕ) (n : ℕ) → length b0 ≡ 16 → length (chain (λ x b. E (xors x b)) (E b0) c n) ≡ 16
  length_chain b0 c zero h = size b0 h
  length_chain b0 c (suc n) h =
      let x = chain (λ x b. E (xors x b)) (E b0) c n in
      size (xors x (block_at c n)) (omega (arith, length_xors x (block_at c n), length_chain b0 c n h, length_block_at c n))

  pub length_ccm_tag : (iv c : List ℕ) → length iv ≡ 16 → length (ccm_tag E iv c) ≡ 16
  length_ccm_tag iv c h =
      let f : length (first_block iv (length c)) ≡ 16 = simp (length-append, length-take, length-drop) (omega arith) in
      let m = mac E (first_block iv (length c)) c in
      let e = E (counter iv 0) in
      omega (arith, length_xors m e, length_chain (first_block iv (length c)) c (blocks (length c)) f, size (counter iv 0) (length_counter iv 0 h))

-- CCM over a block cipher that gives 16 bytes is a lawful packet cipher
pub ccm_lawful : (block : List ℕ → List ℕ → List ℕ) → ((k b : List ℕ) → length k ≡ 16 → length b ≡ 16 → length (block k b) ≡ 16) → Lawful (ccm block)
ccm_lawful block size =
    mode_lawful ccm_fixed (λ k iv. ccm_stream (block k) iv) (λ k iv. ccm_tag (block k) iv) refl (1 ∷ replicate 15 0) refl refl
    (All-cons (λ b. b < 256) 1 (replicate 15 0) (lit< tt) (All-replicate (λ b. b < 256) 15 0 (lit< tt)))
    (λ k iv c hk hi. length_ccm_tag (block k) (λ b. size k b hk) iv c hi)
