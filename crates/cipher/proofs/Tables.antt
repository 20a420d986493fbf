-- A rule of a table of words, proved at all of its entries by one test that antt computes.
use Rattle.std.proofs.Common.{◌≡◌, ℕ, zero, suc, ◌+◌, ◌*◌, ◌<◌, Bool, true, false, cond, List, [], ◌∷◌, map, length, get_or, sym, refl, subst, le_of_suc-le-suc, not-suc-le-zero}
use Rattle.cipher.specs.Bytes.{word_bytes}
use Rattle.cipher.specs.Aes.{sub, sbox}
use Rattle.cipher.specs.Sealing.{same}
use Rattle.cipher.specs.Schemes.{eq_from_same}

both : (p q : Bool) → cond p q false ≡ true → (p ≡ true) × (q ≡ true)
both true q h = (refl, h)
both false q h = (cc, cc)

-- the words of the list, the first at place i of the S-box s, have the bytes that f says
abbrev pub every : (ℕ → List ℕ) → List ℕ → List ℕ → Bool
every f [] [] = true
every f [] (s ∷ ss) = false
every f (w ∷ ws) [] = false
every f (w ∷ ws) (s ∷ ss) = cond (same (word_bytes w) (f s)) (every f ws ss) false

from : (f : ℕ → List ℕ) (ws ss : List ℕ) → every f ws ss ≡ true → (k : ℕ) → k < length ws → word_bytes (get_or ws k 0) ≡ f (get_or ss k 0)
from f [] [] t k h = absurd (not-suc-le-zero h)
from f [] (s ∷ ss) t k h = absurd (not-suc-le-zero h)
from f (w ∷ ws) [] t k h = cc
from f (w ∷ ws) (s ∷ ss) t zero h = eq_from_same (word_bytes w) (f s) (both (same (word_bytes w) (f s)) (every f ws ss) t).0
from f (w ∷ ws) (s ∷ ss) t (suc k) h = from f ws ss (both (same (word_bytes w) (f s)) (every f ws ss) t).1 k (le_of_suc-le-suc h)

-- the word of four bytes
abbrev packed : List ℕ → ℕ
packed l = get_or l 0 0 * 16777216 + get_or l 1 0 * 65536 + get_or l 2 0 * 256 + get_or l 3 0

-- the table that f makes of the S-box
abbrev pub made : (ℕ → List ℕ) → List ℕ
made f = map (λ s. packed (f s)) sbox

pub rule : (f : ℕ → List ℕ) (ws : List ℕ) → every f ws sbox ≡ true → length ws ≡ 256 → (k : ℕ) → k < 256 → word_bytes (get_or ws k 0) ≡ f (sub k)
rule f ws t l k h = from f ws sbox t k (subst (λ (n : ℕ). k < n) (sym l) h)
