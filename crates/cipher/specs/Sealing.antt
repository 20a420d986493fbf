-- Packet ciphers by a key stream and a tag of 16 bytes.
use Rattle.std.specs.Prelude.{ℕ, ◌+◌, ◌-◌, Bool, true, false, cond, ◌&&◌, List, [], ◌∷◌, ◌++◌, length, take, drop, Some, None, Option, ◌==◌, bit_xor, nat_le, slice_index}
use Rattle.cipher.specs.Cipher.{Cipher}

-- each byte with the byte of the key stream s at its place, the first at place i
abbrev pub xor_from : (ℕ → ℕ) → ℕ → List ℕ → List ℕ
xor_from s i [] = []
xor_from s i (x ∷ xs) = bit_xor x (s i) ∷ xor_from s (i + 1) xs

-- whether two lists are equal
abbrev pub same : List ℕ → List ℕ → Bool
same [] [] = true
same [] (y ∷ ys) = false
same (x ∷ xs) [] = false
same (x ∷ xs) (y ∷ ys) = cond (x == y) (same xs ys) false

-- the body of contents: the contents under the key stream s, then their tag
abbrev pub sealed : (ℕ → ℕ) → (List ℕ → List ℕ) → List ℕ → List ℕ
sealed s tag c = xor_from s 0 c ++ tag c

-- the contents of a body: all but its last 16 bytes, with the key stream taken off
abbrev pub contents : (ℕ → ℕ) → List ℕ → List ℕ
contents s b = xor_from s 0 (take (length b - 16) b)

-- whether a body has 16 to 282 bytes
abbrev pub body_sized : List ℕ → Bool
body_sized b = nat_le 16 (length b) && nat_le (length b) 282

-- the contents of a body, if it has that size and its last 16 bytes are their tag
abbrev pub opened : (ℕ → ℕ) → (List ℕ → List ℕ) → List ℕ → Option (List ℕ)
opened s tag b = cond (body_sized b && same (tag (contents s b)) (drop (length b - 16) b)) (Some (contents s b)) None

-- The bytes that an IV must have, each by its place, upward.
abbrev pub Fixed : Type 0
Fixed = List (ℕ × ℕ)

-- whether an IV has its fixed bytes
abbrev pub has_fixed : Fixed → List ℕ → Bool
has_fixed [] iv = true
has_fixed ((i, b) ∷ rest) iv = slice_index iv i == b && has_fixed rest iv

-- the place of the first fixed byte that an IV does not have; 0 where it has all
abbrev pub first_unfixed : Fixed → List ℕ → ℕ
first_unfixed [] iv = 0
first_unfixed ((i, b) ∷ rest) iv = cond (slice_index iv i == b) (first_unfixed rest iv) i

-- the packet cipher of an IV's fixed bytes, and of the key stream and the tag of a key and an IV
abbrev pub mode : Fixed → (List ℕ → List ℕ → ℕ → ℕ) → (List ℕ → List ℕ → List ℕ → List ℕ) → Cipher
mode fixed stream tag = record {
  well_formed = has_fixed fixed;
  first_wrong = first_unfixed fixed;
  seal = λ k iv c. sealed (stream k iv) (tag k iv) c;
  opened = λ k iv b. opened (stream k iv) (tag k iv) b;
}
