-- Scrambled images are the same exactly where their clear bytes are.
use Rattle.std.proofs.Common.{◌≡◌, ℕ, ◌+◌, ◌&&◌, List, [], ◌∷◌, nat_eq, sym, refl, ap, ap₂, ◌∙◌}
use Rattle.std.proofs.lemmas.Bool.Decides.{Decides-eqb, same_from_decides}
use lib.Bits.{bit_xor, xor_assoc, xor_self, xor_zero_r}
use Rattle.memory.specs.Areas.{address_at}
use Rattle.memory.specs.Scrambled.{clear, clear_from, mask}
use Rattle.sweep.specs.Kinds.{same}

-- a number that is masked twice
pub twice : (x k : ℕ) → bit_xor (bit_xor x k) k ≡ x
twice x k = xor_assoc x k k ∙ ap (bit_xor x) (xor_self k) ∙ xor_zero_r x

masked_alike : (x y k : ℕ) → nat_eq (bit_xor x k) (bit_xor y k) ≡ nat_eq x y
masked_alike x y k =
    let d = Decides-eqb (bit_xor x k) (bit_xor y k) in
    same_from_decides _ _ (λ e. sym (twice x k) ∙ ap (λ n. bit_xor n k) (d.0 e) ∙ twice y k, λ e. d.1 (ap (λ n. bit_xor n k) e)) (Decides-eqb x y)

alike_from : (f p : ℕ) (xs ys : List ℕ) → same (clear_from f p xs) (clear_from f p ys) ≡ same xs ys
alike_from f p [] [] = refl
alike_from f p [] (y ∷ ys) = refl
alike_from f p (x ∷ xs) [] = refl
alike_from f p (x ∷ xs) (y ∷ ys) = ap₂ ◌&&◌ (masked_alike x y (mask f (address_at p))) (alike_from f (p + 1) xs ys)

pub alike_clear : (f : ℕ) (xs ys : List ℕ) → same (clear f xs) (clear f ys) ≡ same xs ys
unfolding clear
alike_clear f xs ys = alike_from f 0 xs ys
