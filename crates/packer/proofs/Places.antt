-- Bytes laid one behind another in the middle of a buffer.
use Rattle.std.proofs.Common.{◌≡◌, ℕ, ◌+◌, ◌-◌, ◌<◌, ◌≤◌, List, [], ◌∷◌, ◌++◌, length, take, drop, set, sym, refl, ap, ◌∙◌, ap₂, add-one, arith, length-append, length-drop, length-take}
use borrow.Rule.Slice.PartMut.{put_mid}
use Rattle.std.proofs.lemmas.List.{append_assoc, drop-drop, set_split}
use Rattle.std.proofs.lemmas.Slice.{take-put_mid, drop-put_mid, between-put_mid}
use Rattle.wire.specs.Frame.{over}

-- p from place a on, in the place of as many bytes
abbrev pub put : ℕ → List ℕ → List ℕ → List ℕ
put a xs p = put_mid a (length p) xs p

pub put_one : (xs : List ℕ) (i v : ℕ) → i < length xs → set xs i v ≡ put i xs (v ∷ [])
put_one xs i v h = set_split xs i v h ∙ ap (λ t. take i xs ++ v ∷ t) (ap (λ n. drop n xs) (sym (add-one i)) ∙ sym (drop-drop 1 i xs))

pub length_put : (a : ℕ) (xs p : List ℕ) → a + length p ≤ length xs → length (put a xs p) ≡ length xs
length_put a xs p h = simp (length-append, length-take, length-drop) (omega arith)

-- q behind p
pub put_next : (a b k : ℕ) (xs p q : List ℕ) → b ≡ a + length p → k ≡ length q → b ≤ length xs → put_mid b k (put a xs p) q ≡ put a xs (p ++ q)
put_next a b k xs p q eb ek h =
    let t : take b (put a xs p) ≡ take a xs ++ p = take-put_mid a (length p) xs p b eb (omega arith) in
    let d : drop b (put a xs p) ≡ drop b xs = drop-put_mid a (length p) xs p b (omega arith) (omega arith) refl in
    let l : length (p ++ q) ≡ length p + length q = length-append p q in
    let n : b + k ≡ a + length (p ++ q) = omega arith in
    let r : drop k (drop b (put a xs p)) ≡ drop (length (p ++ q)) (drop a xs) =
    ap (drop k) d ∙ drop-drop k b xs ∙ ap (λ m. drop m xs) n ∙ sym (drop-drop (length (p ++ q)) a xs) in
    ap₂ (λ x y. x ++ (q ++ y)) t r ∙ append_assoc (take a xs) p (q ++ drop (length (p ++ q)) (drop a xs))
    ∙ ap (λ x. take a xs ++ x) (sym (append_assoc p q (drop (length (p ++ q)) (drop a xs))))

-- what stands there
pub put_at : (a n : ℕ) (xs p : List ℕ) → n ≡ length p → a ≤ length xs → take n (drop a (put a xs p)) ≡ p
put_at a n xs p e h =
    let z : a + n - a ≡ n = omega arith in
    ap (λ m. take m (drop a (put a xs p))) (sym z) ∙ between-put_mid a (length p) xs p (a + n) h (omega arith)

-- a frame laid over what it goes around
pub over_put : (f xs p : List ℕ) (a : ℕ) → a + length p ≤ length f → a ≤ length xs → over f (put a xs p) ≡ over f xs
over_put f xs p a h k = ap (λ t. f ++ t) (drop-put_mid a (length p) xs p (length f) h k refl)
