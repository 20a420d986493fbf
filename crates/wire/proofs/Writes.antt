-- The writes of the frame writer make the frame.
use Rattle.std.proofs.Common.{◌≡◌, ℕ, suc, ◌+◌, ◌-◌, ◌/◌, ◌%◌, ◌<◌, ◌≤◌, true, ◌&&◌, leb, List, [], ◌∷◌, ◌++◌, length, take, drop, set, sym, ap, ◌∙◌, arith}
use borrow.Rule.Slice.PartMut.{put_mid}
use Rattle.std.proofs.lemmas.List.{append_assoc, drop-drop, length-append, length-take-le}
use Rattle.std.proofs.lemmas.Slice.{between-put_mid, drop-put_mid}
use Rattle.std.proofs.lemmas.Bool.{and_parts, cond-true, leb-true}
use Rattle.wire.specs.Checksum.{crc}
use Rattle.wire.specs.Frame.{frame, framed, over, room}
use Rattle.wire.proofs.Frames.{length_frame, room_holds}

-- the two bytes of a number, the low one first
pub low_first : (n : ℕ) → n < 0x10000 → ◌≡◌ {A = List ℕ} ((n % 0x100) ∷ (n / 0x100 % 0x100) ∷ []) ((n % 0x100) ∷ (n / 0x100) ∷ [])
low_first n h = let e : n / 0x100 % 0x100 ≡ n / 0x100 = omega arith in rw e

-- a core command that has a frame is short
pub room_small : (n m : ℕ) → room n m ≡ true → n ≤ 299
room_small n m h = leb-true n 299 (and_parts (leb n 299) (leb (n + 5) m) (and_parts (leb 1 n) (leb n 299 && leb (n + 5) m) h).1).0

-- the three writes around a core command that stands in its place
pub enclosed : (xs core size sum : List ℕ) (n k : ℕ) → n + 5 ≤ length xs → core ≡ take n (drop 3 xs) → size ≡ (n % 0x100) ∷ (n / 0x100) ∷ []
    → sum ≡ (crc core % 0x100) ∷ (crc core / 0x100) ∷ [] → k ≡ 2
    → put_mid (3 + n) k (put_mid 1 2 (set xs 0 0x80) size) sum ≡ over (frame core) xs
unfolding frame
enclosed [] core size sum n k h e p q z = absurd (omega arith)
enclosed (a ∷ []) core size sum n k h e p q z = absurd (omega arith)
enclosed (a ∷ b ∷ []) core size sum n k h e p q z = absurd (omega arith)
enclosed (a ∷ b ∷ d ∷ xs) core size sum n k h e p q z =
    let z3 : 3 + n ≡ suc (suc (suc n)) = omega arith in
    let m : length core ≡ n = ap length e ∙ length-take-le n xs (omega arith) in
    let ends : length (core ++ (crc core % 0x100) ∷ (crc core / 0x100) ∷ []) ≡ n + 2 = simp length-append (omega arith) in
    rw (p, q, z, z3, ends, m, ← e)
    (ap (λ bs. 0x80 ∷ (n % 0x100) ∷ (n / 0x100) ∷ bs) (ap (λ bs. core ++ (crc core % 0x100) ∷ (crc core / 0x100) ∷ bs) (drop-drop 2 n xs) ∙ sym (append_assoc core ((crc core % 0x100) ∷ (crc core / 0x100) ∷ []) (drop (n + 2) xs))))

-- a frame around a core command that was copied to its place is the frame written at once
pub copied : (xs core ys : List ℕ) (n k : ℕ) → room n (length xs) ≡ true → n ≡ length core → k ≡ n → ys ≡ core
    → length (put_mid 3 k xs ys) ≡ length xs → framed n (take n (drop 3 (put_mid 3 k xs ys))) (put_mid 3 k xs ys) ≡ framed n core xs
copied xs core ys n k h m z e same =
    let zs = put_mid 3 k xs ys in
    let size = length (frame core) in
    let l : n + 5 ≤ length xs = room_holds n (length xs) h in
    let q : length ys ≡ k = ap length e ∙ omega arith in
    let i : n ≡ (3 + n) - 3 = omega arith in
    let placed : take n (drop 3 zs) ≡ core = ap (λ j. take j (drop 3 zs)) i ∙ between-put_mid 3 k xs ys (3 + n) (omega arith) (omega arith) ∙ e in
    let kept : drop size zs ≡ drop size xs = drop-put_mid 3 k xs ys size (omega (arith, length_frame core)) (omega arith) q in
    ap (λ bs. framed n bs zs) placed ∙ cond-true (room n (length zs)) _ _ (ap (room n) same ∙ h)
    ∙ ap (λ bs. frame core ++ bs) kept ∙ sym (cond-true (room n (length xs)) _ _ h)
