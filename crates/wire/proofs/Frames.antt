-- Frames and buffers, for whoever calls the frame writer.
use Rattle.std.proofs.Common.{◌≡◌, ℕ, suc, ◌+◌, ◌-◌, ◌/◌, ◌%◌, ◌≤◌, true, ◌&&◌, leb, List, [], ◌∷◌, ◌++◌, length, take, drop, set, ap, ◌∙◌, arith}
use borrow.Rule.Slice.PartMut.{put_mid}
use Rattle.std.proofs.lemmas.List.{append-nil, drop_all, length-append, length-drop, take_all}
use Rattle.std.proofs.lemmas.Bool.{and_parts, leb-true}
use Rattle.wire.specs.Checksum.{crc}
use Rattle.wire.specs.Frame.{frame, over, room}

-- a frame has five bytes more than its core command
pub length_frame : (core : List ℕ) → length (frame core) ≡ length core + 5
unfolding frame
length_frame core =
    let e = length-append core ((crc core % 0x100) ∷ (crc core / 0x100) ∷ []) in
    ap (λ n. suc (suc (suc n))) e ∙ omega arith

-- a buffer keeps its length
pub length_over : (bs xs : List ℕ) → length bs ≤ length xs → length (over bs xs) ≡ length xs
length_over bs xs h = length-append bs (drop (length bs) xs) ∙ ap (λ n. length bs + n) (length-drop (length bs) xs) ∙ omega arith

-- where there is room, the frame fits in the buffer
pub room_holds : (n m : ℕ) → room n m ≡ true → n + 5 ≤ m
room_holds n m h = leb-true (n + 5) m (and_parts (leb n 299) (leb (n + 5) m) (and_parts (leb 1 n) (leb n 299 && leb (n + 5) m) h).1).1

-- a frame from place 1 on, behind a byte
pub behind : (xs bs ys : List ℕ) (b k : ℕ) → 1 ≤ length xs → k ≡ length xs - 1 → ys ≡ over bs (take k (drop 1 (set xs 0 b)))
    → put_mid 1 k (set xs 0 b) ys ≡ over (b ∷ bs) xs
behind [] bs ys b k h e p = absurd (omega arith)
behind (a ∷ xs) bs ys b k h e p =
    let z : length xs ≤ k = omega arith in
    ap (λ zs. b ∷ (ys ++ zs)) (drop_all k xs z) ∙ ap (λ zs. b ∷ zs) (append-nil ys ∙ p ∙ ap (over bs) (take_all k xs z))
