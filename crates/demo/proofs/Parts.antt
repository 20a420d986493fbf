-- The frames of the update, one more at a time.
use Rattle.std.proofs.Common.{◌≡◌, ℕ, suc, ◌+◌, ◌-◌, ◌≤◌, List, [], ◌∷◌, ◌++◌, sym, refl, ap, ◌∙◌, arith}
use Rattle.wire.specs.Frame.{frame}
use Rattle.example.specs.Parts.{part_bytes, part_packet}
use Rattle.demo.specs.Frames.{part_frame, parts_frames}

pub none : (key : List ℕ) → [] ≡ parts_frames key (1 - 1)
unfolding parts_frames
none key = refl

more : (key f : List ℕ) (n : ℕ) (fs : List (List ℕ)) → fs ≡ parts_frames key n → f ≡ frame (part_packet key 1 (suc n) (part_bytes 1 (suc n))) → fs ++ f ∷ [] ≡ parts_frames key (suc n)
unfolding parts_frames part_frame
more key f n fs e m = ap (λ x. x ++ f ∷ []) e ∙ ap (λ x. parts_frames key n ++ x ∷ []) m

pub one_more : (key f : List ℕ) (n : ℕ) (fs : List (List ℕ)) → 1 ≤ n → fs ≡ parts_frames key (n - 1) → f ≡ frame (part_packet key 1 n (part_bytes 1 n)) → fs ++ f ∷ [] ≡ parts_frames key (n + 1 - 1)
one_more key f n fs h e m =
    let s : n ≡ suc (n - 1) = omega arith in
    let t : suc (n - 1) ≡ n + 1 - 1 = omega arith in
    more key f (n - 1) fs e (m ∙ ap (λ k. frame (part_packet key 1 k (part_bytes 1 k))) s) ∙ ap (parts_frames key) t
