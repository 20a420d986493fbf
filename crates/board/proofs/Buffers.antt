-- A reply in the first 11 bytes of its buffer.
use Rattle.std.proofs.Common.{◌≡◌, ℕ, ◌≤◌, List, ◌++◌, length, take, drop, sym, ap, ◌∙◌, arith, length-append, length-drop, length-take, take-append-drop}
use Rattle.std.proofs.lemmas.List.{append_assoc, drop-append-le, length-take-le, take-append-le}
use Rattle.std.specs.Array.{IsFirstChunk}
use Rattle.wire.specs.Frame.{over}

-- nothing was written
pub unwritten : (xs ys : List ℕ) → IsFirstChunk xs ys 11 → ys ++ drop 11 xs ≡ xs
unwritten xs ys h = ap (λ zs. zs ++ drop 11 xs) h.same ∙ take-append-drop 11 xs

-- some bytes were written over the front, and their front is what was sent
module _ (xs ys front sent : List ℕ) (n : ℕ) (h : IsFirstChunk xs ys 11) (written : front ≡ over sent ys) (shown : take n front ≡ sent) (small : n ≤ 11) where
  few : length sent ≤ 11
  few = let e = ap length (sym shown) in omega (arith, e, length-take n front)

  first : length ys ≡ 11
  first = ap length h.same ∙ length-take-le 11 xs h.enough

  long : length front ≡ 11
  long = ap length written ∙ length-append sent (drop (length sent) ys) ∙ omega (arith, few, first, length-drop (length sent) ys)

  pub sent_front : take n (front ++ drop 11 xs) ≡ take n front
  sent_front = take-append-le n front (drop 11 xs) (omega (arith, long))

  pub over_front : front ++ drop 11 xs ≡ over sent xs
  over_front =
      ap (λ zs. zs ++ drop 11 xs) written
      ∙ append_assoc sent (drop (length sent) ys) (drop 11 xs)
      ∙ ap (λ zs. sent ++ zs) (sym (drop-append-le (length sent) ys (drop 11 xs) (omega (arith, few, first))) ∙ ap (drop (length sent)) (unwritten xs ys h))
