-- The words behind `data`, by their places.
use Rattle.std.proofs.Common.{◌≡◌, ℕ, ◌<◌, ◌≤◌, List, [], ◌∷◌, length, get_or, map, arith}
use Rattle.text.specs.Hex.{hex_read}
use Rattle.pack.specs.Arguments.{data_read}
use Rattle.pack.specs.Report.{data_given, data_words}

-- eight words, each with a text by f
module _ {X : Type 0} (f : X → List ℕ) (p q r s t u v w : List ℕ) (a b c d e g h i : X) where
  pub eight_words : (ws : List X) → 8 ≤ length ws → length ws < 9
      → p ≡ f (get_or ws 0 a) → q ≡ f (get_or ws 1 b) → r ≡ f (get_or ws 2 c) → s ≡ f (get_or ws 3 d) → t ≡ f (get_or ws 4 e) → u ≡ f (get_or ws 5 g) → v ≡ f (get_or ws 6 h) → w ≡ f (get_or ws 7 i)
      → data_given (data_read p q r s t u v) (hex_read w) ≡ data_words (map f ws)
  eight_words [] low high ep eq er es et eu ev ew = absurd (omega arith)
  eight_words (k ∷ []) low high ep eq er es et eu ev ew = absurd (omega arith)
  eight_words (k ∷ l ∷ []) low high ep eq er es et eu ev ew = absurd (omega arith)
  eight_words (k ∷ l ∷ m ∷ []) low high ep eq er es et eu ev ew = absurd (omega arith)
  eight_words (k ∷ l ∷ m ∷ n ∷ []) low high ep eq er es et eu ev ew = absurd (omega arith)
  eight_words (k ∷ l ∷ m ∷ n ∷ o ∷ []) low high ep eq er es et eu ev ew = absurd (omega arith)
  eight_words (k ∷ l ∷ m ∷ n ∷ o ∷ x ∷ []) low high ep eq er es et eu ev ew = absurd (omega arith)
  eight_words (k ∷ l ∷ m ∷ n ∷ o ∷ x ∷ y ∷ []) low high ep eq er es et eu ev ew = absurd (omega arith)
  eight_words (k ∷ l ∷ m ∷ n ∷ o ∷ x ∷ y ∷ z ∷ []) low high ep eq er es et eu ev ew = cc
  eight_words (k ∷ l ∷ m ∷ n ∷ o ∷ x ∷ y ∷ z ∷ j ∷ zs) low high ep eq er es et eu ev ew = absurd (omega arith)
