-- Bytes as lines of capital hexadecimal pairs.
use Rattle.std.specs.Prelude.{ℕ, ◌+◌, ◌/◌, ◌%◌, cond, List, [], ◌∷◌, ◌++◌, ◌==◌, nat_lt}

-- The digit of a value below sixteen: 0 to 9, A to F.
abbrev pub capital : ℕ → ℕ
capital d = cond (nat_lt d 10) (48 + d) (55 + d)

-- The two digits of a byte, the high one first.
abbrev pub pair_text : ℕ → List ℕ
pair_text b = capital (b / 16) ∷ capital (b % 16) ∷ []

-- What stands before the byte with an index: nothing at the first, a line's end at each sixteenth, else a space.
abbrev pub separator : ℕ → List ℕ
separator i = cond (i == 0) [] (cond (i % 16 == 0) (10 ∷ []) (32 ∷ []))

-- The text of bytes, the first of which has the index i.
abbrev pub lines_from : ℕ → List ℕ → List ℕ
lines_from i [] = []
lines_from i (b ∷ bs) = (separator i ++ pair_text b) ++ lines_from (i + 1) bs

-- The text of all the bytes.
abbrev pub hex_lines : List ℕ → List ℕ
hex_lines bs = lines_from 0 bs
