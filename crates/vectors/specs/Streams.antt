-- Cases from a reader to a writer: their lines, and the rows of these.
use Rattle.std.specs.Prelude.{◌≡◌, ℕ, zero, suc, List, [], ◌∷◌, ◌++◌, length, Option}
use Rattle.std.specs.List.{flat_map}
use Rattle.std.specs.Io.BufRead.{drop_through, first_line}
use Rattle.std.specs.Io.KnownBytes.{Appends}
use Rattle.vectors.specs.Cases.{answer_read}
use Rattle.vectors.specs.Texts.{row_text}
use Rattle.vectors.specs.Words.{words_read}

-- at most n lines of some bytes: what stands before the first line end, and then the lines of what stands behind it
abbrev pub lines_from : ℕ → List ℕ → List (List ℕ)
lines_from zero bs = []
lines_from (suc n) [] = []
lines_from (suc n) (b ∷ bs) = first_line (b ∷ bs) ∷ lines_from n (drop_through 0x0A (b ∷ bs))

-- all lines of some bytes
abbrev pub lines_of : List ℕ → List (List ℕ)
lines_of bs = lines_from (length bs) bs

-- the row of a line
abbrev pub line_row : List ℕ → List ℕ
line_row line = row_text (answer_read (words_read line))

-- the rows of all lines of some bytes, in order
abbrev pub rows_of : List ℕ → List ℕ
rows_of bs = flat_map line_row (lines_of bs)

-- the first of the rows were written, and the others wait
abbrev pub RowsMoved : Option (List ℕ) → Option (List ℕ) → List ℕ → List ℕ → Type 0
RowsMoved held held-new rows new = (written : List ℕ) × Appends held held-new written × (rows ≡ written ++ new)
