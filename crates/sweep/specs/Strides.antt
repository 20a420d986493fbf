-- At every how many steps a mass erase is cut.
use Rattle.std.specs.Prelude.{ℕ, cond, List, [], ◌∷◌, Some, None, Option, String, ◌==◌}
use Rattle.std.specs.String.{string_bytes}
use Rattle.text.specs.Decimal.{decimal_read}
use Rattle.text.specs.Numbers.{and_then}

-- the number that a word says, if it is above 0
abbrev pub stride_read : List ℕ → Option ℕ
stride_read word = and_then (decimal_read 0xFFFFFFFF word) (λ n. cond (n == 0) None (Some n))

-- at every how many steps, by the words that the program is given: 1 where there is none behind its own name
abbrev pub stride_of : {A : Type 0} → List (String A) → Option ℕ
stride_of [] = Some 1
stride_of (name ∷ []) = Some 1
stride_of (name ∷ word ∷ more) = stride_read (string_bytes word)
