-- Answers as text.
use Rattle.std.specs.Prelude.{ℕ, List, [], ◌∷◌, ◌++◌, codes, decimal, Some, None, Ok, Err, Option, Result}
use Rattle.fault.specs.declared.Fault.{Fault}
use Rattle.fault.specs.Refusals.{refusal}
use Rattle.text.specs.Lines.{pair_text}

-- two digits for each byte, run together
abbrev pub pairs_text : List ℕ → List ℕ
pairs_text [] = []
pairs_text (b ∷ bs) = pair_text b ++ pairs_text bs

-- the same, and a hyphen for no bytes
abbrev pub bytes_text : List ℕ → List ℕ
bytes_text [] = 45 ∷ []
bytes_text (b ∷ bs) = pairs_text (b ∷ bs)

-- the answer to a case: bytes, or a refusal's number and place, or that the line is no case
abbrev pub answer_text : Option (Result (List ℕ) Fault) → List ℕ
answer_text None = codes "malformed"
answer_text (Some (Ok bytes)) = bytes_text bytes
answer_text (Some (Err f)) = codes "refused " ++ (decimal (refusal f).number ++ (32 ∷ decimal (refusal f).place))

-- its row
abbrev pub row_text : Option (Result (List ℕ) Fault) → List ℕ
row_text a = answer_text a ++ 0x0A ∷ []
