-- The row that is printed for an answer.
use Rattle.std.specs.Prelude.{ℕ, ◌-◌, ◌%◌, List, [], ◌∷◌, ◌++◌, codes, length, replicate, Some, None, decimal, Option}
use Rattle.std.specs.List.{flat_map}
use Rattle.fault.specs.declared.Fault.{Fault}
use Rattle.fault.specs.Refusals.{layer_name, refusal}
use Rattle.rules.specs.declared.Boot.{Boot}
use Rattle.rules.specs.Board.{Answer, boot_number}
use Rattle.listing.specs.declared.rows.Detail.{Detail}
use Rattle.listing.specs.declared.rows.Detail.TheVariants.{Number, Place}

-- A number that ends in the last of so many columns, with spaces before it.
abbrev pub right_justified : ℕ → ℕ → List ℕ
right_justified width n = replicate (width - length (decimal n)) 32 ++ decimal n

-- A name that begins in the first of so many columns, with spaces behind it.
abbrev pub left_justified : ℕ → List ℕ → List ℕ
left_justified width name = name ++ replicate (width - length name) 32

-- Numbers in four columns each.
abbrev pub in_four_columns : List ℕ → List ℕ
in_four_columns ns = flat_map (right_justified 4) ns

-- The number of a refusal, 0 for none.
abbrev pub refusal_number : Option Fault → ℕ
refusal_number None = 0
refusal_number (Some f) = (refusal f).number

-- The name of the layer that refused, a hyphen for none.
abbrev pub refusal_layer : Option Fault → List ℕ
refusal_layer None = codes "-"
refusal_layer (Some f) = layer_name (refusal f).layer

-- The place of a refusal, 0 for none.
abbrev pub refusal_place : Option Fault → ℕ
refusal_place None = 0
refusal_place (Some f) = (refusal f).place

-- What stands behind a refusal's number: nothing; or a space, the layer in seven columns and the place in eleven.
abbrev pub detail_columns : Detail → Option Fault → List ℕ
detail_columns Number f = []
detail_columns Place f = 32 ∷ (left_justified 7 (refusal_layer f) ++ right_justified 11 (refusal_place f))

-- The columns that it takes.
abbrev pub detail_width : Detail → ℕ
detail_width Number = 0
detail_width Place = 19

-- The number of what a boot question says, where it says something.
abbrev pub said_number : Option Boot → List ℕ
said_number None = []
said_number (Some b) = boot_number b ∷ []

-- A row: the event's number modulo 1,000,000 in six columns; the refusal's number in four, and what is shown behind it; in four each what a boot question says
-- and the bytes that are sent; 0x0A.
unfoldable pub row : Detail → ℕ → Answer → List ℕ
row detail number a =
    right_justified 6 (number % 1000000)
    ++ (right_justified 4 (refusal_number a.refusal)
    ++ (detail_columns detail a.refusal ++ (in_four_columns (said_number a.said) ++ (in_four_columns a.sent ++ 0x0A ∷ []))))

-- the answer made of these parts
abbrev pub answer_of : Option Fault → Option Boot → List ℕ → Answer
answer_of f b bs = record { refusal = f; sent = bs; said = b }
