-- What a line says: a letter, and a decimal number that ends in the last column.
use Rattle.std.specs.Prelude.{ℕ, Bool, cond, List, [], ◌∷◌, length, drop, Some, None, Option, Result, ◌==◌, nat_le, slice_index}
use Rattle.std.specs.Option.{ok_or}
use Rattle.fault.specs.Checks.{check, then}
use Rattle.fault.specs.declared.Fault.{Fault}
use Rattle.fault.specs.declared.Fault.TheVariants.{BadLine}
use Rattle.memory.specs.declared.supply.Supply.{Supply}
use Rattle.memory.specs.declared.supply.Supply.TheVariants.{NoEnd, Steps}
use Rattle.rules.specs.declared.Event.{Event}
use Rattle.rules.specs.declared.Event.TheVariants.{Byte, Silence, Question, PowerUp}
use Rattle.text.specs.Decimal.{decimal_read}
use Rattle.text.specs.Numbers.{and_then}

-- What stands behind the spaces.
abbrev pub behind_spaces : List ℕ → List ℕ
behind_spaces [] = []
behind_spaces (b ∷ bs) = cond (b == 32) (behind_spaces bs) (b ∷ bs)

-- The number that ends in the last column: spaces, and then nothing but digits, at least one; at most 4294967295.
abbrev pub justified_decimal_read : List ℕ → Option ℕ
justified_decimal_read bs = decimal_read 4294967295 (behind_spaces bs)

-- The supply of a power-up: 4294967295 is 'no end'.
abbrev pub supply_of : ℕ → Supply
supply_of n = cond (n == 4294967295) NoEnd (Steps n)

-- An event, where its number passes.
abbrev pub passing : Bool → Event → Option Event
passing t e = cond t (Some e) None

-- The event of a letter and a number: B (66) a byte with buffers of full size, S (83) a silence, Q (81) a boot question, R (82) a power-up.
abbrev pub event_of : ℕ → ℕ → Option Event
event_of letter n =
    cond (letter == 66) (passing (nat_le n 255) (Byte n 11 266))
    (cond (letter == 83) (passing (n == 0) Silence)
    (cond (letter == 81) (passing (n == 0) Question)
    (cond (letter == 82) (Some (PowerUp (supply_of n)))
    None)))

-- The event of a line: twelve bytes, a letter and in columns 2 to 12 a number; any other line is malformed.
abbrev pub line_event : List ℕ → Result Event Fault
line_event line =
    then (check (length line == 12) BadLine)
    (ok_or (and_then (justified_decimal_read (drop 1 line)) (event_of (slice_index line 0))) BadLine)

-- A byte at the front of the first line, if there is one.
abbrev pub before_first : ℕ → List (List ℕ) → List (List ℕ)
before_first b [] = []
before_first b (line ∷ lines) = (b ∷ line) ∷ lines

-- The lines of a listing's bytes, each up to its 0x0A and without it; bytes behind the last 0x0A are none.
abbrev pub whole_lines : List ℕ → List (List ℕ)
whole_lines [] = []
whole_lines (b ∷ bs) = cond (b == 0x0A) ([] ∷ whole_lines bs) (before_first b (whole_lines bs))
