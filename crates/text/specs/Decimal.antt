-- What decimal text says.
use Rattle.std.specs.Prelude.{ℕ, ◌-◌, cond, List, Some, None, Option, nat_le}
use Rattle.text.specs.Numbers.{among, and_then, number_of}

-- The value of a digit: 0 to 9.
abbrev pub decimal_value : ℕ → Option ℕ
decimal_value b = cond (among 48 57 b) (Some (b - 48)) None

-- A number that is not above a limit.
abbrev pub at_most : ℕ → ℕ → Option ℕ
at_most limit n = cond (nat_le n limit) (Some n) None

-- The number of the digits, of which there is at least one, not above a limit.
abbrev pub decimal_read : ℕ → List ℕ → Option ℕ
decimal_read limit text = and_then (number_of decimal_value 10 text) (at_most limit)
