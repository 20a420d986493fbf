-- What hexadecimal text says.
use Rattle.std.specs.Prelude.{ℕ, ◌+◌, ◌-◌, ◌*◌, min, Bool, cond, ◌&&◌, List, [], ◌∷◌, length, drop, Some, None, Option, ◌==◌, nat_lt, slice_index}
use Rattle.std.specs.Option.{option_map}
use Rattle.text.specs.Numbers.{among, and_then, number_of}

-- The value of a digit: 0 to 9, A to F or a to f.
abbrev pub hex_value : ℕ → Option ℕ
hex_value b = cond (among 48 57 b) (Some (b - 48)) (cond (among 65 70 b) (Some (b - 65 + 10)) (cond (among 97 102 b) (Some (b - 97 + 10)) None))

-- The byte of two digits, the high one first.
abbrev pub hex_pair : ℕ → ℕ → Option ℕ
hex_pair high low = and_then (hex_value high) (λ h. and_then (hex_value low) (λ l. Some (h * 16 + l)))

-- The bytes of the digits, two for each; none where a digit is missing or is no digit.
abbrev pub hex_read : List ℕ → Option (List ℕ)
hex_read [] = Some []
hex_read (high ∷ []) = None
hex_read (high ∷ low ∷ ds) = and_then (hex_pair high low) (λ b. option_map (λ bs. b ∷ bs) (hex_read ds))

-- A text, where it has n bytes.
abbrev pub exactly : ℕ → List ℕ → Option (List ℕ)
exactly n ds = cond (length ds == n) (Some ds) None

-- The bytes of exactly 32 digits.
abbrev pub block_read : List ℕ → Option (List ℕ)
block_read ds = and_then (exactly 32 ds) hex_read

-- Whether the text begins with "0x".
abbrev pub begins_0x : List ℕ → Bool
begins_0x bs = nat_lt 1 (length bs) && (slice_index bs 0 == 48 && slice_index bs 1 == 120)

-- The number behind "0x", at most 2^32 - 1: a larger one reads as that.
abbrev pub hex_number_read : List ℕ → Option ℕ
hex_number_read bs = cond (begins_0x bs) (option_map (min 0xFFFFFFFF) (number_of hex_value 16 (drop 2 bs))) None
