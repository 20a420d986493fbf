-- Numbers of digits in a base.
use Rattle.std.specs.Prelude.{ℕ, ◌+◌, ◌*◌, Bool, cond, ◌&&◌, List, [], ◌∷◌, Some, None, Option, nat_lt, nat_le}
use Rattle.std.specs.Char.{digit_value}

-- Whether a byte is one of a to z, both included.
abbrev pub among : ℕ → ℕ → ℕ → Bool
among a z b = nat_le a b && nat_le b z

-- the bind of Option: f of a value, none without one
abbrev pub and_then : {A B : Type 0} → Option A → (A → Option B) → Option B
and_then None f = None
and_then (Some x) f = f x

-- The value of a digit in a radix: 0 to 9, then a letter, capital or small.
abbrev pub digit_in : ℕ → ℕ → Option ℕ
digit_in radix b = cond (nat_lt (digit_value b) radix) (Some (digit_value b)) None

-- The number that digits write in a base, behind the number so far; none where a byte is no digit.
abbrev pub number_after : (ℕ → Option ℕ) → ℕ → ℕ → List ℕ → Option ℕ
number_after digit base n [] = Some n
number_after digit base n (b ∷ bs) = and_then (digit b) (λ d. number_after digit base (n * base + d) bs)

-- The same from the first digit on; none where there is no digit at all.
abbrev pub number_of : (ℕ → Option ℕ) → ℕ → List ℕ → Option ℕ
number_of digit base [] = None
number_of digit base (b ∷ bs) = number_after digit base 0 (b ∷ bs)
