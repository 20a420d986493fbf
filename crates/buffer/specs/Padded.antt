-- Bytes in use at the front of an array, with zeros behind them.
use Rattle.std.specs.Prelude.{◌≡◌, ℕ, ◌-◌, ◌≤◌, List, ◌++◌, length, take, replicate, min}

-- how many bytes a buffer of n bytes can hold: its count has two bytes
abbrev pub room : ℕ → ℕ
room n = min n 0xFFFF

-- the bytes, with zeros behind them up to n
abbrev pub padding : ℕ → List ℕ → List ℕ
padding n xs = xs ++ replicate (n - length xs) 0

-- an array of n bytes, of which the first `count` are in use
pub record Padded (n count : ℕ) (bytes : List ℕ) : Type 0 where
  pub fits : count ≤ n
  pub size : length bytes ≡ n
  pub zeros : bytes ≡ padding n (take count bytes)
