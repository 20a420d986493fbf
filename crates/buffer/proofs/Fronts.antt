-- The front of an array that there is room for.
use Rattle.std.proofs.Common.{◌≡◌, ℕ, ◌≤◌, List, length, take, arith}
use Rattle.std.proofs.lemmas.List.{length-take, take_all}

-- is its front
pub front_whole : (n c : ℕ) (xs : List ℕ) → length xs ≤ n → take n (take c xs) ≡ take c xs
front_whole n c xs h = take_all n (take c xs) (omega (arith, length-take c xs, h))
