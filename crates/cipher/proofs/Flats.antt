-- Four words beside one another.
use Rattle.std.proofs.Common.{◌≡◌, ℕ, List, ◌++◌}

pub join4 : {a b c d a' b' c' d' : List ℕ} → a ≡ a' → b ≡ b' → c ≡ c' → d ≡ d' → a ++ (b ++ (c ++ d)) ≡ a' ++ (b' ++ (c' ++ d'))
join4 p q r s = cc
