-- The work buffer after a call.
use Rattle.std.specs.Prelude.{ℕ, List, ◌++◌, drop, replicate}

-- 266 zeros
unfoldable pub zeros : List ℕ
zeros = replicate 266 0

-- its first 266 bytes zero, the rest as they were
abbrev pub wiped : List ℕ → List ℕ
wiped xs = zeros ++ drop 266 xs
