-- The parts of a packet's core command.
use Rattle.std.specs.Prelude.{ℕ, List, take, drop}

-- its IV: the 16 bytes behind the command byte
abbrev pub iv_of : List ℕ → List ℕ
iv_of core = take 16 (drop 1 core)

-- its body: what stands behind the IV
abbrev pub body_of : List ℕ → List ℕ
body_of core = drop 17 core
