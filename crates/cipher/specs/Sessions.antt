-- What a packet is sealed with.
use Rattle.std.specs.Prelude.{ℕ, List}

-- the key of a block cipher, and the IV
pub record Setup : Type 0 where
  pub key : List ℕ
  pub iv : List ℕ
