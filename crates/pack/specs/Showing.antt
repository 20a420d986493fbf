-- What is printed of a packet.
use Rattle.std.specs.Prelude.{ℕ, cond, List, codes, ◌==◌}

-- the name of a key's type
abbrev pub key_name : ℕ → List ℕ
key_name kind = cond (kind == 0) (codes "data key") (cond (kind == 2) (codes "key-encryption key") (codes "key of an unknown type"))
