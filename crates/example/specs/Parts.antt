-- The parts of the example update.
use Rattle.std.specs.Prelude.{ℕ, cond, List, [], ◌∷◌, ◌++◌, replicate, ◌==◌, nat_lt}
use Rattle.cipher.specs.Aes.{aes}
use Rattle.cipher.specs.Ccm.{ccm}
use Rattle.packer.specs.Packets.{address_bytes, word}
use Rattle.packer.specs.Packing.{packet}

-- where the bytes of a part go
abbrev pub part_address : ℕ → ℕ
part_address n = cond (n == 1) 0x4400 (cond (n == 2) 0x4500 0xFFFE)

-- the bytes of a part: 256 bytes of the version's number in parts 1 and 2, the reset vector 0x4400 in part 3
abbrev pub part_bytes : ℕ → ℕ → List ℕ
part_bytes v n = cond (nat_lt n 3) (replicate 256 v) (0x00 ∷ 0x44 ∷ [])

-- the IV of a part
abbrev pub part_iv : ℕ → ℕ → List ℕ
part_iv v n = 1 ∷ v ∷ n ∷ replicate 13 0

-- the core command of a part with some bytes: part n of 3
abbrev pub part_packet : List ℕ → ℕ → ℕ → List ℕ → List ℕ
part_packet key v n bs =
    packet (ccm aes) 0x30 key (part_iv v n) (v ∷ (word n ++ (word 3 ++ (word 0 ++ (address_bytes (part_address n) ++ bs)))))
