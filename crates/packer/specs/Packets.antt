-- The contents of packets, low byte first.
use Rattle.std.specs.Prelude.{ℕ, ◌/◌, ◌%◌, List, [], ◌∷◌, ◌++◌}
use Rattle.packer.specs.declared.packet.DataPacket.{DataPacket}
use Rattle.packer.specs.declared.packet.KeyPacket.{KeyPacket}

-- a word of two bytes
abbrev pub word : ℕ → List ℕ
word w = (w % 256) ∷ (w / 256 % 256) ∷ []

-- an address of three bytes
abbrev pub address_bytes : ℕ → List ℕ
address_bytes a = (a % 256) ∷ (a / 256 % 256) ∷ (a / 65536 % 256) ∷ []

-- what stands before the data: VER, PN, NP, RSV 0, address
abbrev pub data_header : DataPacket → List ℕ
data_header p = p.version ∷ (word p.number ++ (word p.count ++ (word 0 ++ address_bytes p.address)))

-- the contents of a data packet
abbrev pub data_contents : DataPacket → List ℕ
data_contents p = data_header p ++ p.bytes.now

-- the contents of a key packet: KT, KV, the key
abbrev pub key_contents : KeyPacket → List ℕ
key_contents p = p.kind ∷ p.version ∷ p.key
