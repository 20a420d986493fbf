-- What packing gives: the whole frame of a sealed packet, or a refusal.
use Rattle.std.specs.Prelude.{◌≡◌, ℕ, ◌+◌, ◌-◌, ◌&&◌, List, ◌∷◌, ◌++◌, length, take, drop, Some, Ok, Err, Result, nat_le}
use Rattle.fault.specs.Checks.{check, then}
use Rattle.fault.specs.declared.Fault.{Fault}
use Rattle.fault.specs.declared.Fault.TheVariants.{DataCount, OutsideMap, OutputShort}
use Rattle.cipher.specs.Cipher.{Cipher, iv_checked}
use Rattle.wire.specs.Frame.{frame, over}
use Rattle.packer.specs.Packets.{data_contents, key_contents}
use Rattle.packer.specs.declared.packet.DataPacket.{DataPacket}
use Rattle.packer.specs.declared.packet.KeyPacket.{KeyPacket}

-- the core command of a packet: its command byte, its IV, its body
abbrev pub packet : Cipher → ℕ → List ℕ → List ℕ → List ℕ → List ℕ
packet C command key iv contents = command ∷ (iv ++ C.seal key iv contents)

-- the frame of a data packet, or the first check that refuses it, for an output of some room
abbrev pub packed_data : Cipher → List ℕ → List ℕ → DataPacket → ℕ → Result (List ℕ) Fault
packed_data C key iv p room =
    then (check (nat_le 1 (length p.bytes.now) && nat_le (length p.bytes.now) 256) DataCount)
    (then (check (nat_le p.address 0xFFFFFF) OutsideMap)
    (then (iv_checked C iv)
    (then (check (nat_le (48 + length p.bytes.now) room) OutputShort)
    (Ok (frame (packet C 0x30 key iv (data_contents p)))))))

-- the frame of a key packet, or the first check that refuses it
abbrev pub packed_key : Cipher → List ℕ → List ℕ → KeyPacket → ℕ → Result (List ℕ) Fault
packed_key C kek iv p room =
    then (iv_checked C iv) (then (check (nat_le 56 room) OutputShort) (Ok (frame (packet C 0x31 kek iv (key_contents p)))))

-- what packing answers: the length of the frame
abbrev pub frame_length : Result (List ℕ) Fault → Result ℕ Fault
frame_length (Ok f) = Ok (length f)
frame_length (Err e) = Err e

-- what packing leaves: the frame over the front of the output, or the output unchanged
abbrev pub laid : Result (List ℕ) Fault → List ℕ → List ℕ
laid (Ok f) out = over f out
laid (Err e) out = out

-- the packet of the frame of n bytes at the front of a buffer opens to these contents
abbrev pub OpensTo : Cipher → List ℕ → List ℕ → List ℕ → List ℕ → ℕ → Type 0
OpensTo C key iv contents out n = C.opened key iv (take (n - 22) (drop 20 out)) ≡ Some contents
