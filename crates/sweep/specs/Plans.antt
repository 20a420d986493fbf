-- The calls of the plans.
use Rattle.std.specs.Prelude.{ℕ, zero, suc, List, [], ◌∷◌, ◌++◌}
use Rattle.cipher.specs.Aes.{aes}
use Rattle.cipher.specs.Ccm.{ccm}
use Rattle.example.specs.Frames.{calls}
use Rattle.example.specs.Parts.{part_bytes, part_packet}
use Rattle.packer.specs.Packing.{packet}
use Rattle.rules.specs.declared.Event.{Event}
use Rattle.sweep.specs.declared.plans.TheConstants.{KEK, KEY_IV, NEW_KEY}
use Rattle.wire.specs.Frame.{frame}

-- the calls that send part n of the update of version 2, sealed under a key
unfoldable pub part_calls : List ℕ → ℕ → List Event
part_calls key n = calls (frame (part_packet key 2 n (part_bytes 2 n)))

-- the calls that send its first n parts
unfoldable pub parts_calls : List ℕ → ℕ → List Event
parts_calls key zero = []
parts_calls key (suc n) = parts_calls key n ++ part_calls key (suc n)

-- the calls that send the update: its three parts
abbrev pub update_calls : List ℕ → List Event
update_calls key = parts_calls key 3

-- the calls that send a new data key: type 0, version 1
unfoldable pub key_calls : List Event
key_calls = calls (frame (packet (ccm aes) 0x31 KEK KEY_IV (0 ∷ 1 ∷ NEW_KEY)))
