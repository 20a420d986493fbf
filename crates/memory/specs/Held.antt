-- The held record: firmware version, unfinished mark, two key records.
use Rattle.std.specs.Prelude.{ℕ, Bool, false, List, [], ◌∷◌, Ok, Err, Result, if◌then◌else◌, ◌==◌, slice_set}
use Rattle.fault.specs.declared.Fault.{Fault}
use Rattle.fault.specs.declared.Fault.TheVariants.{BadKeyType}
use Rattle.memory.specs.declared.held.Held.{Held}
use Rattle.memory.specs.declared.held.KeyRecord.{KeyRecord}
use Rattle.memory.specs.declared.held.KeySlot.{KeySlot}
use Rattle.memory.specs.declared.held.KeySlot.TheVariants.{Data, Kek}

-- a slot's place in the key table
abbrev pub slot_place : KeySlot → ℕ
slot_place Data = 0
slot_place Kek = 1

-- the slot of a key type: 0 is the data key, 2 the key-encryption key; any other type is refused
abbrev pub slot_of : ℕ → Result KeySlot Fault
slot_of t = if t == 0 then Ok Data else (if t == 2 then Ok Kek else Err (BadKeyType t))

-- the held record with another version and mark
abbrev pub held_version : ℕ → Bool → Held → Held
held_version v b h = record { version = v; unfinished = b; keys = h.keys }

-- the held record with another key record
abbrev pub held_key : KeySlot → KeyRecord → Held → Held
held_key s r h = record { version = h.version; unfinished = h.unfinished; keys = slice_set h.keys (slot_place s) r }

-- a key of version 0
abbrev pub first_key : List ℕ → KeyRecord
first_key k = record { key = k; version = 0 }

-- what a new board holds
abbrev pub fresh_held : List ℕ → List ℕ → Held
fresh_held data_key kek = record { version = 0; unfinished = false; keys = first_key data_key ∷ first_key kek ∷ [] }
