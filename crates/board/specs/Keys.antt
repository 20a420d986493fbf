-- The states of a key packet, in the words of the rules.
use Rattle.std.specs.Prelude.{ℕ, List, [], ◌∷◌, take, drop, Ok, Err, Result}
use Rattle.fault.specs.declared.Fault.{Fault}
use Rattle.memory.specs.Meaning.{Step}
use Rattle.memory.specs.Meaning.Step.{set_key}
use Rattle.rules.specs.Board.{KeyPacket, key_steps}
use Rattle.board.specs.declared.key.JudgedKey.{JudgedKey}
use Rattle.board.specs.declared.key.OpenedKey.{OpenedKey}

-- the packet of opened contents, with the key that lies in the work buffer
abbrev pub key_in : OpenedKey → List ℕ → KeyPacket
key_in o work = record { kt = o.kt; kv = o.kv; key = take 16 (drop o.place work) }

-- the one step of judged contents, whose key lies in the work buffer
abbrev pub key_step : JudgedKey → List ℕ → List Step
key_step j work = set_key j.slot (record { key = take 16 (drop j.place work); version = j.kv }) ∷ []

-- the steps of a packet that passed its checks
abbrev pub steps_of : Result KeyPacket Fault → Result (List Step) Fault
steps_of (Ok p) = Ok (key_steps p)
steps_of (Err f) = Err f
