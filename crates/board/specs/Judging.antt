-- The judging of a packet, by what it looks at alone: the core command's length, the session and the held record.
use Rattle.std.specs.Prelude.{ℕ, ◌&&◌, List, [], length, false, Result, nat_le}
use Rattle.fault.specs.Checks.{check}
use Rattle.fault.specs.declared.Fault.{Fault}
use Rattle.fault.specs.declared.Fault.TheVariants.{PacketLength}
use Rattle.memory.specs.declared.held.Held.{Held}
use Rattle.memory.specs.declared.supply.Supply.TheVariants.{NoEnd}
use Rattle.rules.specs.Receiver.Receiver.{idle}
use Rattle.rules.specs.declared.Session.{Session}
use Rattle.rules.specs.declared.Session.TheVariants.{Closed}
use Rattle.rules.specs.Board.{KeyPacket, Packet, State, judge_fields, judge_key_fields}

-- a core command has at least and at most so many bytes
abbrev pub sized : ℕ → ℕ → List ℕ → Result (Unit {0}) Fault
sized least most core = check (nat_le least (length core) && nat_le (length core) most) (PacketLength (length core))

-- a state with a session and a held record; judging sees nothing else of it
abbrev pub seen : Session → Held → State
seen n h = record { contents = record { image = []; held = h }; supply = NoEnd; receiver = idle; session = n; dark = false }

-- the checks of the fields of a data packet
abbrev pub judge_by : Session → Held → Packet → Result Packet Fault
judge_by n h p = judge_fields (seen n h) p

-- the checks of the fields of a key packet
abbrev pub judge_key_by : Held → KeyPacket → Result KeyPacket Fault
judge_key_by h p = judge_key_fields (seen Closed h) p
