-- What a board means: a state of the rules.
use Rattle.std.specs.Prelude.{Bool}
use Rattle.memory.specs.Meaning.{Meaning}
use Rattle.board.specs.Outcomes.{Working, board_with}
use Rattle.rules.specs.Receiver.{Receiver}
use Rattle.rules.specs.Board.{State}
use Rattle.rules.specs.Promises.{Given, start}
use Rattle.board.specs.declared.board.Board.TheInside.{Inside as Board}
use Rattle.board.specs.declared.device.Device.TheInside.{Inside as Device}

-- a device and a board made anew of their fields: they have no others
abbrev pub device_whole : {M : Type 0} → Device M → Device M
device_whole d = record { memory = d.memory; session = d.session }

abbrev pub board_whole : {M C : Type 0} → Board M C → Board M C
board_whole b = record { device = b.device; receiver = b.receiver; dark = b.dark; cipher = b.cipher }

-- a board of what it works on, a receiver and a power state
abbrev pub board_of : Working → Receiver → Bool → State
board_of w h d = board_with w.memory h w.session d

-- the memory of a board
abbrev pub memory_of : State → Meaning
memory_of s = record { contents = s.contents; supply = s.supply }

-- the memory of a fresh board
abbrev pub fresh_memory : Given → Meaning
fresh_memory g = memory_of (start g)
