-- The states of a data packet, in the words of the rules.
use Rattle.std.specs.Prelude.{ℕ, List, [], take, drop}
use Rattle.rules.specs.Board.{Packet}
use Rattle.board.specs.declared.data.Judged.{Judged}
use Rattle.board.specs.declared.data.Opened.{Opened}
use Rattle.board.specs.declared.data.Stored.{Stored}

-- the packet of opened contents, with some data
abbrev pub packet_with : Opened → List ℕ → Packet
packet_with o bs = record { ver = o.ver; pn = o.pn; np = o.np; address = o.address; bytes = bs }

-- the packet of opened contents, with the data that lie in the work buffer
abbrev pub packet_in : Opened → List ℕ → Packet
packet_in o work = packet_with o (take o.count (drop o.place work))

-- the same of judged contents
abbrev pub judged_in : Judged → List ℕ → Packet
judged_in j work = packet_in j.opened work

-- a packet with the numbers of what was stored
abbrev pub stored_packet : Stored → Packet
stored_packet s = record { ver = 0; pn = s.pn; np = s.np; address = 0; bytes = [] }
