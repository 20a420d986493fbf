-- Full data packets, each of which opens an update, and mass erases, as calls of a board.
use Rattle.std.specs.Prelude.{ℕ, zero, suc, Bool, not, ◌&&◌, List, [], ◌++◌, length, is_none, count_by, ◌==◌}
use Rattle.cipher.specs.Aes.{aes}
use Rattle.cipher.specs.Ccm.{ccm}
use Rattle.wire.specs.Frame.{frame}
use Rattle.rules.specs.Board.{Answer, history}
use Rattle.rules.specs.declared.Event.{Event}
use Rattle.rules.specs.Promises.{Given, start}
use Rattle.board.specs.Running.{answers}
use Rattle.example.specs.Frames.{calls, erase_calls}
use Rattle.example.specs.Parts.{part_bytes, part_packet}

-- the core command of a version's first packet: 256 bytes of the version's number for the start of the lower area
abbrev pub first_packet : List ℕ → ℕ → List ℕ
first_packet key v = part_packet key v 1 (part_bytes v 1)

-- the calls that send the first packets of the versions 1 to n
abbrev pub first_packet_calls : List ℕ → ℕ → List Event
first_packet_calls key zero = []
first_packet_calls key (suc n) = first_packet_calls key n ++ calls (frame (first_packet key (suc n)))

-- the calls that send the mass erase n times
abbrev pub erases_calls : ℕ → List Event
erases_calls zero = []
erases_calls (suc n) = erases_calls n ++ erase_calls

-- whether a call obeyed a core command: it sends, and refuses nothing
abbrev pub obeyed : Answer → Bool
obeyed a = is_none a.refusal && not (length a.sent == 0)

-- how many of the calls obey a core command, on a fresh board with AES-128 in CCM
abbrev pub obeyed_of : Given → List Event → ℕ
obeyed_of g calls = count_by obeyed (answers (history (ccm aes) (start g) calls))
