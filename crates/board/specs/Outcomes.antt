-- What taking a packet comes to, as an outcome of the rules' machine.
use Rattle.std.specs.Prelude.{ℕ, Bool, false, cond, List, [], ◌∷◌, Ok, Err, Result, ◌==◌, nat_le}
use Rattle.fault.specs.declared.Fault.{Fault}
use Rattle.fault.specs.Refusals.{refusal}
use Rattle.memory.specs.Meaning.{Meaning}
use Rattle.rules.specs.Receiver.{Receiver}
use Rattle.rules.specs.Receiver.Receiver.{idle}
use Rattle.rules.specs.declared.Session.{Session}
use Rattle.rules.specs.Commands.{message}
use Rattle.rules.specs.Board.{State, Answer, Outcome, sends, refuses}

-- a board with a memory, a receiver, a session and a power state
abbrev pub board_with : Meaning → Receiver → Session → Bool → State
board_with m r n d = record { contents = m.contents; supply = m.supply; receiver = r; session = n; dark = d }

-- a board that is not dark, with an idle receiver
abbrev pub lit_board : Meaning → Session → State
lit_board m n = board_with m idle n false

-- what a refusal of a byte that was read sends, by its number (1 and 2 come before that and send nothing): nothing at 3, message 0x07 at 9,
-- the number itself from 81 on, message 0x05 at any other
abbrev pub number_sends : ℕ → List ℕ
number_sends n = cond (n == 3) [] (cond (n == 9) (message 7) (cond (nat_le 81 n) (n ∷ []) (message 5)))

-- what a refusal sends
abbrev pub refused_sends : Fault → List ℕ
refused_sends f = number_sends (refusal f).number

-- whether a refusal is 3
abbrev pub is_dark : Fault → Bool
is_dark f = (refusal f).number == 3

-- whether an answer is 3
abbrev pub went_dark : {X : Type 0} → Result X Fault → Bool
went_dark (Ok x) = false
went_dark (Err f) = is_dark f

-- an answer without its value
abbrev pub done : {X : Type 0} → Result X Fault → Result (Unit {0}) Fault
done (Ok x) = Ok tt
done (Err f) = Err f

-- the answer to a packet: taken, or refused
abbrev pub packet_answer : Result (Unit {0}) Fault → Answer
packet_answer (Ok u) = sends (message 0)
packet_answer (Err f) = refuses f (refused_sends f)

-- what a board works on while it obeys
pub record Working : Type 0 where
  pub memory : Meaning
  pub session : Session

-- a memory and a session
abbrev pub works : Meaning → Session → Working
works m n = record { memory = m; session = n }

-- a board that is not dark, with an idle receiver
abbrev pub lit : Working → State
lit w = lit_board w.memory w.session

-- the board that a call leaves, with an idle receiver: dark only where the answer is 3
abbrev pub left_board : {X : Type 0} → Working → Result X Fault → State
left_board w r = board_with w.memory idle w.session (went_dark r)

-- the outcome of a packet, from what it leaves, and its answer
abbrev pub packet_outcome : Working → Result (Unit {0}) Fault → Outcome
packet_outcome w r = record { state = left_board w r; answer = packet_answer r }
