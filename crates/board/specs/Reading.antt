-- What a receiver means in the words of the rules, and what it answers to a byte.
use Rattle.std.specs.Prelude.{ℕ, List, Some, None, Ok, Err, Option, Result}
use Rattle.fault.specs.declared.Fault.{Fault}
use Rattle.rules.specs.Receiver as rules
use Rattle.rules.specs.Receiver.Receiver.{idle, length_low, length_high, body, check_low, check_high}
use Rattle.rules.specs.Receiver.Read.{waits, bad, good}
use Rattle.board.specs.declared.receiver.Progress.{Progress}
use Rattle.board.specs.declared.receiver.Progress.TheVariants.{Idle, LengthLow, LengthHigh, Body, CheckLow, CheckHigh}
use Rattle.board.specs.declared.receiver.core_command.CoreCommand.{CoreCommand}
use Rattle.board.specs.declared.receiver.Receiver.{Receiver}

-- the receiver of the rules, from how far it is and the bytes of the core command so far
abbrev pub receiver_at : Progress → List ℕ → rules.Receiver
receiver_at Idle core = idle
receiver_at LengthLow core = length_low
receiver_at (LengthHigh low) core = length_high low
receiver_at (Body n) core = body n core
receiver_at CheckLow core = check_low core
receiver_at (CheckHigh low) core = check_high core low

-- what a receiver means
abbrev pub receiver_of : Receiver → rules.Receiver
receiver_of r = receiver_at r.progress r.core

-- the receiver after a byte
abbrev pub left_by : rules.Read → rules.Receiver
left_by (waits r) = r
left_by (bad f) = idle
left_by (good core) = idle

-- what a byte comes to: nothing yet, a core command, or a refusal
abbrev pub answer_by : rules.Read → Result (Option (List ℕ)) Fault
answer_by (waits r) = Ok None
answer_by (bad f) = Err f
answer_by (good core) = Ok (Some core)

-- the same of what is handed out
abbrev pub handed : Result (Option CoreCommand) Fault → Result (Option (List ℕ)) Fault
handed (Ok None) = Ok None
handed (Ok (Some core)) = Ok (Some core.buffer)
handed (Err f) = Err f
