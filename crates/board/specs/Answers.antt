-- What the calls return, as answers of the rules.
use Rattle.std.specs.Prelude.{ℕ, List, [], take, Some, None, Ok, Err, Option, Result}
use Rattle.fault.specs.declared.Fault.{Fault}
use Rattle.rules.specs.declared.Boot.{Boot}
use Rattle.rules.specs.Board.{Answer, Outcome, State, quiet, refuses, says}
use Rattle.board.specs.declared.answer.ByteAnswer.{ByteAnswer}

-- what a call leaves and answers
abbrev pub call_of : State → Answer → Outcome
call_of s a = record { state = s; answer = a }

-- a refusal of a byte call that sends nothing
abbrev pub refused_byte : Fault → ByteAnswer
refused_byte f = record { refusal = Some f; sent = 0 }

-- the answer with a refusal, if any, and the bytes that are sent
abbrev pub answer_that : Option Fault → List ℕ → Answer
answer_that f bs = record { refusal = f; sent = bs; said = None }

-- the answer of a byte call, with the reply buffer that it left
abbrev pub byte_answer : ByteAnswer → List ℕ → Answer
byte_answer a reply = answer_that a.refusal (take a.sent reply)

-- the answer of a call that sends and says nothing
abbrev pub plain_answer : Result (Unit {0}) Fault → Answer
plain_answer (Ok u) = quiet
plain_answer (Err f) = refuses f []

-- the answer of a boot question
abbrev pub boot_answer : Result Boot Fault → Answer
boot_answer (Ok b) = says b
boot_answer (Err f) = refuses f []
