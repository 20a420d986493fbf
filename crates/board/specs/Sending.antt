-- What is sent, and what a core command that was obeyed comes to.
use Rattle.std.specs.Prelude.{ℕ, List, [], ◌∷◌, Ok, Err, Result}
use Rattle.fault.specs.declared.Fault.{Fault}
use Rattle.board.specs.Outcomes.{Working, left_board, refused_sends, went_dark}
use Rattle.rules.specs.Receiver.{read}
use Rattle.rules.specs.Commands.{message, version_answer}
use Rattle.rules.specs.Board.{Answer, Outcome, State, enact, heard_read, refuses, respond, sends}
use Rattle.cipher.specs.Cipher.{Cipher}
use Rattle.board.specs.declared.reply.Reply.{Reply}
use Rattle.board.specs.declared.reply.Reply.TheVariants.{Nothing, Number, Version, Done, Refused, Unknown}

-- the bytes of a reply
abbrev pub sent_of : Reply → List ℕ
sent_of Nothing = []
sent_of (Number n) = n ∷ []
sent_of Version = version_answer
sent_of Done = message 0
sent_of Refused = message 5
sent_of Unknown = message 7

-- the answer with a reply, or with a refusal
abbrev pub replied : Result Reply Fault → Answer
replied (Ok p) = sends (sent_of p)
replied (Err f) = refuses f (refused_sends f)

-- the outcome of a core command, from what it leaves, and its answer
abbrev pub obeyed : Working → Result Reply Fault → Outcome
obeyed w r = record { state = left_board w r; answer = replied r }

-- an outcome, from the board that is left, which an answer of 3 makes dark, and the answer
abbrev pub outcome_of : State → Result Reply Fault → Outcome
outcome_of s r = record {
  state = record { contents = s.contents; supply = s.supply; receiver = s.receiver; session = s.session; dark = went_dark r };
  answer = replied r;
}

-- what the rules make of a byte that is read
unfoldable pub on_byte : Cipher → State → ℕ → Outcome
on_byte C s b = enact (respond C s (heard_read (read s.receiver b))) s
