-- A listing, line by line, on a board.
use Rattle.std.specs.Prelude.{ℕ, List, [], ◌∷◌, ◌++◌, Ok, Err, Result}
use Rattle.fault.specs.declared.Fault.{Fault}
use Rattle.cipher.specs.Cipher.{Cipher}
use Rattle.rules.specs.declared.Event.{Event}
use Rattle.rules.specs.Board.{Outcome, State, history, refuses, run, step}
use Rattle.board.specs.Running.{answers}
use Rattle.listing.specs.Lines.{line_event, whole_lines}
use Rattle.listing.specs.declared.rows.Detail.{Detail}
use Rattle.listing.specs.Rows.{row}
use Rattle.listing.specs.Replaying.{next_number, number_behind, rows_from}
use Rattle.listing.specs.declared.waiting.Bench.{Bench}

-- How far a listing has come: what its rows show of refusals, the board, the number of the next event, and the rows that are not printed.
pub record Reached : Type 0 where
  pub detail : Detail
  pub state : State
  pub number : ℕ
  pub rows : List ℕ

-- what a line comes to on a board: the call that it says; a malformed one gets its refusal, and nothing is done
abbrev pub line_outcome : Cipher → State → Result Event Fault → Outcome
line_outcome C s (Ok e) = step C s e
line_outcome C s (Err f) = record { state = s; answer = refuses f [] }

-- after one more outcome, with its row
abbrev pub with_outcome : Outcome → Reached → Reached
with_outcome o r = record { detail = r.detail; state = o.state; number = next_number r.number; rows = r.rows ++ row r.detail r.number o.answer }

-- after one more line
abbrev pub with_line : Cipher → List ℕ → Reached → Reached
with_line C line r = with_outcome (line_outcome C r.state (line_event line)) r

-- after more lines
abbrev pub with_lines : Cipher → List (List ℕ) → Reached → Reached
with_lines C [] r = r
with_lines C (line ∷ lines) r = with_lines C lines (with_line C line r)

-- the same, with rows before its own
abbrev pub behind_rows : List ℕ → Reached → Reached
behind_rows written r = record { detail = r.detail; state = r.state; number = r.number; rows = written ++ r.rows }

-- the same, without its rows
abbrev pub without_rows : Reached → Reached
without_rows r = record { detail = r.detail; state = r.state; number = r.number; rows = [] }

-- a listing that has not begun; its events are numbered from 1
abbrev pub beginning : Detail → State → Reached
beginning d s = record { detail = d; state = s; number = 1; rows = [] }

-- the rows of a listing's bytes: of all its lines, in order
abbrev pub listing_rows : Cipher → Detail → State → List ℕ → List ℕ
listing_rows C d s bytes = (with_lines C (whole_lines bytes) (beginning d s)).rows

-- the board that all lines of a listing's bytes leave
abbrev pub listing_state : Cipher → Detail → State → List ℕ → State
listing_state C d s bytes = (with_lines C (whole_lines bytes) (beginning d s)).state

-- after more calls
abbrev pub with_calls : Cipher → List Event → Reached → Reached
with_calls C es r =
    let given = answers (history C r.state es) in
    record { detail = r.detail; state = run C r.state es; number = number_behind r.number given; rows = r.rows ++ rows_from r.detail r.number given }

module _ {M C : Type 0} where
  -- how far a bench has come, the calls that wait counted in
  abbrev pub reached_by : Cipher → Bench M C → Reached
  reached_by K b = with_calls K b.events.items (record { detail = b.detail; state = b.board; number = b.number; rows = b.rows.items })
