-- Rows for answers and their numbers, and what a replay of calls leaves and promises.
use Rattle.std.specs.Prelude.{◌≡◌, ℕ, ◌+◌, ◌%◌, List, [], ◌∷◌, ◌++◌}
use Rattle.cipher.specs.Cipher.{Cipher}
use Rattle.rules.specs.declared.Event.{Event}
use Rattle.rules.specs.Board.{Answer, State, history, run}
use Rattle.rules.specs.Promises.{Given, KeptPromises, start}
use Rattle.board.specs.Running.{answers}
use Rattle.listing.specs.declared.rows.Detail.{Detail}
use Rattle.listing.specs.Rows.{row}

-- events are numbered modulo 1,000,000
abbrev pub next_number : ℕ → ℕ
next_number n = (n % 1000000 + 1) % 1000000

-- a row for each answer, numbered from n on
abbrev pub rows_from : Detail → ℕ → List Answer → List ℕ
rows_from d n [] = []
rows_from d n (a ∷ rest) = row d n a ++ rows_from d (next_number n) rest

-- the next number, after a row for each answer
abbrev pub number_behind : ℕ → List Answer → ℕ
number_behind n [] = n
number_behind n (a ∷ rest) = number_behind (next_number n) rest

-- A row for each answer was appended to old, numbered from n on; m is the number after the last.
pub record Printed (d : Detail) (n : ℕ) (given : List Answer) (old new : List ℕ) (m : ℕ) : Type 0 where
  pub rows : new ≡ old ++ rows_from d n given
  pub number : m ≡ number_behind n given

-- Calls were made on a board, and their rows printed: board and answers are those of the rules' history of the calls.
pub record Replayed (C : Cipher) (before : State) (events : List Event) (d : Detail) (n : ℕ) (old : List ℕ) (after : State) (new : List ℕ) (m : ℕ) : Type 0 where
  pub state : after ≡ run C before events
  pub printed : Printed d n (answers (history C before events)) old new m
  -- and the three promises hold of the whole history, if a fresh board came here by some calls
  pub promises : (g : Given) (past : List Event) → before ≡ run C (start g) past → KeptPromises C g (past ++ events)
