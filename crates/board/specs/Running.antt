-- Runs of calls: answers and board are those of the rules' history, and the promises hold of it.
use Rattle.std.specs.Prelude.{◌≡◌, List, ◌++◌, map, Ok, Err, Result}
use Rattle.cipher.specs.Cipher.{Cipher}
use Rattle.rules.specs.declared.Event.{Event}
use Rattle.rules.specs.Board.{Answer, Call, State, history, run}
use Rattle.rules.specs.Promises.{Given, KeptPromises, start}

-- the answers of a history
abbrev pub answers : List Call → List Answer
answers cs = map (λ (c : Call). c.answer) cs

-- What a run over a list of events leaves and answers, or that there was no memory for the answers.
abbrev pub Answered : {V E : Type 0} → (V → List Answer) → Cipher → State → List Event → State → Result V E → Type 0
-- the board after it and its answers are those of the rules' history
Answered items C before events after (Ok v) = (after ≡ run C before events) × (items v ≡ answers (history C before events))
-- nothing happened
Answered items C before events after (Err e) = after ≡ before

-- A run of calls, whole: what it leaves and answers, and the three promises.
pub record Ran {V E : Type 0} (items : V → List Answer) (C : Cipher) (before : State) (events : List Event) (after : State) (r : Result V E) : Type 0 where
  pub answered : Answered items C before events after r
  -- If a fresh board, with any image and any two keys, came here by the calls of some list (of none, where it is fresh itself),
  -- then the three promises hold of its whole history, with these calls after those.
  pub promises : (g : Given) (past : List Event) → before ≡ run C (start g) past → KeptPromises C g (past ++ events)
