-- A board whose power goes while calls are made, comes back, and is sent more calls: what it says to boot questions, and whether it boots a half program.
use Rattle.std.specs.Prelude.{ℕ, ◌-◌, Bool, true, false, not, ◌&&◌, ◌||◌, List, Some, None, Option}
use Rattle.board.specs.Outcomes.{lit_board}
use Rattle.board.specs.State.{memory_of}
use Rattle.cipher.specs.Aes.{aes}
use Rattle.cipher.specs.Ccm.{ccm}
use Rattle.cipher.specs.Cipher.{Cipher}
use Rattle.memory.specs.Meaning.{Meaning}
use Rattle.memory.specs.declared.supply.Supply.{Supply}
use Rattle.memory.specs.declared.supply.Supply.TheVariants.{NoEnd, Steps}
use Rattle.rules.specs.declared.Boot.{Boot}
use Rattle.rules.specs.declared.Boot.TheVariants.{Application, Blank, Unfinished}
use Rattle.rules.specs.declared.Event.{Event}
use Rattle.rules.specs.declared.Event.TheVariants.{PowerUp, Question}
use Rattle.rules.specs.declared.Session.TheVariants.{Closed}
use Rattle.rules.specs.Board.{State, run, step}
use Rattle.sweep.specs.Kinds.{same}
use Rattle.sweep.specs.Programs.{program_left}
use Rattle.sweep.specs.declared.cut.Cut.{Cut}

-- a board that was made on a memory: not dark, with an idle receiver and no session
abbrev pub board_on : Meaning → State
board_on m = lit_board m Closed

-- the board after the calls, given power for n storing steps
abbrev pub cut_at : Cipher → ℕ → List Event → State → State
cut_at C n calls s = run C (step C s (PowerUp (Steps n))).state calls

-- what a boot question says; nothing where it is refused
abbrev pub said_at : Cipher → State → Option Boot
said_at C s = (step C s Question).answer.said

-- the board after a boot question and a power-up without end
abbrev pub power_back : Cipher → State → State
power_back C s = (step C (step C s Question).state (PowerUp NoEnd)).state

-- the board on a memory whose power goes after n storing steps of the calls
abbrev pub gone_board : ℕ → List Event → Meaning → State
gone_board n calls m = cut_at (ccm aes) n calls (board_on m)

-- the same with the power back
abbrev pub back_board : ℕ → List Event → Meaning → State
back_board n calls m = power_back (ccm aes) (gone_board n calls m)

-- the board on the memory that it left, after more calls
abbrev pub again_board : ℕ → List Event → List Event → Meaning → State
again_board n calls more m = run (ccm aes) (board_on (memory_of (back_board n calls m))) more

-- whether an answer says that there is an application
abbrev pub is_application : Option Boot → Bool
is_application None = false
is_application (Some Application) = true
is_application (Some Blank) = false
is_application (Some Unfinished) = false

-- Whether a board that said this boots a half program: it says that there is an application, and its image is neither that of the old program's
-- memory, nor that of the memory before with the new program laid over.
abbrev pub half_of : Option Boot → Meaning → Meaning → Meaning → Bool
half_of said old before now =
    is_application said
    && not (same now.contents.image old.contents.image || same now.contents.image (program_left 2 before).contents.image)

-- One cut by the rules, on the old program's memory: after n storing steps of some calls, with more calls behind it.
unfoldable pub cut_of : ℕ → List Event → List Event → Meaning → Cut
cut_of n calls more m = record {
  gone = said_at (ccm aes) (gone_board n calls m);
  back = said_at (ccm aes) (back_board n calls m);
  again = said_at (ccm aes) (again_board n calls more m);
  half = half_of (said_at (ccm aes) (back_board n calls m)) m m (memory_of (back_board n calls m))
      || half_of (said_at (ccm aes) (again_board n calls more m)) m (memory_of (back_board n calls m)) (memory_of (again_board n calls more m));
}

-- how many of 1,000,000 steps are used up; 0 where the supply has no end
abbrev pub steps_taken : Supply → ℕ
steps_taken (Steps left) = 1000000 - left
steps_taken NoEnd = 0

-- how many storing steps the calls take
unfoldable pub steps_of : List Event → Meaning → ℕ
steps_of calls m = steps_taken (gone_board 1000000 calls m).supply
