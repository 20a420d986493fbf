-- One cut, joined of its parts.
use Rattle.std.proofs.Common.{◌≡◌, ℕ, Bool, ◌||◌, List, Option, refl}
use Rattle.board.specs.State.{memory_of}
use Rattle.cipher.specs.Aes.{aes}
use Rattle.cipher.specs.Ccm.{ccm}
use Rattle.memory.specs.Meaning.{Meaning}
use Rattle.memory.specs.declared.supply.Supply.{Supply}
use Rattle.memory.specs.declared.supply.Supply.TheVariants.{Steps}
use Rattle.rules.specs.declared.Boot.{Boot}
use Rattle.rules.specs.declared.Event.{Event}
use Rattle.rules.specs.declared.Event.TheVariants.{PowerUp}
use Rattle.rules.specs.Board.{State, run, step}
use Rattle.sweep.specs.Cuts.{board_on, cut_at, cut_of, half_of, power_back, said_at, steps_of, steps_taken}

-- the boards s and t before what is sent first and again, the board u and v behind it, and the memories that were saved
pub cut_joined : (n : ℕ) (calls more : List Event) (m saved last : Meaning) (s t u v : State) (gone back again : Option Boot) (first second : Bool)
    → s ≡ board_on m
    → u ≡ power_back (ccm aes) (cut_at (ccm aes) n calls s)
    → gone ≡ said_at (ccm aes) (cut_at (ccm aes) n calls s)
    → back ≡ said_at (ccm aes) (power_back (ccm aes) (cut_at (ccm aes) n calls s))
    → saved ≡ memory_of u
    → t ≡ board_on saved
    → v ≡ run (ccm aes) t more
    → again ≡ said_at (ccm aes) (run (ccm aes) t more)
    → last ≡ memory_of v
    → first ≡ half_of back m m saved
    → second ≡ half_of again m saved last
    → record { gone = gone; back = back; again = again; half = first || second } ≡ cut_of n calls more m
unfolding cut_of
cut_joined n calls more m saved last s t u v gone back again first second hs hu hg hb hsaved ht hv ha hl hf hsec =
    rw (hsec, hf, hl, ha, hv, ht, hsaved, hb, hg, hu, hs) refl

-- the boards s before the power-up, u before the calls, v behind them, and its memory
pub steps_joined : (calls : List Event) (m last : Meaning) (s u v : State) (supply : Supply) (steps : ℕ)
    → s ≡ board_on m
    → u ≡ (step (ccm aes) s (PowerUp (Steps 1000000))).state
    → v ≡ run (ccm aes) u calls
    → last ≡ memory_of v
    → supply ≡ last.supply
    → steps ≡ steps_taken supply
    → steps ≡ steps_of calls m
unfolding steps_of
steps_joined calls m last s u v supply steps hs hu hv hl hsupply h = rw (h, hsupply, hl, hv, hu, hs) refl
