-- Lemmas on the round keys and the states, one after another.
use Rattle.std.specs.Prelude.{◌≡◌, ℕ, zero, suc, ◌+◌, List, map, length, refl}
use Rattle.std.proofs.Common.{◌∙◌, add-one, arith, length-append, length-take, length-drop}
use Rattle.cipher.specs.Bytes.{xors}
use Rattle.cipher.specs.Words.{length_xors}
use Rattle.cipher.specs.Aes.{round_key, next_key, rcon, state, round, aes, shift_rows, sub}

-- the first round key and the next one, the first state and the next one
pub round_key_none : (key : List ℕ) → round_key key 0 ≡ key
unfolding round_key
round_key_none key = refl

pub round_key_more : (key : List ℕ) (i : ℕ) → round_key key (i + 1) ≡ next_key (rcon i) (round_key key i)
unfolding round_key
round_key_more key i = rw add-one

pub state_none : (key b : List ℕ) → state key b 0 ≡ xors b key
unfolding state
state_none key b = refl

pub state_more : (key b : List ℕ) (i : ℕ) → state key b (i + 1) ≡ round (round_key key (i + 1)) (state key b i)
unfolding state
state_more key b i = rw add-one

-- with a key of 16 bytes, each round key and the encrypted block have 16 bytes
pub length_next_key : (r : ℕ) (k : List ℕ) → length k ≡ 16 → length (next_key r k) ≡ 16
length_next_key r k h = simp (length-append, length_xors, length-take, length-drop) (omega arith)

pub length_round_key : (key : List ℕ) (i : ℕ) → length key ≡ 16 → length (round_key key i) ≡ 16
unfolding round_key
length_round_key key zero h = h
length_round_key key (suc i) h = length_next_key (rcon i) (round_key key i) (length_round_key key i h)

pub length_aes : (key b : List ℕ) → length key ≡ 16 → length (aes key b) ≡ 16
unfolding aes
length_aes key b h =
    let e = length_round_key key 10 h in
    length_xors (shift_rows (map sub (state key b 9))) (round_key key 10) ∙ omega arith
