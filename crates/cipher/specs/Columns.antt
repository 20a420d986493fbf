-- Four columns of a state, each a word.
use Rattle.std.specs.Prelude.{◌≡◌, ℕ, ◌<◌, List, ◌++◌, slice_index_or}
use Rattle.cipher.specs.Bytes.{word_bytes}
use Rattle.cipher.specs.Aes.{round_key, at}
use Rattle.cipher.specs.declared.aes.columns.Columns.{Columns}

-- the 16 bytes of the columns
abbrev pub flat : Columns → List ℕ
flat s = word_bytes s.a ++ (word_bytes s.b ++ (word_bytes s.c ++ word_bytes s.d))

-- what a list of columns has past its end
abbrev pub no_columns : Columns
no_columns = record { a = 0; b = 0; c = 0; d = 0 }

-- the first n of the columns are the key's first round keys
abbrev pub Schedule : List ℕ → List Columns → ℕ → Type 0
Schedule key ks n = (i : ℕ) → i < n → flat (slice_index_or ks i no_columns) ≡ round_key key i

-- each column of t is made, by `makes`, of the bytes of s that ShiftRows brings there
abbrev pub Shifted : (ℕ → ℕ → ℕ → ℕ → ℕ → Type 0) → Columns → Columns → Type 0
Shifted makes s t =
    let a = word_bytes s.a in
    let b = word_bytes s.b in
    let c = word_bytes s.c in
    let d = word_bytes s.d in
    makes (at a 0) (at b 1) (at c 2) (at d 3) t.a × makes (at b 0) (at c 1) (at d 2) (at a 3) t.b
    × makes (at c 0) (at d 1) (at a 2) (at b 3) t.c × makes (at d 0) (at a 1) (at b 2) (at c 3) t.d
