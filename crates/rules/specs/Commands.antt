-- Which command a core command is.
use Rattle.std.specs.Prelude.{ℕ, cond, List, [], ◌∷◌, ◌==◌}
use Rattle.wire.specs.Frame.{frame}
use Rattle.rules.specs.declared.Command.{Command}
use Rattle.rules.specs.declared.Command.TheVariants.{MassErase, Version, Reset, Data, Key, Unknown}

-- a command byte with nothing behind it
abbrev pub alone : ℕ → Command
alone c = cond (c == 0x15) MassErase (cond (c == 0x19) Version (cond (c == 0x25) Reset (Unknown c)))

-- what comes behind a command byte makes it unknown
abbrev pub longer : ℕ → List ℕ → Command
longer c [] = alone c
longer c (b ∷ bs) = Unknown c

-- the command of a core command: packets by their first byte, at any length; the others have length 1
unfoldable pub command : List ℕ → Command
command [] = Unknown 0
command (c ∷ rest) = cond (c == 0x30) Data (cond (c == 0x31) Key (longer c rest))

-- the byte 0x00 and the frame of a core behind it
abbrev pub acknowledged : List ℕ → List ℕ
acknowledged core = 0 ∷ frame core

-- the answer with a message byte
abbrev pub message : ℕ → List ℕ
message m = acknowledged (0x3B ∷ m ∷ [])

-- the answer to the version query
abbrev pub version_answer : List ℕ
version_answer = acknowledged (0x3A ∷ 0x00 ∷ 0x58 ∷ 0x56 ∷ 0xB5 ∷ [])
