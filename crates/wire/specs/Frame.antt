-- The frame of a core command, and what a buffer holds once the frame is written at its front.
use Rattle.std.specs.Prelude.{ℕ, ◌+◌, ◌/◌, ◌%◌, Bool, cond, ◌&&◌, List, [], ◌∷◌, ◌++◌, length, drop, Some, None, Option, nat_le}
use Rattle.wire.specs.Checksum.{crc}

-- A frame: 0x80, the length of the core command, the core command, its checksum; low bytes first.
unfoldable pub frame : List ℕ → List ℕ
frame core = 0x80 ∷ (length core % 0x100) ∷ (length core / 0x100) ∷ (core ++ (crc core % 0x100) ∷ (crc core / 0x100) ∷ [])

-- Bytes laid over the front of a buffer; what lies behind them stays.
abbrev pub over : List ℕ → List ℕ → List ℕ
over bs xs = bs ++ drop (length bs) xs

-- Whether a core command of n bytes has a frame, and a buffer of m bytes has room for it.
abbrev pub room : ℕ → ℕ → Bool
room n m = nat_le 1 n && (nat_le n 299 && nat_le (n + 5) m)

-- The length of the frame of a core command of n bytes in a buffer of m bytes; nothing where there is no room.
abbrev pub frame_size : ℕ → ℕ → Option ℕ
frame_size n m = cond (room n m) (Some (n + 5)) None

-- The buffer with the frame of a core command of n bytes at its front; unchanged where there is no room.
abbrev pub framed : ℕ → List ℕ → List ℕ → List ℕ
framed n core xs = cond (room n (length xs)) (over (frame core) xs) xs
