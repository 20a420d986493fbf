-- The receiver: what it has read so far of a frame, and what one more byte makes of that.
use Rattle.std.specs.Prelude.{ℕ, suc, ◌+◌, ◌*◌, cond, List, [], ◌∷◌, ◌++◌, length, ◌==◌, nat_lt}
use Rattle.fault.specs.declared.Fault.{Fault}
use Rattle.fault.specs.declared.Fault.TheVariants.{NoHeader, BadChecksum, NoLength, TooLong}
use Rattle.wire.specs.Checksum.{crc}

-- idle; awaiting the length; in the body, with its length and the bytes so far; awaiting the checksum of a core command
pub data Receiver : Type 0 where
  idle : Receiver
  length_low : Receiver
  length_high : ℕ → Receiver
  body : ℕ → List ℕ → Receiver
  check_low : List ℕ → Receiver
  check_high : List ℕ → ℕ → Receiver

-- What a byte makes of a receiver: it waits on, the frame is bad, or a good frame's core command is there.
pub data Read : Type 0 where
  waits : Receiver → Read
  bad : Fault → Read
  good : List ℕ → Read

-- what one more byte makes of it: the header, the length low byte first, the core command, the checksum low byte first
abbrev pub read : Receiver → ℕ → Read
read idle b = cond (b == 0x80) (waits length_low) (bad (NoHeader b))
read length_low b = waits (length_high b)
read (length_high low) b =
    cond (low + 0x100 * b == 0) (bad NoLength)
    (cond (nat_lt 299 (low + 0x100 * b)) (bad (TooLong (low + 0x100 * b))) (waits (body (low + 0x100 * b) [])))
read (body n bs) b = waits (cond (suc (length bs) == n) (check_low (bs ++ b ∷ [])) (body n (bs ++ b ∷ [])))
read (check_low core) b = waits (check_high core b)
read (check_high core low) b = cond (low + 0x100 * b == crc core) (good core) (bad (BadChecksum (low + 0x100 * b)))
