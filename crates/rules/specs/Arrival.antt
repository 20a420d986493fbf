-- When a core command arrives, told without the receiver: by the bytes that the calls read.
use Rattle.std.specs.Prelude.{◌≡◌, ℕ, ◌+◌, ◌*◌, ◌<◌, ◌≤◌, Bool, true, false, cond, ◌&&◌, List, [], ◌∷◌, ◌++◌, length, ◌==◌, nat_le, nat_lt}
use Rattle.cipher.specs.Cipher.{Cipher}
use Rattle.wire.specs.Frame.{frame}
use Rattle.rules.specs.declared.Event.{Event}
use Rattle.rules.specs.declared.Event.TheVariants.{Byte, Silence, Question, PowerUp}
use Rattle.rules.specs.Board.{Call, history}
use Rattle.rules.specs.Words.{Each, Arrives}
use Rattle.rules.specs.Promises.{Given, start}

-- a number that a byte holds
abbrev pub InByte : ℕ → Type 0
InByte b = b < 0x100

-- if an event is a byte call, its number is below 0x100
abbrev pub GivesByte : Event → Type 0
GivesByte (Byte b reply work) = InByte b
GivesByte Silence = Unit {0}
GivesByte Question = Unit {0}
GivesByte (PowerUp u) = Unit {0}

-- a core command has 1 to 299 bytes
abbrev pub core_sized : ℕ → Bool
core_sized n = nat_le 1 n && nat_le n 299

-- whether bytes begin a frame and do not yet end it: 0x80, then a length that a core command can have, then less than that and two bytes
unfoldable pub begins_frame : List ℕ → Bool
begins_frame [] = true
begins_frame (a ∷ []) = a == 0x80
begins_frame (a ∷ low ∷ []) = a == 0x80
begins_frame (a ∷ low ∷ high ∷ bs) = a == 0x80 && (core_sized (low + 0x100 * high) && nat_lt (length bs) (low + 0x100 * high + 2))

-- bytes of a frame and one more: they are kept as long as they begin a frame
abbrev pub with_byte : List ℕ → ℕ → List ℕ
with_byte bs b = cond (begins_frame (bs ++ b ∷ [])) (bs ++ b ∷ []) []

-- What a call makes of the bytes read so far of a frame. With a short buffer, and on a dark board, it reads nothing.
abbrev pub read_on : List ℕ → Bool → Event → List ℕ
read_on bs dark (Byte b reply work) = cond (nat_lt reply 11) bs (cond (nat_lt work 266) bs (cond dark bs (with_byte bs b)))
read_on bs dark Silence = cond dark bs []
read_on bs dark Question = bs
read_on bs dark (PowerUp u) = []

-- the bytes read so far of a frame, after some calls more
unfoldable pub bytes_read : List ℕ → List Call → List ℕ
bytes_read bs [] = bs
bytes_read bs (c ∷ cs) = bytes_read (read_on bs c.before.dark c.event) cs

-- After the calls x, the call c reads the last byte of the frame of a core command.
pub record EndsFrame (x : List Call) (c : Call) (core : List ℕ) : Type 0 where
  pub byte : ℕ
  pub reply : ℕ
  pub work : ℕ
  pub reads : c.event ≡ Byte byte reply work
  pub reply_fits : 11 ≤ reply
  pub work_fits : 266 ≤ work
  pub lit : c.before.dark ≡ false
  pub frames : bytes_read [] x ++ byte ∷ [] ≡ frame core
  pub sized : core_sized (length core) ≡ true

-- A core command arrives exactly at a call that reads the last byte of its frame.
abbrev pub FramesArrive : Type 0
FramesArrive =
    (C : Cipher) (g : Given) (events : List Event) → Each GivesByte events
    → (x z : List Call) (c : Call) (core : List ℕ)
    → history C (start g) events ≡ x ++ c ∷ z
    → (Arrives c core → EndsFrame x c core) × (EndsFrame x c core → Arrives c core)
