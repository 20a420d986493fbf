-- Frames as the calls that send them.
use Rattle.std.specs.Prelude.{ℕ, List, [], ◌∷◌, map}
use Rattle.wire.specs.Frame.{frame}
use Rattle.rules.specs.declared.Event.{Event}
use Rattle.rules.specs.declared.Event.TheVariants.{Byte}

-- a byte call with buffers of full size
abbrev pub byte_call : ℕ → Event
byte_call b = Byte b 11 266

-- the calls that send bytes
abbrev pub calls : List ℕ → List Event
calls bs = map byte_call bs

-- the core command of the mass erase
abbrev pub erase : List ℕ
erase = 0x15 ∷ []

-- the calls that send it
abbrev pub erase_calls : List Event
erase_calls = calls (frame erase)
