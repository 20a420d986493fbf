-- What each refusal says: its number, the layer that refused, and the place of what was refused.
use Rattle.std.specs.Prelude.{ℕ, List, ◌++◌, codes, decimal}
use Rattle.fault.specs.declared.Fault.{Fault}
use Rattle.fault.specs.declared.Fault.TheVariants.{ReplyShort, WorkShort, Dark, ImageSize, DataCount, OutputShort, OutsideMap, BadLine, UnknownCommand, PacketLength, BadIv, NotOpened}
use Rattle.fault.specs.declared.Fault.TheVariants.{BadNumber, MayNotOpen, OutOfTurn, OutsideArea, BadKeyType, OldKey, NoHeader, BadChecksum, NoLength, TooLong}
use Rattle.fault.specs.declared.Layer.{Layer}
use Rattle.fault.specs.declared.Layer.TheVariants.{Call, Memory, Frame, Command, Cipher, Session, Keys}

-- what a refusal says: its number, the layer that refused, the place of what was refused
pub record Refusal : Type 0 where
  pub number : ℕ
  pub layer : Layer
  pub place : ℕ

-- a refusal of a number, a layer and a place
abbrev pub says : ℕ → Layer → ℕ → Refusal
says n l p = record { number = n; layer = l; place = p }

-- the table of refusals
abbrev pub refusal : Fault → Refusal
refusal ReplyShort = says 1 Call 0
refusal WorkShort = says 2 Call 0
refusal Dark = says 3 Memory 0
refusal ImageSize = says 4 Call 0
refusal DataCount = says 5 Call 0
refusal OutputShort = says 6 Call 0
refusal OutsideMap = says 7 Call 0
refusal BadLine = says 8 Call 0
refusal (UnknownCommand command) = says 9 Command command
refusal (PacketLength length) = says 10 Command length
refusal (BadIv place) = says 11 Cipher place
refusal NotOpened = says 12 Cipher 0
refusal (BadNumber pn) = says 20 Session pn
refusal (MayNotOpen pn) = says 21 Session pn
refusal (OutOfTurn pn) = says 22 Session pn
refusal (OutsideArea address) = says 23 Memory address
refusal (BadKeyType kt) = says 30 Keys kt
refusal (OldKey kv) = says 31 Keys kv
refusal (NoHeader byte) = says 81 Frame byte
refusal (BadChecksum received) = says 82 Frame received
refusal NoLength = says 83 Frame 0
refusal (TooLong length) = says 84 Frame length

-- the name of a layer
abbrev pub layer_name : Layer → List ℕ
layer_name Call = codes "call"
layer_name Memory = codes "memory"
layer_name Frame = codes "frame"
layer_name Command = codes "command"
layer_name Cipher = codes "cipher"
layer_name Session = codes "session"
layer_name Keys = codes "keys"

-- a refusal as text: NUMBER, layer LAYER, place PLACE
abbrev pub refusal_text : Fault → List ℕ
refusal_text f =
    decimal (refusal f).number ++ (codes ", layer " ++ (layer_name (refusal f).layer ++ (codes ", place " ++ decimal (refusal f).place)))
