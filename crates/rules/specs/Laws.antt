-- Laws that tie the words of the promises to what a call is given and answers.
use Rattle.std.specs.Prelude.{◌≡◌, ℕ, ◌<◌, ◌≤◌, Bool, true, false, cond, ◌⊎◌, List, [], ◌∷◌, ◌++◌, Some, None, Option, ◌≢◌, nat_lt}
use Rattle.fault.specs.declared.Fault.{Fault}
use Rattle.fault.specs.declared.Fault.TheVariants.{ReplyShort, WorkShort, Dark, ImageSize, DataCount, OutputShort, OutsideMap, BadLine}
use Rattle.fault.specs.declared.Fault.TheVariants.{UnknownCommand, PacketLength, BadIv, NotOpened}
use Rattle.fault.specs.declared.Fault.TheVariants.{BadNumber, MayNotOpen, OutOfTurn, OutsideArea, BadKeyType, OldKey, NoHeader, BadChecksum, NoLength, TooLong}
use Rattle.memory.specs.declared.supply.Supply.TheVariants.{Steps}
use Rattle.memory.specs.declared.held.Held.{Held}
use Rattle.memory.specs.Areas.{place}
use Rattle.cipher.specs.Cipher.{Cipher, Lawful}
use Rattle.rules.specs.declared.Event.{Event}
use Rattle.rules.specs.declared.Event.TheVariants.{Byte, Silence, Question, PowerUp}
use Rattle.rules.specs.Memory.{key_record, data_key, kek}
use Rattle.rules.specs.Packets.{iv_of, body_of}
use Rattle.rules.specs.Board.{State, Call, Packet, KeyPacket, key_fields, refuses, step, history, run}
use Rattle.rules.specs.Words.{Each, Arrives, Begins, Taken, Passes, Delivery, Packets, SealedAs}
use Rattle.rules.specs.Promises.{Given, start}
use Rattle.rules.specs.Arrival.{InByte, GivesByte}

-- a call that refuses nothing, or goes dark
abbrev pub Unrefused : Call → Type 0
Unrefused c = (c.answer.refusal ≡ None) ⊎ (c.answer.refusal ≡ Some Dark)

-- A data packet passes the checks exactly when it is sealed under the held data key and its call refuses nothing, or goes dark.
abbrev pub PassingShows : Type 0
PassingShows =
    (C : Cipher) → Lawful C → (g : Given) (events : List Event) (x z : List Call) (c : Call) (core : List ℕ) (p : Packet)
    → history C (start g) events ≡ x ++ c ∷ z
    → Arrives c core
    → (Passes C c p → SealedAs C (data_key c.before.contents.held) core p × Unrefused c)
    × (SealedAs C (data_key c.before.contents.held) core p → Unrefused c → Passes C c p)

-- all but the receiver stays as it is
pub record Unchanged (s t : State) : Type 0 where
  pub contents : t.contents ≡ s.contents
  pub supply : t.supply ≡ s.supply
  pub session : t.session ≡ s.session
  pub dark : t.dark ≡ s.dark

-- A call that is refused, but not for going dark, changes nothing but the receiver.
abbrev pub RefusalsChangeNothing : Type 0
RefusalsChangeNothing =
    (C : Cipher) (s : State) (e : Event) (f : Fault)
    → (step C s e).answer.refusal ≡ Some f
    → (f ≢ Dark)
    → Unchanged s (step C s e).state

-- with what a call is turned away: 1 for a short reply buffer, else 2 for a short work buffer, else 3 on a dark board; a power-up never is
abbrev pub turned_away_with : Bool → Event → Option Fault
turned_away_with dark (Byte b reply work) = cond (nat_lt reply 11) (Some ReplyShort) (cond (nat_lt work 266) (Some WorkShort) (cond dark (Some Dark) None))
turned_away_with dark Silence = cond dark (Some Dark) None
turned_away_with dark Question = cond dark (Some Dark) None
turned_away_with dark (PowerUp u) = None

-- A call that is turned away changes nothing at all and sends nothing. So a dark board answers 3, or 1 or 2, until a power-up.
abbrev pub TurnedAwayUnchanged : Type 0
TurnedAwayUnchanged =
    (C : Cipher) (s : State) (e : Event) (f : Fault)
    → turned_away_with s.dark e ≡ Some f
    → ((step C s e).state ≡ s) × ((step C s e).answer ≡ refuses f [])

-- A board goes dark only when its supply is spent.
abbrev pub DarkWhenSpent : Type 0
DarkWhenSpent =
    (C : Cipher) (s : State) (e : Event)
    → (step C s e).answer.refusal ≡ Some Dark
    → s.dark ≡ false
    → ((step C s e).state.supply ≡ Steps 0) × ((step C s e).state.dark ≡ true)

-- the key record at a place is the one that a key packet brings, and every other stands as it did
pub record Replaced (i : ℕ) (p : KeyPacket) (h k : Held) : Type 0 where
  pub there : key_record k i ≡ record { key = p.key; version = p.kv }
  pub elsewhere : (j : ℕ) → (j ≢ i) → key_record k j ≡ key_record h j

-- type 0 replaces the data key, type 2 the key-encryption key
abbrev pub ReplacedByType : KeyPacket → Held → Held → Type 0
ReplacedByType p h k = ((p.kt ≡ 0) × Replaced 0 p h k) ⊎ ((p.kt ≡ 2) × Replaced 1 p h k)

-- a key packet's contents under the held key-encryption key, and the key that they replace
pub record KeyTaken (C : Cipher) (c : Call) (core : List ℕ) : Type 0 where
  pub contents : List ℕ
  pub opens : C.opened (kek c.before.contents.held) (iv_of core) (body_of core) ≡ Some contents
  pub replaced : ReplacedByType (key_fields contents) c.before.contents.held c.after.contents.held

-- A key packet that is taken is of type 0 and replaces the data key, or of type 2 and replaces the key-encryption key; the other key stays.
abbrev pub KeyTypesNameKeys : Type 0
KeyTypesNameKeys =
    (C : Cipher) → Lawful C → (g : Given) (events : List Event) (x z : List Call) (c : Call) (core : List ℕ)
    → history C (start g) events ≡ x ++ c ∷ z
    → Arrives c core
    → Begins 0x31 core
    → Taken c
    → KeyTaken C c core

-- a packet that arrives opens to bytes, where it opens under a held key
abbrev pub OpensToBytes : Cipher → Call → Type 0
OpensToBytes C c =
    (core contents key : List ℕ)
    → Arrives c core
    → (key ≡ data_key c.before.contents.held) ⊎ (key ≡ kek c.before.contents.held)
    → C.opened key (iv_of core) (body_of core) ≡ Some contents
    → Each InByte contents

-- The refusals of a byte call, and the bounds of their places. B is the premise that opened contents are bytes.
abbrev pub OfByte : Type 0 → ℕ → ℕ → ℕ → Fault → Type 0
OfByte B b reply work ReplyShort = reply < 11
OfByte B b reply work WorkShort = (11 ≤ reply) × (work < 266)
OfByte B b reply work Dark = (11 ≤ reply) × (266 ≤ work)
OfByte B b reply work ImageSize = ⊥
OfByte B b reply work DataCount = ⊥
OfByte B b reply work OutputShort = ⊥
OfByte B b reply work OutsideMap = ⊥
OfByte B b reply work BadLine = ⊥
OfByte B b reply work (UnknownCommand command) = command < 0x100
OfByte B b reply work (PacketLength n) = (1 ≤ n) × (n ≤ 299)
OfByte B b reply work (BadIv i) = i < 16
OfByte B b reply work NotOpened = Unit {0}
OfByte B b reply work (BadNumber pn) = B → pn < 0x10000
OfByte B b reply work (MayNotOpen pn) = pn ≡ 1
OfByte B b reply work (OutOfTurn pn) = (pn ≢ 1) × (B → pn < 0x10000)
OfByte B b reply work (OutsideArea a) = (place a ≡ None) × (B → a < 0x1000000)
OfByte B b reply work (BadKeyType kt) = (kt ≢ 0) × (kt ≢ 2) × (B → kt < 0x100)
OfByte B b reply work (OldKey kv) = B → kv < 0x100
OfByte B b reply work (NoHeader byte) = (byte ≡ b) × (byte ≢ 0x80)
OfByte B b reply work (BadChecksum sum) = sum < 0x10000
OfByte B b reply work NoLength = Unit {0}
OfByte B b reply work (TooLong n) = (300 ≤ n) × (n < 0x10000)

-- the refusals of a call: silences and boot questions are refused with 3 alone, power-ups never
abbrev pub RefusalOf : Type 0 → Event → Fault → Type 0
RefusalOf B (Byte b reply work) f = OfByte B b reply work f
RefusalOf B Silence f = f ≡ Dark
RefusalOf B Question f = f ≡ Dark
RefusalOf B (PowerUp u) f = ⊥

-- Each call has its refusals, and their places are within bounds.
abbrev pub EachCallHasItsRefusals : Type 0
EachCallHasItsRefusals =
    (C : Cipher) → Lawful C → (g : Given) (events : List Event) → Each GivesByte events
    → (x z : List Call) (c : Call) (f : Fault)
    → history C (start g) events ≡ x ++ c ∷ z
    → c.answer.refusal ≡ Some f
    → RefusalOf (OpensToBytes C c) c.event f

-- the board after calls that began with a board
abbrev pub board_behind : State → List Call → State
board_behind s [] = s
board_behind s (c ∷ cs) = board_behind c.after cs

-- a list of events, and another after it
pub record Joined (C : Cipher) (s : State) (first second : List Event) : Type 0 where
  -- the history is that of the first, and then that of the second from the board that the first left
  pub histories : history C s (first ++ second) ≡ history C s first ++ history C (run C s first) second
  -- that board is the one after the last call of the first
  pub left : run C s first ≡ board_behind s (history C s first)
  -- the board after both is the one that the second left
  pub boards : run C s (first ++ second) ≡ run C (run C s first) second

-- A long run may be made in pieces.
abbrev pub HistoriesJoin : Type 0
HistoriesJoin = (C : Cipher) (s : State) (first second : List Event) → Joined C s first second

-- The packets of an update are one list, after whichever call of a history it opened at.
abbrev pub PacketsAreOneList : Type 0
PacketsAreOneList =
    (C : Cipher) (s : State) (events : List Event) (x behind : List Call) (c : Call)
    → history C s events ≡ x ++ c ∷ behind
    → (ds : List Delivery) × Packets C behind ds × ((others : List Delivery) → Packets C behind others → others ≡ ds)
