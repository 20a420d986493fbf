-- The board as a state machine: what a call hears, decides and does, and the history of a list of calls.
use Rattle.std.specs.Prelude.{ℕ, suc, ◌+◌, ◌*◌, Bool, true, false, cond, not, ◌&&◌, ◌||◌, List, [], ◌∷◌, ◌++◌, codes, length, drop, Some, None, Ok, Err, Option, Result, ◌==◌, nat_le, nat_lt, slice_index}
use Rattle.fault.specs.Checks.{check, then}
use Rattle.fault.specs.declared.Fault.{Fault}
use Rattle.fault.specs.declared.Fault.TheVariants.{ReplyShort, WorkShort, Dark, UnknownCommand, PacketLength, NotOpened}
use Rattle.fault.specs.declared.Fault.TheVariants.{BadNumber, MayNotOpen, OutOfTurn, BadKeyType, OldKey}
use Rattle.fault.specs.Refusals.{refusal}
use Rattle.memory.specs.declared.held.KeySlot.{KeySlot}
use Rattle.memory.specs.declared.held.KeySlot.TheVariants.{Data as DataKey, Kek as KekKey}
use Rattle.memory.specs.Held.{slot_place, fresh_held}
use Rattle.rules.specs.Packets.{iv_of, body_of}
use Rattle.rules.specs.declared.Session.{Session}
use Rattle.rules.specs.declared.Session.TheVariants.{Closed as closed, Expects as expects}
use Rattle.memory.specs.declared.supply.Supply.{Supply}
use Rattle.memory.specs.declared.supply.Supply.TheVariants.{NoEnd}
use Rattle.rules.specs.declared.Event.{Event}
use Rattle.rules.specs.declared.Event.TheVariants.{Byte, Silence, Question, PowerUp}
use Rattle.rules.specs.declared.Boot.{Boot}
use Rattle.rules.specs.declared.Boot.TheVariants.{Application, Blank, Unfinished}
use Rattle.memory.specs.declared.held.Held.{Held}
use Rattle.memory.specs.Meaning.{Contents, Step, perform}
use Rattle.memory.specs.Meaning.Step.{set_version, set_key}
use Rattle.memory.specs.Steps.{store_up, erase_steps}
use Rattle.memory.specs.Areas.{range_checked}
use Rattle.rules.specs.Memory.{blank, key_record, data_key, kek}
use Rattle.rules.specs.Receiver.{Receiver, Read, read}
use Rattle.rules.specs.Receiver.Receiver.{idle}
use Rattle.rules.specs.Receiver.Read.{waits, bad, good}
use Rattle.rules.specs.declared.Command.{Command}
use Rattle.rules.specs.declared.Command.TheVariants.{MassErase as mass_erase, Version as tell_version, Reset as reset}
use Rattle.rules.specs.declared.Command.TheVariants.{Data as data_packet, Key as key_packet, Unknown as unknown}
use Rattle.rules.specs.Commands.{command, message, version_answer}
use Rattle.cipher.specs.Cipher.{Cipher, iv_checked}

-- A board: what stands in its memory, its supply, what it has read of a frame, its session, and whether it is dark.
pub record State : Type 0 where
  pub contents : Contents
  pub supply : Supply
  pub receiver : Receiver
  pub session : Session
  pub dark : Bool

-- a fresh board: an image, two keys of version 0, no mark, supply without end, idle receiver, no session
unfoldable pub fresh : List ℕ → List ℕ → List ℕ → State
fresh image d k = record {
  contents = record {
    image = image;
    held = fresh_held d k;
  };
  supply = NoEnd;
  receiver = idle;
  session = closed;
  dark = false;
}

-- What a call answers: a refusal, the bytes that it sends, and what a boot question says.
pub record Answer : Type 0 where
  pub refusal : Option Fault
  pub sent : List ℕ
  pub said : Option Boot

-- an answer that neither refuses nor sends
abbrev pub quiet : Answer
quiet = record { refusal = None; sent = []; said = None }

-- an answer that sends bytes
abbrev pub sends : List ℕ → Answer
sends bs = record { refusal = None; sent = bs; said = None }

-- an answer that refuses and sends bytes
abbrev pub refuses : Fault → List ℕ → Answer
refuses f bs = record { refusal = Some f; sent = bs; said = None }

-- the answer of a boot question
abbrev pub says : Boot → Answer
says b = record { refusal = None; sent = []; said = Some b }

-- What a call hears: it is turned away; a part of a frame, a bad frame, the core command of a good one; a silence, a boot question, a power-up.
pub data Heard : Type 0 where
  turned_away : Fault → Heard
  part : Receiver → Heard
  garbled : Fault → Heard
  framed : List ℕ → Heard
  silence : Heard
  question : Heard
  power_up : Supply → Heard

-- what a call hears that reads a byte
unfoldable pub heard_read : Read → Heard
heard_read (waits r) = part r
heard_read (bad f) = garbled f
heard_read (good core) = framed core

-- a call is turned away for a short reply buffer, else for a short work buffer, else on a dark board; a power-up never is
unfoldable pub heard : State → Event → Heard
heard s (Byte b reply work) =
    cond (nat_lt reply 11) (turned_away ReplyShort)
    (cond (nat_lt work 266) (turned_away WorkShort)
    (cond s.dark (turned_away Dark)
    (heard_read (read s.receiver b))))
heard s Silence = cond s.dark (turned_away Dark) silence
heard s Question = cond s.dark (turned_away Dark) question
heard s (PowerUp p) = power_up p

-- the fields of a data packet's contents: version, packet number, number of packets, address, data
pub record Packet : Type 0 where
  pub ver : ℕ
  pub pn : ℕ
  pub np : ℕ
  pub address : ℕ
  pub bytes : List ℕ

-- the fields of a key packet's contents: type, version, key
pub record KeyPacket : Type 0 where
  pub kt : ℕ
  pub kv : ℕ
  pub key : List ℕ

-- a word at a place of contents, low byte first
unfoldable pub word : List ℕ → ℕ → ℕ
word c i = slice_index c i + 0x100 * slice_index c (suc i)

-- the fields of a data packet's contents; the word at 5 may be anything
unfoldable pub fields : List ℕ → Packet
fields c = record { ver = slice_index c 0; pn = word c 1; np = word c 3; address = word c 7 + 0x10000 * slice_index c 9; bytes = drop 10 c }

-- the fields of a key packet's contents
unfoldable pub key_fields : List ℕ → KeyPacket
key_fields c = record { kt = slice_index c 0; kv = slice_index c 1; key = drop 2 c }

-- key type 0 is the data key, any other the key-encryption key: a check lets no type but 0 and 2 come here
unfoldable pub slot : ℕ → KeySlot
slot kt = cond (kt == 0) DataKey KekKey

-- a first packet opens an update if its version is above the held one, or equal to it with the mark set
unfoldable pub may_open : Held → Packet → Bool
may_open h p = nat_lt h.version p.ver || (p.ver == h.version && h.unfinished)

-- any other packet must be the session's next, and repeat its number of packets and the held version
unfoldable pub may_follow : Session → Held → Packet → Bool
may_follow closed h p = false
may_follow (expects n m) h p = p.pn == n && (p.np == m && p.ver == h.version)

-- a first packet must be one that may open, any other one that may follow
abbrev pub in_order : State → Packet → Bool
in_order s p = cond (p.pn == 1) (may_open s.contents.held p) (may_follow s.session s.contents.held p)

-- the check of the numbers: neither is 0, and the packet's is at most the number of packets
abbrev pub numbers_checked : Packet → Result (Unit {0}) Fault
numbers_checked p = check (not (p.pn == 0) && (not (p.np == 0) && nat_le p.pn p.np)) (BadNumber p.pn)

-- the check of a packet's turn: a first packet out of order may not open, any other one is out of turn
abbrev pub turn_checked : State → Packet → Result (Unit {0}) Fault
turn_checked s p = check (in_order s p) (cond (p.pn == 1) (MayNotOpen p.pn) (OutOfTurn p.pn))

-- the checks of the fields of a data packet
unfoldable pub judge_fields : State → Packet → Result Packet Fault
judge_fields s p = then (numbers_checked p) (then (turn_checked s p) (then (range_checked p.address (length p.bytes)) (Ok p)))

-- the checks of the fields of a key packet
unfoldable pub judge_key_fields : State → KeyPacket → Result KeyPacket Fault
judge_key_fields s p =
    then (check (p.kt == 0 || p.kt == 2) (BadKeyType p.kt))
    (then (check (nat_lt (key_record s.contents.held (slot_place (slot p.kt))).version p.kv) (OldKey p.kv)) (Ok p))

-- an opened body goes on to the checks of its fields
unfoldable pub on_opened : {A : Type 0} → (List ℕ → Result A Fault) → Option (List ℕ) → Result A Fault
on_opened f None = Err NotOpened
on_opened f (Some c) = f c

-- all checks of a data packet, in their order
unfoldable pub judge_data : Cipher → State → List ℕ → Result Packet Fault
judge_data C s core =
    then (check (nat_le 44 (length core) && nat_le (length core) 299) (PacketLength (length core)))
    (then (iv_checked C (iv_of core))
    (on_opened (λ c. judge_fields s (fields c)) (C.opened (data_key s.contents.held) (iv_of core) (body_of core))))

-- all checks of a key packet, in their order
unfoldable pub judge_key : Cipher → State → List ℕ → Result KeyPacket Fault
judge_key C s core =
    then (check (length core == 51) (PacketLength (length core)))
    (then (iv_checked C (iv_of core))
    (on_opened (λ c. judge_key_fields s (key_fields c)) (C.opened (kek s.contents.held) (iv_of core) (body_of core))))

-- What a call does: it turns the receiver and answers, clears the working state, erases, stores a packet, sets a key, or powers up.
pub data Deed : Type 0 where
  turns : Receiver → Answer → Deed
  clears : Deed
  erases : Deed
  stores : Packet → Deed
  rekeys : KeyPacket → Deed
  powers : Supply → Deed

-- the deed of a refused packet: message 0x05
abbrev pub no_packet : Fault → Deed
no_packet f = turns idle (refuses f (message 5))

-- the deed of a data packet, by its judging
unfoldable pub on_data : Result Packet Fault → Deed
on_data (Err f) = no_packet f
on_data (Ok p) = stores p

-- the deed of a key packet, by its judging
unfoldable pub on_key : Result KeyPacket Fault → Deed
on_key (Err f) = no_packet f
on_key (Ok p) = rekeys p

-- a core command that arrives, by the command that it is
unfoldable pub obey : Cipher → State → List ℕ → Command → Deed
obey C s core mass_erase = erases
obey C s core tell_version = turns idle (sends version_answer)
obey C s core reset = clears
obey C s core data_packet = on_data (judge_data C s core)
obey C s core key_packet = on_key (judge_key C s core)
obey C s core (unknown b) = turns idle (refuses (UnknownCommand b) (message 7))

-- what a boot question answers: unfinished with the mark, else blank with a blank vector, else an application
unfoldable pub boot : Contents → Boot
boot c = cond c.held.unfinished Unfinished (cond (blank c) Blank Application)

-- the numbers of its answers
abbrev pub boot_number : Boot → ℕ
boot_number Application = 1
boot_number Blank = 2
boot_number Unfinished = 3

-- the same in words
abbrev pub boot_text : Boot → List ℕ
boot_text Application = codes "there is an application to start"
boot_text Blank = codes "there is no application"
boot_text Unfinished = codes "an update is unfinished"

-- what a call does, by what it hears
unfoldable pub respond : Cipher → State → Heard → Deed
respond C s (turned_away f) = turns s.receiver (refuses f [])
respond C s (part r) = turns r quiet
respond C s (garbled f) = turns idle (refuses f ((refusal f).number ∷ []))
respond C s (framed core) = obey C s core (command core)
respond C s silence = turns idle quiet
respond C s question = turns s.receiver (says (boot s.contents))
respond C s (power_up p) = powers p

-- what a call does
unfoldable pub decide : Cipher → State → Event → Deed
decide C s e = respond C s (heard s e)

-- the first step of a first packet
unfoldable pub opening_steps : Packet → List Step
opening_steps p = cond (p.pn == 1) (set_version p.ver true ∷ []) []

-- the last step of a last packet
unfoldable pub closing_steps : Packet → List Step
closing_steps p = cond (p.pn == p.np) (set_version p.ver false ∷ []) []

-- the steps of a data packet
unfoldable pub data_steps : Packet → List Step
data_steps p = opening_steps p ++ (store_up p.address p.bytes ++ closing_steps p)

-- the session after a data packet: it is over, or expects the next number
unfoldable pub session_after : Packet → Session
session_after p = cond (p.pn == p.np) closed (expects (suc p.pn) p.np)

-- the one step of a key packet
unfoldable pub key_steps : KeyPacket → List Step
key_steps p = set_key (slot p.kt) (record { key = p.key; version = p.kv }) ∷ []

-- what a call leaves and answers
pub record Outcome : Type 0 where
  pub state : State
  pub answer : Answer

-- steps that went dark end the call with 3; else it sends the message 0x00 and leaves the session given
unfoldable pub ended : Session → Contents → Supply → Bool → Outcome
ended n c u true = record { state = record { contents = c; supply = u; receiver = idle; session = closed; dark = true }; answer = refuses Dark [] }
ended n c u false = record { state = record { contents = c; supply = u; receiver = idle; session = n; dark = false }; answer = sends (message 0) }

-- steps carried out on a board
unfoldable pub carry_out : List Step → Session → State → Outcome
carry_out xs n s = let r = perform xs s.supply s.contents in ended n r.contents r.supply r.dark

-- what a deed leaves and answers
unfoldable pub enact : Deed → State → Outcome
enact (turns r a) s = record { state = record { contents = s.contents; supply = s.supply; receiver = r; session = s.session; dark = s.dark }; answer = a }
enact clears s = record { state = record { contents = s.contents; supply = s.supply; receiver = idle; session = closed; dark = s.dark }; answer = quiet }
enact erases s = carry_out erase_steps closed s
enact (stores p) s = carry_out (data_steps p) (session_after p) s
enact (rekeys p) s = carry_out (key_steps p) s.session s
enact (powers u) s = record { state = record { contents = s.contents; supply = u; receiver = idle; session = closed; dark = false }; answer = quiet }

-- one call
unfoldable pub step : Cipher → State → Event → Outcome
step C s e = enact (decide C s e) s

-- One call of a history: what it was given, the board before and after it, and its answer.
pub record Call : Type 0 where
  pub event : Event
  pub before : State
  pub after : State
  pub answer : Answer

-- the call of an event on a board
abbrev pub call : Cipher → State → Event → Call
call C s e = record { event = e; before = s; after = (step C s e).state; answer = (step C s e).answer }

-- the history of a list of events
unfoldable pub history : Cipher → State → List Event → List Call
history C s [] = []
history C s (e ∷ es) = call C s e ∷ history C (step C s e).state es

-- the board after a list of events
unfoldable pub run : Cipher → State → List Event → State
run C s [] = s
run C s (e ∷ es) = run C (step C s e).state es
