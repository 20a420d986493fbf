-- Worked examples: the version that may open, and all checked examples as one set.
use Rattle.std.specs.Prelude.{◌≡◌, ℕ, Bool, true, false, List, [], ◌∷◌, ◌++◌, length, map, Some, None, Option}
use Rattle.fault.specs.declared.Fault.{Fault}
use Rattle.fault.specs.declared.Fault.TheVariants.{MayNotOpen}
use Rattle.memory.specs.declared.supply.Supply.TheVariants.{NoEnd}
use Rattle.memory.specs.Areas.{RangeExamples}
use Rattle.memory.specs.Held.{first_key}
use Rattle.memory.specs.Meaning.{Contents}
use Rattle.wire.specs.Checksum.{Examples}
use Rattle.cipher.specs.Cipher.{Cipher, Lawful}
use Rattle.rules.specs.declared.Event.{Event}
use Rattle.rules.specs.declared.Event.TheVariants.{Byte}
use Rattle.rules.specs.declared.Session.TheVariants.{Closed}
use Rattle.rules.specs.Memory.{data_key}
use Rattle.rules.specs.Receiver.Receiver.{idle}
use Rattle.rules.specs.Commands.{message}
use Rattle.rules.specs.Board.{State, Call, Packet, call, enact, judge_fields, on_data, refuses, sends, step, run}
use Rattle.rules.specs.Words.{Each, version, Arrives}
use Rattle.rules.specs.Promises.{Given}
use Rattle.rules.specs.Arrival.{InByte}

-- the contents of a first packet of version 7, the only one of its update: one byte at 0x4400
abbrev pub contents_seven : List ℕ
contents_seven = 7 ∷ 1 ∷ 0 ∷ 1 ∷ 0 ∷ 0 ∷ 0 ∷ 0x00 ∷ 0x44 ∷ 0x00 ∷ 0 ∷ []

-- The packet arrives, sealed under the board's data key. The board holds version 7, any image and any keys, and its power lasts.
pub record SevenArrives (C : Cipher) (c : Call) : Type 0 where
  pub held_seven : version c.before ≡ 7
  pub key_bytes : length (data_key c.before.contents.held) ≡ 16
  pub endless : c.before.supply ≡ NoEnd
  pub iv : List ℕ
  pub iv_bytes : length iv ≡ 16
  pub well_formed : C.well_formed iv ≡ true
  pub arrives : Arrives c (0x30 ∷ (iv ++ C.seal (data_key c.before.contents.held) iv contents_seven))

-- without the mark the packet gets 21, and with it it is taken
pub record ByTheMark (C : Cipher) (s : State) (e : Event) : Type 0 where
  pub finished : s.contents.held.unfinished ≡ false → (step C s e).answer ≡ refuses (MayNotOpen 1) (message 5)
  pub unfinished : s.contents.held.unfinished ≡ true → (step C s e).answer ≡ sends (message 0)

-- an image and two keys, held version 7, and a mark
abbrev pub seven_held : Given → Bool → Contents
seven_held g m = record {
  image = g.image;
  held = record { version = 7; unfinished = m; keys = first_key g.data_key_bytes ∷ first_key g.kek_bytes ∷ [] };
}

-- a board with these contents that has read nothing yet
abbrev pub listening : Contents → State
listening c = record { contents = c; supply = NoEnd; receiver = idle; session = Closed; dark = false }

-- a call that gives a number, with room for every answer
abbrev pub gives : ℕ → Event
gives b = Byte b 11 266

-- The packet's frame is given to a board with these contents, number by number, and with the last of them the packet arrives. Those of the IV
-- are bytes; if the body's are, all are.
pub record SevenAt (C : Cipher) (c : Contents) : Type 0 where
  pub front : List ℕ
  pub last : ℕ
  pub board : State
  pub has_read : board ≡ run C (listening c) (map gives front)
  pub holds : board.contents ≡ c
  pub arrival : SevenArrives C (call C board (gives last))
  pub iv_of_bytes : Each InByte arrival.iv
  pub all_of_bytes : Each InByte (C.seal (data_key c.held) arrival.iv contents_seven) → Each InByte (front ++ last ∷ [])

-- by computation, on the fields alone: a board of version 7 with nothing in it
abbrev pub version_seven : Bool → State
version_seven m = record {
  contents = record { image = []; held = record { version = 7; unfinished = m; keys = [] } };
  supply = NoEnd;
  receiver = idle;
  session = Closed;
  dark = false;
}

-- the packet's fields
abbrev pub first_seven : Packet
first_seven = record { ver = 7; pn = 1; np = 1; address = 0x4400; bytes = 0 ∷ [] }

-- the refusal that they get, if any
abbrev pub refused_seven : Bool → Option Fault
refused_seven m = (enact (on_data (judge_fields (version_seven m) first_seven)) (version_seven m)).answer.refusal

-- Held version 7: a first packet of version 7 gets 21 without the mark, and is taken with it. It can arrive, by calls that give bytes, whatever
-- the image, the keys and the mark.
pub record SameVersion : Type 0 where
  pub by_the_mark : (C : Cipher) → Lawful C → (s : State) (e : Event) → SevenArrives C (call C s e) → ByTheMark C s e
  pub by_the_fields : (refused_seven false ≡ Some (MayNotOpen 1)) × (refused_seven true ≡ None)
  pub there_are : (C : Cipher) → Lawful C → (g : Given) (m : Bool) → SevenAt C (seven_held g m)

-- The checked examples, as one set: checksums, stores at the ends of the areas, and a packet of the held version.
pub record CheckedExamples : Type 0 where
  pub checksums : Examples
  pub stores : RangeExamples
  pub held_version : SameVersion
