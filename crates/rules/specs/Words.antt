-- The words in which the promises speak of a history.
use Rattle.std.specs.Prelude.{◌≡◌, ℕ, suc, ◌≤◌, true, List, [], ◌∷◌, ◌++◌, length, Some, None, Ok, ◌≢◌}
use Rattle.fault.specs.declared.Fault.{Fault}
use Rattle.memory.specs.declared.supply.Supply.{Supply}
use Rattle.memory.specs.declared.supply.Supply.TheVariants.{Steps}
use Rattle.rules.specs.declared.Event.TheVariants.{Question, PowerUp}
use Rattle.rules.specs.declared.Boot.{Boot}
use Rattle.rules.specs.Memory.{data_key, lay}
use Rattle.cipher.specs.Cipher.{Cipher}
use Rattle.rules.specs.Board.{State, Call, Packet, boot_number, judge_data, heard, framed, fields}

-- one of the elements has a property
pub data Any {A : Type 0} (P : A → Type 0) : List A → Type 0 where
  here : {x : A} {xs : List A} → P x → Any P (x ∷ xs)
  later : {x : A} {xs : List A} → Any P xs → Any P (x ∷ xs)

-- each element has a property
abbrev pub Each : {A : Type 0} → (A → Type 0) → List A → Type 0
Each P [] = Unit {0}
Each P (x ∷ xs) = P x × Each P xs

-- the firmware version
abbrev pub version : State → ℕ
version s = s.contents.held.version

-- the memory bytes
abbrev pub memory : State → List ℕ
memory s = s.contents.image

-- a boot question, answered 1: 'application'
pub record Boots (q : Call) : Type 0 where
  pub asks : q.event ≡ Question
  pub said : Boot
  pub answers : q.answer.said ≡ Some said
  pub application : boot_number said ≡ 1

-- a good frame's core command arrives at the call that reads the frame's last byte
abbrev pub Arrives : Call → List ℕ → Type 0
Arrives c core = heard c.before c.event ≡ framed core

-- a core command begins with this byte
abbrev pub Begins : ℕ → List ℕ → Type 0
Begins b core = (rest : List ℕ) × (core ≡ b ∷ rest)

-- a packet is taken if its call answers no refusal
abbrev pub Taken : Call → Type 0
Taken c = c.answer.refusal ≡ None

-- a packet is refused if its call answers a refusal
abbrev pub Refused : Call → Type 0
Refused c = (f : Fault) × (c.answer.refusal ≡ Some f)

-- a data packet of contents p arrives that no check refuses
pub record Passes (C : Cipher) (c : Call) (p : Packet) : Type 0 where
  pub core : List ℕ
  pub arrives : Arrives c core
  pub begins : Begins 0x30 core
  pub unrefused : judge_data C c.before core ≡ Ok p

-- an update opens: a first packet arrives that no check refuses, while the supply is not 0
pub record Opens (C : Cipher) (c : Call) (p : Packet) : Type 0 where
  pub passes : Passes C c p
  pub first : p.pn ≡ 1
  pub powered : c.before.supply ≡ Steps 0 → ⊥

-- a data packet is taken
pub record Takes (C : Cipher) (c : Call) (p : Packet) : Type 0 where
  pub passes : Passes C c p
  pub taken : Taken c

-- an update opens at this call
abbrev pub Opening : Cipher → Call → Type 0
Opening C c = (p : Packet) × Opens C c p

-- a data packet is taken at this call
abbrev pub Taking : Cipher → Call → Type 0
Taking C c = (p : Packet) × Takes C c p

-- an update opened among these calls
abbrev pub Opened : Cipher → List Call → Type 0
Opened C cs = Any (Opening C) cs

-- the last update to open among these calls
pub record Latest (C : Cipher) (cs : List Call) : Type 0 where
  pub ahead : List Call
  pub at : Call
  pub behind : List Call
  pub packet : Packet
  pub split : cs ≡ ahead ++ at ∷ behind
  pub opens : Opens C at packet
  pub last : Opened C behind → ⊥

-- a packet of an update: where it arrived, and its contents
pub record Delivery : Type 0 where
  pub at : Call
  pub packet : Packet

-- The packets of an update after its first, among the calls after that one: each data packet taken, until another update opens.
pub data Packets (C : Cipher) : List Call → List Delivery → Type 0 where
  end : Packets C [] []
  another : {c : Call} {cs : List Call} → Opening C c → Packets C (c ∷ cs) []
  one : {c : Call} {cs : List Call} {p : Packet} {ds : List Delivery}
      → Takes C c p → (Opening C c → ⊥) → Packets C cs ds → Packets C (c ∷ cs) (record { at = c; packet = p } ∷ ds)
  skip : {c : Call} {cs : List Call} {ds : List Delivery}
      → (Taking C c → ⊥) → (Opening C c → ⊥) → Packets C cs ds → Packets C (c ∷ cs) ds

-- neither a mass erase nor 0x25 of length 1 nor a power-up
pub record Undisturbed (c : Call) : Type 0 where
  pub no_erase : Arrives c (0x15 ∷ []) → ⊥
  pub no_reset : Arrives c (0x25 ∷ []) → ⊥
  pub no_power_up : (u : Supply) → c.event ≢ PowerUp u

-- the same packets, and up to the last of them every call undisturbed
pub data Unbroken (C : Cipher) : List Call → List Delivery → Type 0 where
  done : {cs : List Call} → Packets C cs [] → Unbroken C cs []
  next : {c : Call} {cs : List Call} {p : Packet} {ds : List Delivery}
      → Takes C c p → (Opening C c → ⊥) → Unbroken C cs ds → Unbroken C (c ∷ cs) (record { at = c; packet = p } ∷ ds)
  calm : {c : Call} {cs : List Call} {ds : List Delivery}
      → Undisturbed c → (Taking C c → ⊥) → (Opening C c → ⊥) → Unbroken C cs ds → Unbroken C (c ∷ cs) ds

-- numbered from n to NP, one each, in this order, of one VER and NP
abbrev pub Numbered : ℕ → ℕ → ℕ → List Delivery → Type 0
Numbered n ver np [] = n ≡ suc np
Numbered n ver np (d ∷ ds) = (d.packet.pn ≡ n) × (d.packet.ver ≡ ver) × (d.packet.np ≡ np) × Numbered (suc n) ver np ds

-- A core command is the data packet that a key, an IV and contents give, and the contents have the fields p.
pub record SealedAs (C : Cipher) (key core : List ℕ) (p : Packet) : Type 0 where
  pub iv : List ℕ
  pub contents : List ℕ
  pub iv_bytes : length iv ≡ 16
  pub well_formed : C.well_formed iv ≡ true
  pub at_least : 11 ≤ length contents
  pub at_most : length contents ≤ 266
  pub core_is : core ≡ 0x30 ∷ (iv ++ C.seal key iv contents)
  pub holds : fields contents ≡ p

-- the body is what sealing gives for the IV and the contents under the data key held as it arrived
pub record Sealed (C : Cipher) (d : Delivery) : Type 0 where
  pub core : List ℕ
  pub arrives : Arrives d.at core
  pub sealed_as : SealedAs C (data_key d.at.before.contents.held) core d.packet

-- memory bytes with the data of packets laid over, packet by packet
abbrev pub laid_over : List Delivery → List ℕ → List ℕ
laid_over [] i = i
laid_over (d ∷ ds) i = laid_over ds (lay d.packet.address d.packet.bytes i)

-- an update is whole: d is its first packet, ds the others, cs the calls after its first packet's
pub record Whole (C : Cipher) (d : Delivery) (cs : List Call) (ds : List Delivery) : Type 0 where
  pub taken : Taken d.at
  pub unbroken : Unbroken C cs ds
  pub numbered : Numbered 1 d.packet.ver d.packet.np (d ∷ ds)
  pub sealed : Each (Sealed C) (d ∷ ds)
