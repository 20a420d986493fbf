-- The three promises on whole runs.
use Rattle.std.specs.Prelude.{◌≡◌, ℕ, ◌<◌, ◌≤◌, ◌⊎◌, List, [], ◌∷◌, ◌++◌, length, ◌≢◌, slice_index}
use Rattle.memory.specs.declared.supply.Supply.{Supply}
use Rattle.memory.specs.declared.supply.Supply.TheVariants.{NoEnd}
use Rattle.rules.specs.declared.Event.{Event}
use Rattle.rules.specs.declared.Event.TheVariants.{PowerUp}
use Rattle.rules.specs.Memory.{data_key, kek}
use Rattle.memory.specs.Areas.{map_size}
use Rattle.cipher.specs.Cipher.{Cipher, Lawful}
use Rattle.rules.specs.Board.{State, Call, Packet, fresh, history}
use Rattle.rules.specs.Words.{Any, Each, version, memory, Boots, Arrives, Begins, Taken, Refused, Opens, Opened, Latest, Delivery, Packets, Whole, laid_over}

-- an image and two keys
pub record Given : Type 0 where
  pub image : List ℕ
  pub data_key_bytes : List ℕ
  pub kek_bytes : List ℕ
  pub map_long : length image ≡ map_size
  pub data_key_long : length data_key_bytes ≡ 16
  pub kek_long : length kek_bytes ≡ 16

-- the fresh board with them
abbrev pub start : Given → State
start g = fresh g.image g.data_key_bytes g.kek_bytes

-- the first packet of the latest update
abbrev pub first_packet : {C : Cipher} {cs : List Call} → Latest C cs → Delivery
first_packet u = record { at = u.at; packet = u.packet }

-- An update among the calls before a boot question r, after which come the calls rest: ds are its packets after the first.
pub record Complete (C : Cipher) {mid : List Call} (u : Latest C mid) (r : Call) (rest : List Call) (ds : List Delivery) : Type 0 where
  -- at the question they are all there, and the update is whole
  pub all_there : Packets C u.behind ds
  pub whole_there : Whole C (first_packet u) u.behind ds
  -- neither the question nor a call after it brings one more, or takes that away
  pub packets : Packets C (u.behind ++ r ∷ rest) ds
  pub whole : Whole C (first_packet u) (u.behind ++ r ∷ rest) ds
  -- the memory bytes at the question are what stood before the update with its data laid over
  pub laid : memory r.before ≡ laid_over (first_packet u ∷ ds) (memory u.at.before)

-- Between two boot questions q and r, both answered 'application', came the calls mid; after r come the calls rest.
pub record Updated (C : Cipher) (q : Call) (mid : List Call) (r : Call) (rest : List Call) : Type 0 where
  -- the firmware version rises exactly when an update opened
  pub rises : Opened C mid → version q.before < version r.before
  pub only_then : version q.before < version r.before → Opened C mid
  -- if none did, it and every memory byte are unchanged
  pub else_kept : (Opened C mid → ⊥) → (version r.before ≡ version q.before) × (memory r.before ≡ memory q.before)
  -- if one did, there is a latest
  pub some_latest : Opened C mid → Latest C mid
  -- it is whole, and the memory bytes are what stood before it with its data laid over
  pub latest : (u : Latest C mid) → (ds : List Delivery) × Complete C u r rest ds

-- updates are whole in the run of a board over a list of events
abbrev pub WholeIn : Cipher → Given → List Event → Type 0
WholeIn C g events =
    (x mid rest : List Call) (q r : Call)
    → history C (start g) events ≡ x ++ q ∷ (mid ++ r ∷ rest)
    → Boots q
    → Boots r
    → Updated C q mid r rest

-- Updates are whole.
abbrev pub UpdatesAreWhole : Type 0
UpdatesAreWhole = (C : Cipher) → Lawful C → (g : Given) (events : List Event) → WholeIn C g events

-- one of an update's packets
abbrev pub OneOf : Call → List Delivery → Type 0
OneOf c ds = Any (λ d. d.at ≡ c) ds

-- Among the calls cs an update opened that is finished, and c took one of its packets.
pub record InAFinishedUpdate (C : Cipher) (cs : List Call) (c : Call) : Type 0 where
  pub before : List Call
  pub first : Call
  pub packet : Packet
  pub behind : List Call
  pub split : cs ≡ before ++ first ∷ behind
  pub opens : Opens C first packet
  pub others : List Delivery
  pub packets : Packets C behind others
  pub one_of : OneOf c (record { at = first; packet = packet } ∷ others)
  pub finished : Any (λ d. Taken d.at × (d.packet.pn ≡ d.packet.np)) (record { at = first; packet = packet } ∷ others)

-- call c took the packet core: as a key packet, or as a packet of an update that is finished within the calls cs
abbrev pub UsedUp : Cipher → List Call → Call → List ℕ → Type 0
UsedUp C cs c core = Taken c × (Begins 0x31 core ⊎ (Begins 0x30 core × InAFinishedUpdate C cs c))

-- two calls held the same key value for a packet: the data key for 0x30, the key-encryption key for 0x31
abbrev pub SameKey : List ℕ → Call → Call → Type 0
SameKey core c d =
    (Begins 0x30 core → data_key c.before.contents.held ≡ data_key d.before.contents.held)
    × (Begins 0x31 core → kek c.before.contents.held ≡ kek d.before.contents.held)

-- no packet is taken twice in the run of a board over a list of events
abbrev pub OnceIn : Cipher → Given → List Event → Type 0
OnceIn C g events =
    (x y z : List Call) (c d : Call) (core : List ℕ)
    → history C (start g) events ≡ (x ++ c ∷ y) ++ d ∷ z
    → Arrives c core → Arrives d core → SameKey core c d → UsedUp C (x ++ c ∷ y) c core
    → Refused d × (d.after.contents ≡ d.before.contents)

-- No packet is taken twice.
abbrev pub NoPacketIsTakenTwice : Type 0
NoPacketIsTakenTwice = (C : Cipher) → Lawful C → (g : Given) (events : List Event) → OnceIn C g events

-- every power-up gives a supply without end
abbrev pub Endlessly : Event → Type 0
Endlessly e = (u : Supply) → e ≡ PowerUp u → u ≡ NoEnd

-- a packet arrives that one takes and the other refuses
pub record Parted (c d : Call) : Type 0 where
  pub core : List ℕ
  pub arrives : Arrives c core × Arrives d core
  pub begins : Begins 0x30 core ⊎ Begins 0x31 core
  pub parted : (Taken c × Refused d) ⊎ (Refused c × Taken d)

-- eight bytes each, which differ just in the message byte and the checksum
pub record JustMessage (a b : List ℕ) : Type 0 where
  pub long : (length a ≡ 8) × (length b ≡ 8)
  pub alike : (i : ℕ) → i < 5 → slice_index a i ≡ slice_index b i
  pub differ : (i : ℕ) → 5 ≤ i → i < 8 → slice_index a i ≢ slice_index b i

-- two calls send the same, unless a packet parts them: then what they send differs just in the message
pub record Alike (c d : Call) : Type 0 where
  pub same : (Parted c d → ⊥) → c.answer.sent ≡ d.answer.sent
  pub parted : Parted c d → JustMessage c.answer.sent d.answer.sent

-- two lists are as long, and their elements are related pair by pair
abbrev pub Pairwise : (Call → Call → Type 0) → List Call → List Call → Type 0
Pairwise R [] [] = Unit {0}
Pairwise R [] (d ∷ ds) = ⊥
Pairwise R (c ∷ cs) [] = ⊥
Pairwise R (c ∷ cs) (d ∷ ds) = R c d × Pairwise R cs ds

-- two boards that get one list of events, with supplies without end, send alike
abbrev pub AlikeIn : Cipher → Given → Cipher → Given → List Event → Type 0
AlikeIn C g D k events =
    Each Endlessly events
    → Pairwise Alike (history C (start g) events) (history D (start k) events)

-- Answers tell nothing of the keys.
abbrev pub AnswersTellNothing : Type 0
AnswersTellNothing = (C D : Cipher) → Lawful C → Lawful D → (g k : Given) (events : List Event) → AlikeIn C g D k events

-- The three promises, kept in one run of a board with this cipher, image and keys over this list of calls.
pub record KeptPromises (C : Cipher) (g : Given) (events : List Event) : Type 0 where
  pub updates_are_whole : WholeIn C g events
  pub no_packet_is_taken_twice : OnceIn C g events
  -- beside any other fresh board that gets the same list
  pub answers_tell_nothing : (D : Cipher) → Lawful D → (k : Given) → AlikeIn C g D k events
