-- What the frame of a message is, and what a core command's first byte says.
use Rattle.std.proofs.Common.{◌≡◌, ℕ, zero, suc, ◌<◌, ◌≤◌, Bool, true, false, cond, eqb, ltb, List, [], ◌∷◌, get_or, sym, refl, ap, ◌∙◌, arith}
use mathlib.Core.Bool.{false≢true}
use Rattle.std.proofs.lemmas.Bool.{eqb-true}
use Rattle.fault.specs.declared.Fault.TheVariants.{Dark}
use Rattle.fault.specs.declared.Fault.{Fault}
use Rattle.fault.specs.declared.Fault.TheVariants.{ReplyShort, WorkShort}
use Rattle.memory.specs.declared.supply.Supply.{Supply}
use Rattle.rules.specs.declared.Event.{Event}
use Rattle.rules.specs.declared.Event.TheVariants.{Byte, Silence, Question, PowerUp}
use Rattle.rules.specs.Board.{State, Heard, turned_away, part, garbled, framed, silence, question, power_up, heard, heard_read}
use Rattle.rules.specs.declared.Command.{Command}
use Rattle.rules.specs.declared.Command.TheVariants.{Version as tell_version, Unknown as unknown, Data as data_packet, Key as key_packet, MassErase as mass_erase, Reset as reset}
use Rattle.rules.specs.Receiver.{read, Read}
use Rattle.rules.specs.Receiver.Read.{waits, bad, good}
use Rattle.wire.specs.Frame.{frame}
use Rattle.rules.specs.Commands.{message, version_answer}
use Rattle.wire.specs.Checksum.{crc, crc_from, crc_bits, crc_byte}
use Rattle.rules.specs.Commands.{command, longer}
use Rattle.rules.specs.Words.{Begins}
use Rattle.rules.specs.Promises.{JustMessage}

pub taken_message : message 0 ≡ 0 ∷ 0x80 ∷ 2 ∷ 0 ∷ 0x3B ∷ 0 ∷ 0x60 ∷ 0xC4 ∷ []
unfolding frame crc crc_from crc_byte crc_bits
taken_message = refl

pub refused_message : message 5 ≡ 0 ∷ 0x80 ∷ 2 ∷ 0 ∷ 0x3B ∷ 5 ∷ 0xC5 ∷ 0x94 ∷ []
unfolding frame crc crc_from crc_byte crc_bits
refused_message = refl

pub version_is : version_answer ≡ 0 ∷ 128 ∷ 5 ∷ 0 ∷ 58 ∷ 0 ∷ 88 ∷ 86 ∷ 181 ∷ 68 ∷ 255 ∷ []
unfolding frame crc crc_from crc_byte crc_bits
version_is = refl

abbrev yes_bytes : List ℕ
yes_bytes = 0 ∷ 0x80 ∷ 2 ∷ 0 ∷ 0x3B ∷ 0 ∷ 0x60 ∷ 0xC4 ∷ []

abbrev no_bytes : List ℕ
no_bytes = 0 ∷ 0x80 ∷ 2 ∷ 0 ∷ 0x3B ∷ 5 ∷ 0xC5 ∷ 0x94 ∷ []

same_front : (i : ℕ) → i < 5 → get_or yes_bytes i 0 ≡ get_or no_bytes i 0
same_front zero h = refl
same_front (suc zero) h = refl
same_front (suc (suc zero)) h = refl
same_front (suc (suc (suc zero))) h = refl
same_front (suc (suc (suc (suc zero)))) h = refl
same_front (suc (suc (suc (suc (suc i))))) h = absurd (omega arith)

other_end : (i : ℕ) → 5 ≤ i → i < 8 → get_or yes_bytes i 0 ≡ get_or no_bytes i 0 → ⊥
other_end zero l h e = omega arith
other_end (suc zero) l h e = omega arith
other_end (suc (suc zero)) l h e = omega arith
other_end (suc (suc (suc zero))) l h e = omega arith
other_end (suc (suc (suc (suc zero)))) l h e = omega arith
other_end (suc (suc (suc (suc (suc zero))))) l h e = omega arith
other_end (suc (suc (suc (suc (suc (suc zero)))))) l h e = omega arith
other_end (suc (suc (suc (suc (suc (suc (suc zero))))))) l h e = omega arith
other_end (suc (suc (suc (suc (suc (suc (suc (suc i)))))))) l h e = omega arith

pub yes_no : JustMessage (message 0) (message 5)
yes_no =
    rw (taken_message, refused_message)
    (record { long = (refl, refl); alike = same_front; differ = other_end })

pub no_yes : JustMessage (message 5) (message 0)
no_yes =
    rw (taken_message, refused_message)
    (record { long = (refl, refl); alike = λ i h. sym (same_front i h); differ = λ i l h e. other_end i l h (sym e) })

pub data_begins : (core : List ℕ) → Begins 0x30 core → command core ≡ data_packet
unfolding command
data_begins core (rest, e) = ap command e

pub key_begins : (core : List ℕ) → Begins 0x31 core → command core ≡ key_packet
unfolding command
key_begins core (rest, e) = ap command e

-- whether a command is a packet's: 0 a data packet, 1 a key packet, 2 another
abbrev sort : Command → ℕ
sort mass_erase = 2
sort tell_version = 2
sort reset = 2
sort data_packet = 0
sort key_packet = 1
sort (unknown b) = 2

alone_sort : (d : ℕ) (a b c : Bool) → sort (cond a mass_erase (cond b tell_version (cond c reset (unknown d)))) ≡ 2
alone_sort d true b c = refl
alone_sort d false true c = refl
alone_sort d false false true = refl
alone_sort d false false false = refl

longer_sort : (c : ℕ) (rest : List ℕ) → sort (longer c rest) ≡ 2
longer_sort c [] = alone_sort c (eqb c 0x15) (eqb c 0x19) (eqb c 0x25)
longer_sort c (b ∷ bs) = refl

cond_sort : (a b : Bool) (k : Command) → sort k ≡ 2
    → ((sort (cond a data_packet (cond b key_packet k)) ≡ 0) → a ≡ true) × ((sort (cond a data_packet (cond b key_packet k)) ≡ 1) → b ≡ true)
cond_sort true true k e = (λ _. refl, λ _. refl)
cond_sort true false k e = (λ _. refl, λ h. absurd (omega arith))
cond_sort false true k e = (λ h. absurd (omega arith), λ _. refl)
cond_sort false false k e = (λ h. absurd (omega arith), λ h. absurd (omega arith))

pub begins_data : (core : List ℕ) → command core ≡ data_packet → Begins 0x30 core
unfolding command
begins_data [] e = absurd (let z : ◌≡◌ {A = ℕ} 0 1 = cc in omega arith)
begins_data (c ∷ rest) e = (rest, ap (λ (x : ℕ). x ∷ rest) (eqb-true c 0x30 ((cond_sort (eqb c 0x30) (eqb c 0x31) (longer c rest) (longer_sort c rest)).0 (ap sort e))))

pub begins_key : (core : List ℕ) → command core ≡ key_packet → Begins 0x31 core
unfolding command
begins_key [] e = absurd (let z : ◌≡◌ {A = ℕ} 0 1 = cc in omega arith)
begins_key (c ∷ rest) e = (rest, ap (λ (x : ℕ). x ∷ rest) (eqb-true c 0x31 ((cond_sort (eqb c 0x30) (eqb c 0x31) (longer c rest) (longer_sort c rest)).1 (ap sort e))))

-- only a power-up is heard as one
abbrev is_power_up : Heard → Bool
is_power_up (turned_away f) = false
is_power_up (part r) = false
is_power_up (garbled f) = false
is_power_up (framed core) = false
is_power_up silence = false
is_power_up question = false
is_power_up (power_up u) = true

read_unpowered : (r : Read) → is_power_up (heard_read r) ≡ false
unfolding heard_read
read_unpowered (waits r) = refl
read_unpowered (bad f) = refl
read_unpowered (good core) = refl

cond_unpowered : (f g : Fault) (a b c : Bool) (k h : Heard) → is_power_up h ≡ false → is_power_up (cond a (turned_away f) (cond b (turned_away g) (cond c k h))) ≡ true
    → is_power_up k ≡ true
cond_unpowered f g true b c k h n e = absurd (false≢true e)
cond_unpowered f g false true c k h n e = absurd (false≢true e)
cond_unpowered f g false false true k h n e = e
cond_unpowered f g false false false k h n e = absurd (false≢true (sym n ∙ e))

pub power_up_is : (s : State) (e : Event) (u : Supply) → heard s e ≡ power_up u → e ≡ PowerUp u
unfolding heard
power_up_is s (Byte b r w) u q =
    absurd
    (false≢true
    (cond_unpowered ReplyShort WorkShort (ltb r 11) (ltb w 266) s.dark (turned_away Dark) (heard_read (read s.receiver b))
    (read_unpowered (read s.receiver b)) (ap is_power_up q)))
power_up_is s Silence u q = absurd (false≢true (cond_unpowered Dark Dark false false s.dark (turned_away Dark) silence refl (ap is_power_up q)))
power_up_is s Question u q = absurd (false≢true (cond_unpowered Dark Dark false false s.dark (turned_away Dark) question refl (ap is_power_up q)))
power_up_is s (PowerUp v) u q = cc
