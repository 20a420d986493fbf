-- What cases give; nothing for a line that is no case.
use Rattle.std.specs.Prelude.{ℕ, cond, List, [], ◌∷◌, codes, length, Some, None, Ok, Option, Result, ◌==◌, nat_le}
use Rattle.std.specs.Str.{bytes_eq}
use Rattle.fault.specs.declared.Fault.{Fault}
use Rattle.cipher.specs.Aes.{aes}
use Rattle.cipher.specs.Ccm.{ccm}
use Rattle.cipher.specs.Cipher.{Cipher}
use Rattle.cipher.specs.Gcm.{gcm}
use Rattle.packer.specs.Packing.{packed_data, packed_key}
use Rattle.packer.specs.declared.packet.DataPacket.{DataPacket}
use Rattle.packer.specs.declared.packet.KeyPacket.{KeyPacket}
use Rattle.text.specs.Decimal.{decimal_read}
use Rattle.text.specs.Hex.{block_read, hex_read}
use Rattle.text.specs.Numbers.{and_then}
use Rattle.vectors.specs.Answers.{opened, sealed}
use Rattle.vectors.specs.Words.{data_read, key_read, sealing_read}
use Rattle.vectors.specs.declared.words.DataFields.{DataFields}
use Rattle.vectors.specs.declared.words.Mode.{Mode}
use Rattle.vectors.specs.declared.words.Mode.TheVariants.{Ccm, Gcm}
use Rattle.vectors.specs.declared.words.Sealing.{Sealing}

-- the packet cipher of a mode
abbrev pub cipher_of : Mode → Cipher
cipher_of Ccm = ccm aes
cipher_of Gcm = gcm aes

-- the bytes of a word: pairs of digits, or a hyphen for none
abbrev pub bytes_read : List ℕ → Option (List ℕ)
bytes_read [] = None
bytes_read (d ∷ []) = cond (d == 45) (Some []) None
bytes_read (d ∷ e ∷ ds) = hex_read (d ∷ e ∷ ds)

-- the answer to a block case
abbrev pub block_read_answer : List ℕ → List ℕ → Option (Result (List ℕ) Fault)
block_read_answer key block = and_then (block_read key) (λ k. and_then (block_read block) (λ b. Some (Ok (aes k b))))

-- the body of contents of at most 266 bytes; nothing for more
abbrev pub sealed_short : Cipher → List ℕ → List ℕ → List ℕ → Option (Result (List ℕ) Fault)
sealed_short C key iv contents = cond (nat_le (length contents) 266) (Some (sealed C key iv contents)) None

-- the frame of a data packet, for an output of at most 1024 bytes; nothing for a larger one
abbrev pub data_packed : Cipher → List ℕ → List ℕ → DataPacket → ℕ → Option (Result (List ℕ) Fault)
data_packed C key iv p room = cond (nat_le room 1024) (Some (packed_data C key iv p room)) None

-- the frame of a key packet, likewise
abbrev pub key_packed : Cipher → List ℕ → List ℕ → KeyPacket → ℕ → Option (Result (List ℕ) Fault)
key_packed C kek iv p room = cond (nat_le room 1024) (Some (packed_key C kek iv p room)) None

-- the packet of some fields and data, wherever the data stand
abbrev pub packet_of : DataFields → List ℕ → DataPacket
packet_of f bs = record { version = f.version; number = f.number; count = f.count; address = f.address; bytes = record { ref_ptr = (0, 0); now = bs } }

-- the answer to a seal case: a body, for the words of what seals it and of the contents
abbrev pub seal_read : List ℕ → List ℕ → List ℕ → List ℕ → Option (Result (List ℕ) Fault)
seal_read cipher key iv contents =
    and_then (sealing_read cipher key iv) (λ w. and_then (bytes_read contents) (λ bs. sealed_short (cipher_of w.mode) w.key w.iv bs))

-- the answer to an open case: contents, for the words of what opens them and of the body
abbrev pub open_read : List ℕ → List ℕ → List ℕ → List ℕ → Option (Result (List ℕ) Fault)
open_read cipher key iv body =
    and_then (sealing_read cipher key iv) (λ w. and_then (bytes_read body) (λ bs. Some (opened (cipher_of w.mode) w.key w.iv bs)))

-- the answer to a data case: a frame, for what seals it, the fields and the word of the data
abbrev pub data_given : Option Sealing → Option DataFields → List ℕ → Option (Result (List ℕ) Fault)
data_given with fields bytes =
    and_then with (λ w. and_then fields (λ f. and_then (bytes_read bytes) (λ bs. data_packed (cipher_of w.mode) w.key w.iv (packet_of f bs) f.room)))

-- the answer to a key case: a frame, for what seals it, a key packet and the room
abbrev pub key_given : Option Sealing → Option KeyPacket → Option ℕ → Option (Result (List ℕ) Fault)
key_given with packet room = and_then with (λ w. and_then packet (λ p. and_then room (λ r. key_packed (cipher_of w.mode) w.key w.iv p r)))

-- the answer to the words of a case, of which the first says its kind
abbrev pub answer_read : List (List ℕ) → Option (Result (List ℕ) Fault)
answer_read (kind ∷ a ∷ b ∷ []) = cond (bytes_eq kind (codes "block")) (block_read_answer a b) None
answer_read (kind ∷ a ∷ b ∷ c ∷ d ∷ []) =
    cond (bytes_eq kind (codes "seal")) (seal_read a b c d) (cond (bytes_eq kind (codes "open")) (open_read a b c d) None)
answer_read (kind ∷ a ∷ b ∷ c ∷ d ∷ e ∷ f ∷ g ∷ []) =
    cond (bytes_eq kind (codes "key")) (key_given (sealing_read a b c) (key_read d e g) (decimal_read 4294967295 f)) None
answer_read (kind ∷ a ∷ b ∷ c ∷ d ∷ e ∷ f ∷ g ∷ h ∷ i ∷ []) =
    cond (bytes_eq kind (codes "data")) (data_given (sealing_read a b c) (data_read d e f g h) i) None
answer_read _ = None
