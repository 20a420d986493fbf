-- What the words of the program come to: a packet and its frame, or why there is none.
use Rattle.std.specs.Prelude.{ℕ, cond, List, [], ◌∷◌, codes, length, Some, None, Ok, Err, Option, Result}
use Rattle.std.specs.Str.{bytes_eq}
use Rattle.cipher.specs.Aes.{aes}
use Rattle.cipher.specs.Ccm.{ccm}
use Rattle.cipher.specs.Cipher.{Cipher, iv_checked}
use Rattle.cipher.specs.Gcm.{gcm}
use Rattle.fault.specs.Checks.{then}
use Rattle.fault.specs.declared.Fault.{Fault}
use Rattle.fault.specs.declared.Fault.TheVariants.{NotOpened}
use Rattle.packer.specs.Packing.{packed_data, packed_key}
use Rattle.packer.specs.declared.packet.DataPacket.{DataPacket}
use Rattle.packer.specs.declared.packet.KeyPacket.{KeyPacket}
use Rattle.text.specs.Hex.{hex_read}
use Rattle.pack.specs.Arguments.{data_read, key_read}
use Rattle.pack.specs.declared.arguments.Mode.{Mode}
use Rattle.pack.specs.declared.arguments.Mode.TheVariants.{Ccm, Gcm}
use Rattle.pack.specs.declared.arguments.DataArguments.{DataArguments}
use Rattle.pack.specs.declared.arguments.KeyArguments.{KeyArguments}
use Rattle.pack.specs.declared.failure.Failure.{Failure}
use Rattle.pack.specs.declared.failure.Failure.TheVariants.{Malformed, Refused}
use Rattle.pack.specs.declared.report.Packet.{Packet}
use Rattle.pack.specs.declared.report.Packet.TheVariants.{Data, Key}
use Rattle.pack.specs.declared.report.Report.{Report}
use Rattle.pack.specs.declared.usage.Argument.{Argument}
use Rattle.pack.specs.declared.usage.Argument.TheVariants.{Command, Count, Data as DataWord}
use Rattle.pack.specs.declared.usage.Form.TheVariants.{Unknown, Data as DataForm, Key as KeyForm}

-- the packet cipher of a mode
abbrev pub cipher_of : Mode → Cipher
cipher_of Ccm = ccm aes
cipher_of Gcm = gcm aes

-- the data packet that the arguments ask for, with its data, wherever they stand
abbrev pub data_packet : DataArguments → List ℕ → DataPacket
data_packet a bs = record { version = a.version; number = a.number; count = a.count; address = a.address; bytes = record { ref_ptr = (0, 0); now = bs } }

-- the key packet that the arguments ask for
abbrev pub key_packet : KeyArguments → KeyPacket
key_packet a = record { kind = a.kind; version = a.version; key = a.key }

-- what making a frame answers: the frame, or the refusal of a check
abbrev pub framed : Result (List ℕ) Fault → Result (List ℕ) Failure
framed (Ok frame) = Ok frame
framed (Err fault) = Err (Refused fault)

-- the contents that a body opens to, or refusal 12
abbrev pub contents_or_none : Option (List ℕ) → Result (List ℕ) Fault
contents_or_none None = Err NotOpened
contents_or_none (Some c) = Ok c

-- the same, if the IV is well formed
abbrev pub reopened : Cipher → List ℕ → List ℕ → List ℕ → Result (List ℕ) Fault
reopened C key iv body = then (iv_checked C iv) (contents_or_none (C.opened key iv body))

-- the report of a packet whose frame was made, or the refusal
abbrev pub reported : Packet → Result (List ℕ) Failure → Result Report Failure
reported p (Ok frame) = Ok (record { packet = p; frame = frame })
reported p (Err failure) = Err failure

-- what a data packet comes to, for its arguments and its data
abbrev pub data_given : Result DataArguments Argument → Option (List ℕ) → Result Report Failure
data_given (Err argument) bytes = Err (Malformed DataForm argument)
data_given (Ok a) None = Err (Malformed DataForm DataWord)
data_given (Ok a) (Some bs) = reported (Data a (length bs)) (framed (packed_data (cipher_of a.mode) a.key a.iv (data_packet a bs) 304))

-- what a key packet comes to, for its arguments
abbrev pub key_given : Result KeyArguments Argument → Result Report Failure
key_given (Err argument) = Err (Malformed KeyForm argument)
key_given (Ok a) = reported (Key a) (framed (packed_key (cipher_of a.mode) a.kek a.iv (key_packet a) 304))

-- what the words behind `data` come to: there are eight
abbrev pub data_words : List (List ℕ) → Result Report Failure
data_words (cipher ∷ key ∷ iv ∷ ver ∷ pn ∷ np ∷ address ∷ bytes ∷ []) = data_given (data_read cipher key iv ver pn np address) (hex_read bytes)
data_words _ = Err (Malformed DataForm Count)

-- what the words behind `key` come to: there are six
abbrev pub key_words : List (List ℕ) → Result Report Failure
key_words (cipher ∷ kek ∷ iv ∷ kt ∷ kv ∷ key ∷ []) = key_given (key_read cipher kek iv kt kv key)
key_words _ = Err (Malformed KeyForm Count)

-- what all words come to: behind the program's name, the first says which packet
abbrev pub words_come_to : List (List ℕ) → Result Report Failure
words_come_to (program ∷ command ∷ words) =
    cond (bytes_eq command (codes "data")) (data_words words) (cond (bytes_eq command (codes "key")) (key_words words) (Err (Malformed Unknown Command)))
words_come_to _ = Err (Malformed Unknown Command)
