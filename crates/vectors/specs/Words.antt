-- What words of cases say.
use Rattle.std.specs.Prelude.{ℕ, cond, List, Some, None, codes, Option, ◌==◌}
use Rattle.std.specs.List.{slice_split}
use Rattle.std.specs.Str.{bytes_eq}
use Rattle.text.specs.Numbers.{and_then}
use Rattle.text.specs.Decimal.{decimal_read}
use Rattle.text.specs.Hex.{block_read}
use Rattle.packer.specs.declared.packet.KeyPacket.{KeyPacket}
use Rattle.vectors.specs.declared.words.Mode.{Mode}
use Rattle.vectors.specs.declared.words.Mode.TheVariants.{Ccm, Gcm}
use Rattle.vectors.specs.declared.words.Sealing.{Sealing}
use Rattle.vectors.specs.declared.words.DataFields.{DataFields}

-- the words of a line: what stands between its spaces
abbrev pub words_read : List ℕ → List (List ℕ)
words_read line = slice_split (λ b. b == 32) line

-- the mode that a word names
abbrev pub mode_read : List ℕ → Option Mode
mode_read word = cond (bytes_eq word (codes "ccm")) (Some Ccm) (cond (bytes_eq word (codes "gcm")) (Some Gcm) None)

-- what a packet is sealed with
abbrev pub sealing_read : List ℕ → List ℕ → List ℕ → Option Sealing
sealing_read cipher key iv =
    and_then (mode_read cipher) (λ m. and_then (block_read key) (λ k. and_then (block_read iv) (λ i. Some (record { mode = m; key = k; iv = i }))))

-- the numbers of a data packet, and the room
abbrev pub data_read : List ℕ → List ℕ → List ℕ → List ℕ → List ℕ → Option DataFields
data_read ver pn np address room =
    and_then (decimal_read 255 ver) (λ v. and_then (decimal_read 65535 pn) (λ n. and_then (decimal_read 65535 np) (λ c.
    and_then (decimal_read 0xFFFFFFFF address) (λ a. and_then (decimal_read 0xFFFFFFFF room) (λ r.
    Some (record { version = v; number = n; count = c; address = a; room = r }))))))

-- a key packet
abbrev pub key_read : List ℕ → List ℕ → List ℕ → Option KeyPacket
key_read kt kv key =
    and_then (decimal_read 255 kt) (λ t. and_then (decimal_read 255 kv) (λ v. and_then (block_read key) (λ k. Some (record { kind = t; version = v; key = k }))))
