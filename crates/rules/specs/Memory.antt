-- What the rules say of a memory's contents.
use Rattle.std.specs.Prelude.{◌≡◌, ℕ, ◌+◌, ◌<◌, ◌≤◌, Bool, ◌&&◌, ◌⊎◌, List, [], ◌∷◌, length, Some, None, Option, ◌==◌, slice_index, slice_index_or}
use Rattle.memory.specs.declared.held.Held.{Held}
use Rattle.memory.specs.declared.held.KeyRecord.{KeyRecord}
use Rattle.memory.specs.Areas.{place, first_outside, map_size}
use Rattle.memory.specs.Meaning.{Contents, put}

-- what stands where there is no key
abbrev pub no_key : KeyRecord
no_key = record { key = []; version = 0 }

-- the record at a place of the key table: the data key stands at 0, the key-encryption key at 1
abbrev pub key_record : Held → ℕ → KeyRecord
key_record h i = slice_index_or h.keys i no_key

-- the bytes of the data key
abbrev pub data_key : Held → List ℕ
data_key h = (key_record h 0).key

-- the bytes of the key-encryption key
abbrev pub kek : Held → List ℕ
kek h = (key_record h 1).key

-- what stands at a place of an image
abbrev pub at_place : Option ℕ → List ℕ → ℕ
at_place None xs = 0
at_place (Some p) xs = slice_index xs p

-- what stands at a map address
abbrev pub byte_at : Contents → ℕ → ℕ
byte_at c a = at_place (place a) c.image

-- the application's reset vector is blank
abbrev pub blank : Contents → Bool
blank c = byte_at c 0xFFFE == 0xFF && byte_at c 0xFFFF == 0xFF

-- An image with data laid over it, upward from an address.
unfoldable pub lay : ℕ → List ℕ → List ℕ → List ℕ
lay a [] i = i
lay a (b ∷ bs) i = lay (a + 1) bs (put a b i)

-- Data laid over an image from an address on: each of its addresses holds its byte, and every other what it held.
pub record Laid (a : ℕ) (bs i : List ℕ) : Type 0 where
  pub there : (k : ℕ) → k < length bs → at_place (place (a + k)) (lay a bs i) ≡ slice_index bs k
  pub elsewhere : (b : ℕ) → (b < a) ⊎ (a + length bs ≤ b) → at_place (place b) (lay a bs i) ≡ at_place (place b) i

-- Data whose addresses are in the map is laid over an image.
abbrev pub DataIsLaid : Type 0
DataIsLaid = (a : ℕ) (bs i : List ℕ) → length i ≡ map_size → first_outside a (length bs) ≡ None → Laid a bs i
