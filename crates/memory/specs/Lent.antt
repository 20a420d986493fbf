-- What a lent image means.
use Rattle.std.specs.Prelude.{◌≡◌, ℕ, List, length}
use Rattle.memory.specs.Areas.{map_size}
use Rattle.memory.specs.Meaning.{Meaning}
use Rattle.memory.specs.declared.held.Held.{Held}
use Rattle.memory.specs.declared.lent.LentImage.{LentImage}
use Rattle.memory.specs.declared.supply.Supply.{Supply}

-- a memory of some contents and a supply
abbrev pub meaning_of : List ℕ → Held → Supply → Meaning
meaning_of xs h u = record { contents = record { image = xs; held = h }; supply = u }

-- what a lent image means
abbrev pub lent_meaning : LentImage → Meaning
lent_meaning s = meaning_of s.image.now s.held s.supply

-- a lent image made anew of its fields: it has no other
abbrev pub lent_whole : LentImage → LentImage
lent_whole s = record { image = s.image; held = s.held; supply = s.supply; long = s.long }

-- a lent image is as long as the map
pub lent_long : (s : LentImage) → length (lent_meaning s).contents.image ≡ map_size
lent_long s = s.long
