-- Images as they are kept, and what a snapshot of a memory says.
use Rattle.std.specs.Prelude.{ℕ, Bool, List, codes, nat_eq}
use lib.Pointwise.{pointwise}
use Rattle.memory.specs.Lent.{meaning_of}
use Rattle.memory.specs.Meaning.{Meaning}
use Rattle.sweep.specs.declared.kind.Kind.{Kind}
use Rattle.sweep.specs.declared.kind.Kind.TheVariants.{Lent, Scrambled}
use Rattle.sweep.specs.declared.snapshot.Snapshot.{Snapshot}

-- the name of a kind
abbrev pub kind_text : Kind → List ℕ
kind_text Lent = codes "the lent image"
kind_text Scrambled = codes "the scrambler"

-- whether two images are the same in each byte
abbrev pub same : List ℕ → List ℕ → Bool
same xs ys = pointwise nat_eq xs ys

-- what a snapshot holds, by the clear bytes of an image as it is kept
abbrev pub snapshot_meaning : (List ℕ → List ℕ) → Snapshot → Meaning
snapshot_meaning clear s = meaning_of (clear s.image.items) s.held s.supply
