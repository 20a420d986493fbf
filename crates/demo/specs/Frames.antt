-- The frames of the update.
use Rattle.std.specs.Prelude.{ℕ, zero, suc, List, [], ◌∷◌, ◌++◌}
use Rattle.example.specs.Parts.{part_bytes, part_packet}
use Rattle.wire.specs.Frame.{frame}

-- the frame of part n of version 1, sealed under a key
unfoldable pub part_frame : List ℕ → ℕ → List ℕ
part_frame key n = frame (part_packet key 1 n (part_bytes 1 n))

-- those of its first n parts
unfoldable pub parts_frames : List ℕ → ℕ → List (List ℕ)
parts_frames key zero = []
parts_frames key (suc n) = parts_frames key n ++ part_frame key (suc n) ∷ []

-- those of the update: its three parts
abbrev pub update_frames : List ℕ → List (List ℕ)
update_frames key = parts_frames key 3
