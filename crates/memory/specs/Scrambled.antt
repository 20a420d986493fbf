-- The clear bytes of an image that is kept scrambled.
use Rattle.std.specs.Prelude.{◌≡◌, ℕ, suc, ◌+◌, ◌%◌, List, [], ◌∷◌, length, bit_xor, refl}
use Rattle.std.proofs.Common.{ap, ◌∙◌}
use Rattle.memory.specs.Areas.{address_at, map_size}
use Rattle.memory.specs.Meaning.{Contents, Meaning, with_image}
use Rattle.memory.specs.declared.scrambler.Scrambler.{Scrambler}

-- what the byte at an address is kept XOR: its address mod 256, and one fixed byte
abbrev pub mask : ℕ → ℕ → ℕ
mask f a = bit_xor (a % 256) f

-- the clear bytes of what stands in the image from a place on
abbrev pub clear_from : ℕ → ℕ → List ℕ → List ℕ
clear_from f p [] = []
clear_from f p (b ∷ bs) = bit_xor b (mask f (address_at p)) ∷ clear_from f (p + 1) bs

-- the clear image
unfoldable pub clear : ℕ → List ℕ → List ℕ
clear f xs = clear_from f 0 xs

-- contents with their image clear
abbrev pub clear_contents : ℕ → Contents → Contents
clear_contents f c = with_image (clear f c.image) c

-- what a scrambled memory means
abbrev pub clear_meaning : ℕ → Meaning → Meaning
clear_meaning f m = record { contents = clear_contents f m.contents; supply = m.supply }

-- a scrambler made anew of its fields: it has no other
abbrev pub scrambler_whole : {M : Type 0} → Scrambler M → Scrambler M
scrambler_whole s = record { below = s.below; fixed = s.fixed }

-- the clear image is as long as the one that is kept
as_long : (f p : ℕ) (xs : List ℕ) → length (clear_from f p xs) ≡ length xs
as_long f p [] = refl
as_long f p (x ∷ xs) = ap suc (as_long f (p + 1) xs)

-- so it is as long as the map
pub clear_long : (f : ℕ) (m : Meaning) → length m.contents.image ≡ map_size → length (clear_meaning f m).contents.image ≡ map_size
unfolding clear
clear_long f m h = as_long f 0 m.contents.image ∙ h
