-- The map's areas, the place of each address in the image, and which ranges are in the map.
use Rattle.std.specs.Prelude.{◌≡◌, ℕ, zero, suc, ◌+◌, ◌-◌, ◌<◌, Bool, false, cond, ◌&&◌, ◌||◌, List, [], ◌∷◌, is_some, Some, None, Ok, Err, Option, Result, nat_le, nat_lt}
use Rattle.fault.specs.declared.Fault.{Fault}
use Rattle.fault.specs.declared.Fault.TheVariants.{OutsideArea}
use Rattle.memory.specs.declared.areas.Area.{Area}
use Rattle.memory.specs.declared.areas.Range.{Range}

-- whether an area holds an address
abbrev pub holds : Area → ℕ → Bool
holds x a = nat_le x.first a && nat_le a x.last

-- how many bytes an area has
abbrev pub size : Area → ℕ
size x = (x.last + 1) - x.first

-- the last address of a range that a mass erase blanks byte by byte: the reset vector is left out, since it is blanked before, as one step
abbrev pub erase_last : Range → ℕ
erase_last r = cond (nat_le r.first 0xFFFE && nat_le 0xFFFE r.last) 0xFFFD r.last

-- the place of an address in the image of some areas, in their order, from a base on
abbrev pub place_in : List Area → ℕ → ℕ → Option ℕ
place_in [] base a = None
place_in (x ∷ xs) base a = cond (holds x a) (Some (base + (a - x.first))) (place_in xs (base + size x) a)

-- whether one of some areas holds an address
abbrev pub some_holds : List Area → ℕ → Bool
some_holds [] a = false
some_holds (x ∷ xs) a = holds x a || some_holds xs a

-- the address at a place in the image of some areas
abbrev pub address_in : List Area → ℕ → ℕ
address_in [] p = 0
address_in (x ∷ xs) p = cond (nat_lt p (size x)) (x.first + p) (address_in xs (p - size x))

-- the addresses from a first to a last
abbrev range : ℕ → ℕ → Range
range f l = record { first = f; last = l }

-- an area from its first to its last address, and what is erased of it
abbrev area : ℕ → ℕ → Option Range → Area
area f l e = record { first = f; last = l; erase = e }

-- the map: info, lower, table, upper
unfoldable pub all_areas : List Area
all_areas =
    area 0x1800 0x19FF None ∷ area 0x4400 0xEFFF (Some (range 0x4400 0xEFFF)) ∷ area 0xFF80 0xFFFF (Some (range 0xFFC0 0xFFFF))
    ∷ area 0x10000 0x13FFF (Some (range 0x10000 0x13FFF)) ∷ []

-- how many bytes the map has
abbrev pub map_size : ℕ
map_size = 61056

-- the place of an address in the image of the map
unfoldable pub place : ℕ → Option ℕ
place a = place_in all_areas 0 a

-- the address at a place in the image of the map
unfoldable pub address_at : ℕ → ℕ
address_at p = address_in all_areas p

-- the first of n addresses upward that is outside the map
unfoldable pub first_outside : ℕ → ℕ → Option ℕ
first_outside a zero = None
first_outside a (suc n) = cond (is_some (place a)) (first_outside (a + 1) n) (Some a)

-- the refusal of a first address outside the map
abbrev pub refused_at : Option ℕ → Result (Unit {0}) Fault
refused_at None = Ok tt
refused_at (Some a) = Err (OutsideArea a)

-- what checking n addresses upward answers
abbrev pub range_checked : ℕ → ℕ → Result (Unit {0}) Fault
range_checked a n = refused_at (first_outside a n)

-- place and address are inverse on the map
abbrev pub Inverse : Type 0
Inverse = ((a p : ℕ) → place a ≡ Some p → address_at p ≡ a) × ((p : ℕ) → p < map_size → place (address_at p) ≡ Some p)

-- where the two bytes of the reset vector stand in the image
abbrev pub VectorPlace : Type 0
VectorPlace = (place 0xFFFE ≡ Some 44670) × (place 0xFFFF ≡ Some 44671)

-- each range, an address and a count, has the answer that stands beside it
abbrev Answered : List (ℕ × ℕ × Result (Unit {0}) Fault) → Type 0
Answered [] = Unit {0}
Answered (e ∷ es) = (range_checked e.0 e.1 ≡ e.2) × Answered es

-- ranges at the ends of the areas
abbrev pub RangeExamples : Type 0
RangeExamples =
    Answered
    ((0xEFFF, 1, Ok tt) ∷ (0xEFFF, 2, Err (OutsideArea 0xF000)) ∷ (0xFFFF, 2, Ok tt)
    ∷ (0x13FFF, 2, Err (OutsideArea 0x14000)) ∷ (0x19FF, 2, Err (OutsideArea 0x1A00)) ∷ [])
