-- Places and addresses.
use Rattle.std.proofs.Common.{◌≡◌, ℕ, zero, suc, ◌+◌, ◌-◌, ◌<◌, ◌≤◌, Bool, true, false, cond, ◌&&◌, ◌||◌, ltb, leb, List, [], ◌∷◌, length, get_or, is_some, IfSome, Some, None, Option, sym, refl, ap, ◌∙◌, inl, inr, arith}
use Rattle.std.specs.List.{AllByRecursion as All}
use Rattle.std.proofs.lemmas.Bool.{and_from, and_parts, and_right, cases_Bool, cases_lt, cond-false, cond-true, false≢true, le-leb, le-ltb, leb-true, lt-leb, lt-ltb, or_cases, or_left, or_right}
use Rattle.memory.specs.declared.areas.Area.{Area}
use Rattle.memory.specs.Areas.{address_at, address_in, all_areas, first_outside, holds, map_size, place, place_in, size, some_holds, Inverse, VectorPlace, RangeExamples}

-- an address that one of the areas holds
pub among : (xs : List Area) (i : ℕ) (d : Area) (a : ℕ) → i < length xs → holds (get_or xs i d) a ≡ true → some_holds xs a ≡ true
among [] i d a h t = absurd (omega arith)
among (x ∷ xs) zero d a h t = or_left (holds x a) (some_holds xs a) t
among (x ∷ xs) (suc i) d a h t = or_right (holds x a) (some_holds xs a) (among xs i d a (omega arith) t)

-- an address has a place where some area holds it
or_some : (b c : Bool) (o o' : Option ℕ) → is_some o ≡ true → is_some o' ≡ c → is_some (cond b o o') ≡ (b || c)
or_some true c o o' h k = h
or_some false c o o' h k = k

pub place_known : (xs : List Area) (base a : ℕ) → is_some (place_in xs base a) ≡ some_holds xs a
place_known [] base a = refl
place_known (x ∷ xs) base a = or_some (holds x a) (some_holds xs a) _ _ refl (place_known xs (base + size x) a)

-- where some areas end in their image
abbrev end_of : List Area → ℕ → ℕ
end_of [] base = base
end_of (x ∷ xs) base = end_of xs (base + size x)

end_past : (xs : List Area) (base : ℕ) → base ≤ end_of xs base
end_past [] base = omega arith
end_past (x ∷ xs) base = omega (arith, end_past xs (base + size x))

-- an address that an area holds lies between its ends
held_here : (x : Area) (a : ℕ) → holds x a ≡ true → (x.first ≤ a) × (a ≤ x.last)
held_here x a t = let u = and_parts (leb x.first a) (leb a x.last) t in (leb-true _ _ u.0, leb-true _ _ u.1)

-- a place lies between the base and the end, and the address there is the one that it is the place of
within_in : (xs : List Area) (base a p : ℕ) → place_in xs base a ≡ Some p → (base ≤ p) × (p < end_of xs base) × (address_in xs (p - base) ≡ a)
within_in [] base a p e = let z : ◌≡◌ {A = ℕ} 0 1 = cc in absurd (omega arith)
within_in (x ∷ xs) base a p e =
    elim (cases_Bool (holds x a)) [
      | inl t ↦ let q : Some (base + (a - x.first)) ≡ Some p = sym (cond-true _ _ _ t) ∙ e in
          let r : base + (a - x.first) ≡ p = cc in
          let u = held_here x a t in
          let w : p - base < size x = omega arith in
          let z : x.first + (p - base) ≡ a = omega arith in
          (omega arith, omega (arith, end_past xs (base + size x)), cond-true _ _ _ (lt-ltb (p - base) (size x) w) ∙ z)
      | inr t ↦ let k = within_in xs (base + size x) a p (sym (cond-false _ _ _ t) ∙ e) in
          let w : size x ≤ p - base = omega arith in
          let z : (p - base) - size x ≡ p - (base + size x) = omega arith in
          (omega arith, k.1, cond-false _ _ _ (le-ltb (p - base) (size x) w) ∙ ap (address_in xs) z ∙ k.2)
    ]

-- a place is below the map's size
pub place_within : (a p : ℕ) → place a ≡ Some p → p < map_size
unfolding place all_areas
place_within a p e = (within_in all_areas 0 a p e).1

pub place_cases : (a : ℕ) (o : Option ℕ) → o ≡ place a → IfSome o (λ p. p < map_size)
place_cases a None e = tt
place_cases a (Some p) e = place_within a p (sym e)

pub address_back : (a p : ℕ) → place a ≡ Some p → address_at p ≡ a
unfolding place address_at
address_back a p e = let z : p ≡ p - 0 = omega arith in ap (address_in all_areas) z ∙ (within_in all_areas 0 a p e).2

-- areas in rising order, from an address on, none of them empty
abbrev rising : ℕ → List Area → Bool
rising low [] = true
rising low (x ∷ xs) = (leb low x.first && leb x.first x.last) && rising (x.last + 1) xs

risen : (low : ℕ) (x : Area) (xs : List Area) → rising low (x ∷ xs) ≡ true → (low ≤ x.first) × (x.first ≤ x.last) × (rising (x.last + 1) xs ≡ true)
risen low x xs h =
    let u = and_parts (leb low x.first && leb x.first x.last) (rising (x.last + 1) xs) h in
    let v = and_parts (leb low x.first) (leb x.first x.last) u.0 in
    (leb-true _ _ v.0, leb-true _ _ v.1, u.1)

-- each address of rising areas is at or past where they begin, and its place is where it stands
forth_in : (low base : ℕ) (xs : List Area) (p : ℕ) → rising low xs ≡ true → base + p < end_of xs base
    → (low ≤ address_in xs p) × (place_in xs base (address_in xs p) ≡ Some (base + p))
forth_in low base [] p r h = absurd (omega arith)
forth_in low base (x ∷ xs) p r h =
    let u = risen low x xs r in
    elim (cases_lt p (size x)) [
      | inl l ↦ let e = cond-true (ltb p (size x)) (x.first + p) (address_in xs (p - size x)) (lt-ltb p (size x) l) in
          let t : holds x (x.first + p) ≡ true = and_from _ _ (le-leb x.first (x.first + p) (omega arith)) (le-leb (x.first + p) x.last (omega arith)) in
          let z : base + ((x.first + p) - x.first) ≡ base + p = omega arith in
          (omega (arith, e), ap (place_in (x ∷ xs) base) e ∙ cond-true _ _ _ t ∙ ap Some z)
      | inr l ↦ let e = cond-false (ltb p (size x)) (x.first + p) (address_in xs (p - size x)) (le-ltb p (size x) l) in
          let z : (base + size x) + (p - size x) ≡ base + p = omega arith in
          let k = forth_in (x.last + 1) (base + size x) xs (p - size x) u.2 (omega arith) in
          let t : holds x (address_in xs (p - size x)) ≡ false = and_right _ _ (lt-leb (address_in xs (p - size x)) x.last (omega arith)) in
          (omega (arith, e), ap (place_in (x ∷ xs) base) e ∙ cond-false _ _ _ t ∙ k.1 ∙ ap Some z)
    ]

pub place_forth : (p : ℕ) → p < map_size → place (address_at p) ≡ Some p
unfolding place address_at all_areas
place_forth p h = (forth_in 0 0 all_areas p refl (omega arith)).1 ∙ ap Some (omega arith)

pub inverse : Inverse
inverse = (address_back, place_forth)

pub vector_place : VectorPlace
unfolding place all_areas
vector_place = (refl, refl)

-- an address that one of some areas holds is below what is past them all
below_in : (xs : List Area) (a n : ℕ) → All (λ x. x.last < n) xs → some_holds xs a ≡ true → a < n
below_in [] a n h e = absurd (false≢true e)
below_in (x ∷ xs) a n h e =
    elim (or_cases (holds x a) (some_holds xs a) e) [
      | inl t ↦ omega (arith, held_here x a t, h.0)
      | inr t ↦ below_in xs a n h.1 t
    ]

pub in_map : (a : ℕ) → is_some (place a) ≡ some_holds all_areas a
unfolding place
in_map a = place_known all_areas 0 a

-- an address of the map is below 0x14000
pub map_below : (a : ℕ) → is_some (place a) ≡ true → a < 0x14000
unfolding all_areas
map_below a e = below_in all_areas a 0x14000 (omega arith, (omega arith, (omega arith, (omega arith, tt)))) (sym (in_map a) ∙ e)

-- a walk up a range of n addresses, at the k-th one
module _ (a n k : ℕ) (h : k < n) where
  one_left : n - k ≡ suc (n - (k + 1))
  one_left = omega arith

  pub outside_here : is_some (place a) ≡ false → first_outside a (n - k) ≡ Some a
  unfolding first_outside
  outside_here e = ap (first_outside a) one_left ∙ cond-false _ _ _ e

  pub outside_on : is_some (place a) ≡ true → first_outside a (n - k) ≡ first_outside (a + 1) (n - (k + 1))
  unfolding first_outside
  outside_on e = ap (first_outside a) one_left ∙ cond-true _ _ _ e

pub outside_none : (a n k : ℕ) → n ≤ k → first_outside a (n - k) ≡ None
unfolding first_outside
outside_none a n k h = let z : n - k ≡ 0 = omega arith in ap (first_outside a) z

pub range_examples : RangeExamples
unfolding first_outside place all_areas
range_examples = (refl, (refl, (refl, (refl, (refl, tt)))))
