-- Sealing and opening undo each other.
use Rattle.std.specs.Prelude.{◌≡◌, ℕ, suc, ◌+◌, ◌-◌, ◌<◌, ◌≤◌, Bool, true, false, cond, ◌&&◌, List, [], ◌∷◌, ◌++◌, length, take, drop, Some, None, Option, ◌==◌, bit_xor, nat_le, nat_lt, slice_index, refl}
use Rattle.std.specs.List.{All}
use Rattle.std.proofs.Common.{sym, ap, ap₂, ◌∙◌, arith, length-append, length-take, eq-eqb, eqb-true}
use Rattle.std.specs.Int.Bits.{xor_assoc, xor_self, xor_zero_r}
use Rattle.std.proofs.lemmas.List.{take-append-drop, take_at, drop_at}
use Rattle.std.proofs.lemmas.Bool.{and_parts, and_from, leb-true, le-leb, ltb-true}
use Rattle.cipher.specs.Cipher.{Lawful}
use Rattle.cipher.specs.Sealing.{xor_from, same, sealed, contents, body_sized, opened, Fixed, has_fixed, first_unfixed, mode}

-- a key stream added twice changes nothing, and added once it keeps the length
xor_twice : (x k : ℕ) → bit_xor (bit_xor x k) k ≡ x
xor_twice x k = xor_assoc x k k ∙ ap (bit_xor x) (xor_self k) ∙ xor_zero_r x

pub xor_from_twice : (s : ℕ → ℕ) (i : ℕ) (xs : List ℕ) → xor_from s i (xor_from s i xs) ≡ xs
xor_from_twice s i [] = refl
xor_from_twice s i (x ∷ xs) = ap₂ ◌∷◌ (xor_twice x (s i)) (xor_from_twice s (i + 1) xs)

pub length_xor_from : (s : ℕ → ℕ) (i : ℕ) (xs : List ℕ) → length (xor_from s i xs) ≡ length xs
length_xor_from s i [] = refl
length_xor_from s i (x ∷ xs) = ap suc (length_xor_from s (i + 1) xs)

-- a list is the same as itself, and lists that are the same are equal
pub same_self : (xs : List ℕ) → same xs xs ≡ true
same_self [] = refl
same_self (x ∷ xs) = rw (eq-eqb x x refl) (same_self xs)

cons_same : (b : Bool) (x y : ℕ) (xs ys : List ℕ) → (b ≡ true → x ≡ y) → (same xs ys ≡ true → xs ≡ ys) → cond b (same xs ys) false ≡ true → ◌≡◌ {A = List ℕ} (x ∷ xs) (y ∷ ys)
cons_same true x y xs ys f g h = ap₂ ◌∷◌ (f refl) (g h)
cons_same false x y xs ys f g h = cc

pub eq_from_same : (xs ys : List ℕ) → same xs ys ≡ true → xs ≡ ys
eq_from_same [] [] h = refl
eq_from_same [] (y ∷ ys) h = let z : [] ≡ y ∷ ys = cc in z
eq_from_same (x ∷ xs) [] h = let z : x ∷ xs ≡ [] = cc in z
eq_from_same (x ∷ xs) (y ∷ ys) h =
    cons_same (x == y) x y xs ys (eqb-true x y) (λ e. eq_from_same xs ys e) h

-- if a test lets a value through, it holds
passed : (q : Bool) (c k : List ℕ) → cond q (Some k) None ≡ Some c → (q ≡ true) × (k ≡ c)
passed true c k h = (refl, cc)
passed false c k h = (cc, cc)

-- the size of a body, and the size of what it stands for
pub sizes : (b : List ℕ) → body_sized b ≡ true → (16 ≤ length b) × (length b ≤ 282)
sizes b h = let p = and_parts (nat_le 16 (length b)) (nat_le (length b) 282) h in (leb-true _ _ p.0, leb-true _ _ p.1)

pub length_contents : (s : ℕ → ℕ) (b : List ℕ) → length (contents s b) ≡ length b - 16
length_contents s b = length_xor_from s 0 (take (length b - 16) b) ∙ length-take (length b - 16) b ∙ omega arith

module _ (s : ℕ → ℕ) (tag : List ℕ → List ℕ) where
  -- what a body opens to seals to it, a body is 16 bytes longer than its contents, and what contents seal to opens to them
  sound : (b c : List ℕ) → opened s tag b ≡ Some c → (sealed s tag c ≡ b) × (length c ≤ 266)
  sound b c h =
      let p = passed (body_sized b && same (tag (contents s b)) (drop (length b - 16) b)) c (contents s b) h in
      let q = and_parts (body_sized b) (same (tag (contents s b)) (drop (length b - 16) b)) p.0 in
      let t = eq_from_same (tag (contents s b)) (drop (length b - 16) b) q.1 in (
        ap (sealed s tag) (sym p.1) ∙ ap₂ ◌++◌ (xor_from_twice s 0 (take (length b - 16) b)) t ∙ take-append-drop (length b - 16) b,
        omega (arith, ap length p.1, length_contents s b, sizes b q.0),
      )

  length_sealed : (c : List ℕ) → length (tag c) ≡ 16 → length (sealed s tag c) ≡ length c + 16
  length_sealed c h = length-append (xor_from s 0 c) (tag c) ∙ ap₂ ◌+◌ (length_xor_from s 0 c) h

  complete : (c : List ℕ) → length (tag c) ≡ 16 → length c ≤ 266 → opened s tag (sealed s tag c) ≡ Some c
  complete c h k =
      let b = sealed s tag c in
      let n = length_sealed c h in
      let m = length_xor_from s 0 c in
      let e : length b - 16 ≡ length (xor_from s 0 c) = omega arith in
      let l : body_sized b ≡ true = and_from _ _ (le-leb 16 (length b) (omega arith)) (le-leb (length b) 282 (omega arith)) in
      let t : take (length b - 16) b ≡ xor_from s 0 c = rw e (take_at (xor_from s 0 c) (tag c) _ refl) in
      let d : drop (length b - 16) b ≡ tag c = rw e (drop_at (xor_from s 0 c) (tag c) _ refl) in
      let f : contents s b ≡ c = rw t (xor_from_twice s 0 c) in
      rw (l, d, f, same_self (tag c))

  -- what opening says, by its tests
  pub opened_unsized : (b : List ℕ) → body_sized b ≡ false → opened s tag b ≡ None
  opened_unsized b h = rw h

  pub opened_by : (b : List ℕ) (t : Bool) → body_sized b ≡ true → same (tag (contents s b)) (drop (length b - 16) b) ≡ t
      → opened s tag b ≡ cond t (Some (contents s b)) None
  opened_by b t h e = rw (h, e)

-- two values are equal if their Somes are
some_same : (c d : List ℕ) → ◌≡◌ {A = Option (List ℕ)} (Some c) (Some d) → c ≡ d
some_same c d e = cc

-- whether the places of an IV's fixed bytes are all below 16
abbrev places_within : Fixed → Bool
places_within [] = true
places_within ((i, b) ∷ rest) = nat_lt i 16 && places_within rest

-- if they are, the place of the first fixed byte that an IV does not have is below 16
unfixed_within : (fixed : Fixed) (iv : List ℕ) → places_within fixed ≡ true → first_unfixed fixed iv < 16
unfixed_within [] iv h = omega arith
unfixed_within ((i, b) ∷ rest) iv h =
    let p = and_parts (nat_lt i 16) (places_within rest) h in
    elim (slice_index iv i == b) as (λ t. cond t (first_unfixed rest iv) i < 16) [ true ↦ unfixed_within rest iv p.1 | false ↦ ltb-true i 16 p.0 ]

-- a key stream with a tag of 16 bytes is a lawful packet cipher
pub mode_lawful : (fixed : Fixed) (stream : List ℕ → List ℕ → ℕ → ℕ) (tag : List ℕ → List ℕ → List ℕ → List ℕ)
    → places_within fixed ≡ true → (iv : List ℕ) → length iv ≡ 16 → has_fixed fixed iv ≡ true → All (λ b. b < 256) iv
    → ((k iv c : List ℕ) → length k ≡ 16 → length iv ≡ 16 → length (tag k iv c) ≡ 16) → Lawful (mode fixed stream tag)
mode_lawful fixed stream tag w iv l f bytes size = record {
  some_iv = (iv, l, f, bytes);
  wrong_within = λ iv _ _. unfixed_within fixed iv w;
  sound = λ k iv b c u. sound (stream k iv) (tag k iv) b c;
  complete = λ k iv c u. complete (stream k iv) (tag k iv) c (size k iv c u.0 u.1);
  longer = λ k iv c u _. length_sealed (stream k iv) (tag k iv) c (size k iv c u.0 u.1);
  apart = λ k iv c d u hc hd e.
      some_same c d
      (sym (complete (stream k iv) (tag k iv) c (size k iv c u.0 u.1) hc) ∙ ap (opened (stream k iv) (tag k iv)) e
      ∙ complete (stream k iv) (tag k iv) d (size k iv d u.0 u.1) hd);
}
