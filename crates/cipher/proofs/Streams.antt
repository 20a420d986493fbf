-- Steps of the loops over bytes and blocks.
use Rattle.std.proofs.Common.{◌≡◌, ℕ, zero, suc, ◌+◌, ◌-◌, ◌*◌, ◌<◌, ◌≤◌, min, Bool, true, false, cond, eqb, List, [], ◌∷◌, ◌++◌, length, get_or, take, drop, set, replicate, sym, refl, ap, ◌∙◌, ap₂, le_of_suc-le-suc, not-suc-le-zero, add-one, arith, length-drop, length-take, take-add, eq-eqb, ne_eqb, eqb-true}
use native.Mathlib.Nat.{suc-min-suc}
use lib.Bits.{bit_xor, bit_or, xor_assoc, xor_self, xor_zero_r, or_add_and, and_le_r}
use borrow.Author.Tests.{eqb-false}
use Rattle.std.proofs.Math.Seq.{take-suc}
use Rattle.std.proofs.lemmas.List.{append_assoc, append-nil, take_all, drop_all, take_at, drop_at, drop-drop}
use Rattle.cipher.specs.Bytes.{xors}
use Rattle.cipher.specs.Blocks.{stream, padded, block_at, chain}
use Rattle.cipher.specs.Sealing.{xor_from, same}
use Rattle.cipher.specs.Schemes.{length_xor_from}

-- a counter's bytes
pub last_two : (xs : List ℕ) (a b : ℕ) → length xs ≡ 16
    → take 12 xs ++ ((get_or xs 12 0 ∷ get_or xs 13 0 ∷ a ∷ b ∷ []) ++ drop 4 (drop 12 xs)) ≡ take 14 xs ++ a ∷ b ∷ []
last_two xs a b h =
    let d : drop 4 (drop 12 xs) ≡ [] = drop-drop 4 12 xs ∙ drop_all 16 xs (omega arith) in
    let x = get_or xs 12 0 in
    let y = get_or xs 13 0 in
    let t : take 14 xs ≡ (take 12 xs ++ x ∷ []) ++ y ∷ [] = take-suc xs 13 0 (omega arith) ∙ ap (λ l. l ++ y ∷ []) (take-suc xs 12 0 (omega arith)) in
    ap (λ l. take 12 xs ++ (x ∷ y ∷ a ∷ b ∷ l)) d
    ∙ sym (ap (λ l. l ++ a ∷ b ∷ []) t ∙ append_assoc (take 12 xs ++ x ∷ []) (y ∷ []) (a ∷ b ∷ []) ∙ append_assoc (take 12 xs) (x ∷ []) (y ∷ a ∷ b ∷ []))

-- `part[i] ^= pad[i]`
xors_set : (xs ps : List ℕ) (i : ℕ) → i < length xs → i < length ps
    → set (xors (take i xs) ps ++ drop i xs) i (bit_xor (get_or xs i 0) (get_or ps i 0)) ≡ xors (take (suc i) xs) ps ++ drop (suc i) xs
xors_set [] ps i h k = absurd (not-suc-le-zero h)
xors_set (x ∷ xs) [] i h k = absurd (not-suc-le-zero k)
xors_set (x ∷ xs) (p ∷ ps) zero h k = refl
xors_set (x ∷ xs) (p ∷ ps) (suc i) h k = ap (λ t. bit_xor x p ∷ t) (xors_set xs ps i (le_of_suc-le-suc h) (le_of_suc-le-suc k))

xors_get : (xs ps : List ℕ) (i : ℕ) → i < length xs → i < length ps → get_or (xors (take i xs) ps ++ drop i xs) i 0 ≡ get_or xs i 0
xors_get [] ps i h k = absurd (not-suc-le-zero h)
xors_get (x ∷ xs) [] i h k = absurd (not-suc-le-zero k)
xors_get (x ∷ xs) (p ∷ ps) zero h k = refl
xors_get (x ∷ xs) (p ∷ ps) (suc i) h k = xors_get xs ps i (le_of_suc-le-suc h) (le_of_suc-le-suc k)

pub xors_more : (xs ps ys : List ℕ) (i : ℕ) → i < length xs → i < length ps → ys ≡ xors (take i xs) ps ++ drop i xs
    → set ys i (bit_xor (get_or ys i 0) (get_or ps i 0)) ≡ xors (take (i + 1) xs) ps ++ drop (i + 1) xs
xors_more xs ps ys i h k e =
    let g = ap (λ t. get_or t i 0) e ∙ xors_get xs ps i h k in
    rw (add-one) (ap₂ (λ t v. set t i (bit_xor v (get_or ps i 0))) e g ∙ xors_set xs ps i h k)

pub xors_all : (xs ps : List ℕ) (n : ℕ) → length xs ≤ n → xors (take n xs) ps ++ drop n xs ≡ xors xs ps
xors_all xs ps n h = ap₂ (λ t d. xors t ps ++ d) (take_all n xs h) (drop_all n xs h) ∙ append-nil (xors xs ps)

-- tags
same_suc : (xs ys : List ℕ) (i : ℕ) → i < length xs → i < length ys
    → same (take (suc i) xs) (take (suc i) ys) ≡ cond (same (take i xs) (take i ys)) (eqb (get_or xs i 0) (get_or ys i 0)) false
same_suc [] ys i h k = absurd (not-suc-le-zero h)
same_suc (x ∷ xs) [] i h k = absurd (not-suc-le-zero k)
same_suc (x ∷ xs) (y ∷ ys) zero h k = elim (eqb x y) as (λ t. cond t true false ≡ t) [ true ↦ refl | false ↦ refl ]
same_suc (x ∷ xs) (y ∷ ys) (suc i) h k =
    ap (λ t. cond (eqb x y) t false) (same_suc xs ys i (le_of_suc-le-suc h) (le_of_suc-le-suc k))
    ∙ elim (eqb x y) as (λ t. cond t (cond (same (take i xs) (take i ys)) (eqb (get_or xs i 0) (get_or ys i 0)) false) false ≡ cond (cond t (same (take i xs) (take i ys)) false) (eqb (get_or xs i 0) (get_or ys i 0)) false) [ true ↦ refl | false ↦ refl ]

xor_none : (x y : ℕ) → bit_xor x y ≡ 0 → x ≡ y
xor_none x y h = sym (xor_zero_r x) ∙ ap (bit_xor x) (sym (xor_self y)) ∙ sym (xor_assoc x y y) ∙ ap (λ n. bit_xor n y) h

or_test : (d x y : ℕ) (t : Bool) → eqb d 0 ≡ t → eqb (bit_or d (bit_xor x y)) 0 ≡ cond t (eqb x y) false
or_test d x y true h =
    let z = eqb-true d 0 h in
    ap (λ n. eqb (bit_or n (bit_xor x y)) 0) z ∙ xor_test x y (eqb x y) refl
  where
    xor_test : (x y : ℕ) (u : Bool) → eqb x y ≡ u → eqb (bit_xor x y) 0 ≡ u
    xor_test x y true h = eq-eqb (bit_xor x y) 0 (ap (bit_xor x) (sym (eqb-true x y h)) ∙ xor_self x)
    xor_test x y false h = ne_eqb (bit_xor x y) 0 (λ e. eqb-false x y h (xor_none x y e))
or_test d x y false h =
    ne_eqb (bit_or d (bit_xor x y)) 0
    (λ e. eqb-false d 0 h (omega (arith, e, or_add_and d (bit_xor x y), and_le_r d (bit_xor x y))))

pub same_more : (xs ys : List ℕ) (i d : ℕ) → i < length xs → i < length ys → eqb d 0 ≡ same (take i xs) (take i ys)
    → eqb (bit_or d (bit_xor (get_or xs i 0) (get_or ys i 0))) 0 ≡ same (take (i + 1) xs) (take (i + 1) ys)
same_more xs ys i d h k e = rw add-one (or_test d (get_or xs i 0) (get_or ys i 0) _ e ∙ sym (same_suc xs ys i h k))

-- the key stream, a block at a time
pub xor_from_append : (s : ℕ → ℕ) (i j : ℕ) (xs ys : List ℕ) → i + length xs ≡ j → xor_from s i (xs ++ ys) ≡ xor_from s i xs ++ xor_from s j ys
xor_from_append s i j [] ys e = let z : i ≡ j = omega arith in ap (λ n. xor_from s n ys) z
xor_from_append s i j (x ∷ xs) ys e = ap (λ t. bit_xor x (s i) ∷ t) (xor_from_append s (i + 1) j xs ys (omega arith))

xors_from : (s : ℕ → ℕ) (i : ℕ) (xs ps : List ℕ) → length xs ≤ length ps → ((k : ℕ) → k < length xs → get_or ps k 0 ≡ s (i + k))
    → xors xs ps ≡ xor_from s i xs
xors_from s i [] ps h f = refl
xors_from s i (x ∷ xs) [] h f = absurd (not-suc-le-zero h)
xors_from s i (x ∷ xs) (p ∷ ps) h f =
    let e : p ≡ s i = f 0 (omega arith) ∙ ap s (omega arith) in
    ap₂ (λ n t. bit_xor x n ∷ t) e
    (xors_from s (i + 1) xs ps (le_of_suc-le-suc h) (λ k l. f (suc k) (omega arith) ∙ ap s (omega arith)))

take_min : (n : ℕ) (xs : List ℕ) → take (min n (length xs)) xs ≡ take n xs
take_min zero xs = let z : min 0 (length xs) ≡ 0 = omega arith in rw z
take_min (suc n) [] = let z : min (suc n) 0 ≡ 0 = omega arith in rw z
take_min (suc n) (x ∷ xs) = rw suc-min-suc (ap (λ t. x ∷ t) (take_min n xs))

drop_min : (n : ℕ) (xs : List ℕ) → drop (min n (length xs)) xs ≡ drop n xs
drop_min zero xs = let z : min 0 (length xs) ≡ 0 = omega arith in rw z
drop_min (suc n) [] = let z : min (suc n) 0 ≡ 0 = omega arith in rw z
drop_min (suc n) (x ∷ xs) = rw suc-min-suc (drop_min n xs)

pub stream_more : (f : ℕ → List ℕ) (first i m : ℕ) (orig now pad : List ℕ) → 16 * i < length orig → m ≡ min 16 (length orig - 16 * i)
    → length pad ≡ 16 → pad ≡ f (first + i)
    → now ≡ xor_from (stream f first) 0 (take (16 * i) orig) ++ drop (16 * i) orig
    → take (16 * i) now ++ (xors (take m (drop (16 * i) now)) pad ++ drop m (drop (16 * i) now)) ≡ xor_from (stream f first) 0 (take (16 * (i + 1)) orig) ++ drop (16 * (i + 1)) orig
stream_more f first i m orig now pad h em lp ep e =
    let s = stream f first in
    let n = 16 * i in
    let xs = take n orig in
    let ys = drop n orig in
    let lt : length xs ≡ n = length-take n orig ∙ omega arith in
    let ly = length-drop n orig in
    let lx : length (xor_from s 0 xs) ≡ n = length_xor_from s 0 xs ∙ lt in
    let em' : m ≡ min 16 (length ys) = omega arith in
    let l16 = length-take 16 ys in
    let a : take n now ≡ xor_from s 0 xs = ap (take n) e ∙ take_at (xor_from s 0 xs) ys n lx in
    let b : drop n now ≡ ys = ap (drop n) e ∙ drop_at (xor_from s 0 xs) ys n lx in
    let t : take m (drop n now) ≡ take 16 ys = ap₂ take em' b ∙ take_min 16 ys in
    let d : drop m (drop n now) ≡ drop 16 ys = ap₂ drop em' b ∙ drop_min 16 ys in
    let x : xors (take 16 ys) pad ≡ xor_from s n (take 16 ys) = xors_from s n (take 16 ys) pad (omega arith)
    (λ k l. ap (λ p. get_or p k 0) ep ∙ ap₂ (λ q r. get_or (f q) r 0) (omega arith) (omega arith)) in
    let more : 16 * (i + 1) ≡ n + 16 = omega arith in
    let left : take n now ++ (xors (take m (drop n now)) pad ++ drop m (drop n now)) ≡ xor_from s 0 xs ++ (xor_from s n (take 16 ys) ++ drop 16 ys) = rw (a, t, d, x) in
    let right : xor_from s 0 (take (16 * (i + 1)) orig) ++ drop (16 * (i + 1)) orig ≡ (xor_from s 0 xs ++ xor_from s n (take 16 ys)) ++ drop 16 ys =
    rw more (ap₂ ◌++◌ (ap (xor_from s 0) (take-add n 16 orig) ∙ xor_from_append s 0 n xs (take 16 ys) (omega arith)) (sym (drop-drop 16 n orig))) in
    left ∙ sym (append_assoc (xor_from s 0 xs) (xor_from s n (take 16 ys)) (drop 16 ys)) ∙ sym right

-- 16 bytes are a block
pub whole_block : (xs : List ℕ) → length xs ≤ 16 → 16 ≤ length xs → take 16 xs ≡ padded xs
whole_block xs h k =
    let z : 16 - length xs ≡ 0 = omega arith in
    take_all 16 xs h ∙ sym (append-nil xs) ∙ ap (λ n. xs ++ replicate n 0) (sym z)

-- a part more of data that is cut into blocks: part k, and what is left behind it
module _ (d rest part left : List ℕ) (k size : ℕ) (es : size ≡ 16) (er : rest ≡ drop (16 * k) d)
    (steps : (rest ≡ part ++ left) × (length part ≡ min size (length rest)) × (0 < length rest)) where
  long : length part ≡ min 16 (length rest)
  long = steps.1 ∙ ap (λ n. min n (length rest)) es

  pub part_block : padded part ≡ block_at d k
  part_block = ap padded (sym (take_at part left (length part) refl) ∙ ap₂ take long (sym steps.0) ∙ take_min 16 rest ∙ ap (take 16) er)

  pub part_left : left ≡ drop (16 * (k + 1)) d
  part_left =
      sym (drop_at part left (length part) refl) ∙ ap₂ drop long (sym steps.0) ∙ drop_min 16 rest ∙ ap (drop 16) er ∙ drop-drop 16 (16 * k) d
      ∙ ap (λ n. drop n d) (omega arith)

  pub part_within : 16 * (k + 1) < length d + 16
  part_within = omega (arith, ap length er, length-drop (16 * k) d, steps.2)

-- one block more of a chain
pub chain_more : {X : Type 0} (step : X → List ℕ → X) (x : X) (xs : List ℕ) (i : ℕ) → chain step x xs (i + 1) ≡ step (chain step x xs i) (block_at xs i)
chain_more step x xs i = rw add-one
