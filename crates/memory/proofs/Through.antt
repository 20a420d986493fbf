-- Each step through the scrambler.
use Rattle.std.proofs.Common.{◌≡◌, ℕ, zero, suc, ◌+◌, ◌<◌, Bool, true, false, cond, ◌&&◌, List, [], ◌∷◌, length, get_or, set, Some, None, Ok, Err, Option, Result, sym, refl, ap, ◌∙◌, add-zero, arith}
use lib.Bits.{bit_xor, xor_assoc, xor_self, xor_zero_r}
use Rattle.fault.specs.Checks.{check, then}
use Rattle.fault.specs.declared.Fault.{Fault}
use Rattle.fault.specs.declared.Fault.TheVariants.{Dark, OutsideMap}
use Rattle.memory.specs.Areas.{address_at, map_size, place}
use Rattle.memory.specs.Meaning.{Contents, Makes, Meaning, Step, after, answer, apply, put, put_at, read_at, read_of, step_in_map}
use Rattle.memory.specs.Scrambled.{clear, clear_contents, clear_from, clear_meaning, mask}
use Rattle.memory.specs.Supply.{lit, spent}
use Rattle.memory.proofs.Places.{address_back, place_within}

-- a byte that is masked twice is clear
twice : (v k : ℕ) → bit_xor (bit_xor v k) k ≡ v
twice v k = xor_assoc v k k ∙ ap (bit_xor v) (xor_self k) ∙ xor_zero_r v

clear_set : (f q : ℕ) (xs : List ℕ) (p v : ℕ) → clear_from f q (set xs p (bit_xor v (mask f (address_at (q + p))))) ≡ set (clear_from f q xs) p v
clear_set f q [] p v = refl
clear_set f q (x ∷ xs) zero v =
    ap (λ n. bit_xor (bit_xor v (mask f (address_at n))) (mask f (address_at q)) ∷ clear_from f (q + 1) xs) (add-zero q)
    ∙ ap (λ b. b ∷ clear_from f (q + 1) xs) (twice v (mask f (address_at q)))
clear_set f q (x ∷ xs) (suc p) v =
    let z : q + suc p ≡ (q + 1) + p = omega arith in
    ap (λ n. bit_xor x (mask f (address_at q)) ∷ clear_from f (q + 1) (set xs p (bit_xor v (mask f (address_at n))))) z
    ∙ ap (λ ys. bit_xor x (mask f (address_at q)) ∷ ys) (clear_set f (q + 1) xs p v)

clear_get : (f q : ℕ) (xs : List ℕ) (p : ℕ) → p < length xs → get_or (clear_from f q xs) p 0 ≡ bit_xor (get_or xs p 0) (mask f (address_at (q + p)))
clear_get f q [] p h = absurd (omega arith)
clear_get f q (x ∷ xs) zero h = ap (λ n. bit_xor x (mask f (address_at n))) (sym (add-zero q))
clear_get f q (x ∷ xs) (suc p) h =
    let z : (q + 1) + p ≡ q + suc p = omega arith in
    clear_get f (q + 1) xs p (omega arith) ∙ ap (λ n. bit_xor (get_or xs p 0) (mask f (address_at n))) z

-- a masked byte that is put below is the byte in the clear image
put_place : (f a v : ℕ) (xs : List ℕ) (o : Option ℕ) → place a ≡ o → clear f (put_at o (bit_xor v (mask f a)) xs) ≡ put_at o v (clear f xs)
unfolding clear
put_place f a v xs None e = refl
put_place f a v xs (Some p) e =
    let z : a ≡ address_at (0 + p) = sym (address_back a p e) ∙ ap address_at (omega arith) in
    ap (λ n. clear_from f 0 (set xs p (bit_xor v (mask f n)))) z ∙ clear_set f 0 xs p v

pub put_clear : (f a v : ℕ) (xs : List ℕ) → clear f (put a (bit_xor v (mask f a)) xs) ≡ put a v (clear f xs)
put_clear f a v xs = put_place f a v xs (place a) refl

-- a step below that clears to a step above answers and leaves what that one does
cond_clear : (f : ℕ) (b : Bool) (x y : Meaning) → clear_meaning f (cond b x y) ≡ cond b (clear_meaning f x) (clear_meaning f y)
cond_clear f true x y = refl
cond_clear f false x y = refl

module _ (f : ℕ) (m : Meaning) (s below : Step) (e : step_in_map below ≡ step_in_map s)
    (k : clear_contents f (apply below m.contents) ≡ apply s (clear_contents f m.contents)) where
  after_clear : clear_meaning f (after below m) ≡ after s (clear_meaning f m)
  unfolding after
  after_clear =
      let M : Contents → Meaning = λ c. record { contents = c; supply = spent m.supply } in
      cond_clear f (step_in_map below && lit m.supply) (M (apply below m.contents)) m
      ∙ ap (λ c. cond (step_in_map below && lit m.supply) (M c) (clear_meaning f m)) k
      ∙ ap (λ b. cond (b && lit m.supply) (M (apply s (clear_contents f m.contents))) (clear_meaning f m)) e

  answer_clear : answer below m ≡ answer s (clear_meaning f m)
  unfolding answer
  answer_clear = ap (λ b. then (check b OutsideMap) (check (lit m.supply) Dark)) e

  pub through : (n : Meaning) (r : Result (Unit {0}) Fault) → Makes below m n r → Makes s (clear_meaning f m) (clear_meaning f n) r
  through n r d = record { after = ap (clear_meaning f) d.after ∙ after_clear; value = d.value ∙ answer_clear }

-- what is read through the scrambler
abbrev pub under : (ℕ → ℕ) → Result ℕ Fault → Result ℕ Fault
under g (Ok x) = Ok (g x)
under g (Err e) = Err e

module _ (f a : ℕ) (c : Contents) (l : length c.image ≡ map_size) where
  read_place : (o : Option ℕ) → place a ≡ o → under (λ b. bit_xor b (mask f a)) (read_at o c.image) ≡ read_at o (clear f c.image)
  unfolding clear
  read_place None e = refl
  read_place (Some p) e =
      let z : a ≡ address_at (0 + p) = sym (address_back a p e) ∙ ap address_at (omega arith) in
      let w : p < length c.image = omega (arith, place_within a p e) in
      ap Ok (ap (λ n. bit_xor (get_or c.image p 0) (mask f n)) z ∙ sym (clear_get f 0 c.image p w))

  pub read_clear : under (λ b. bit_xor b (mask f a)) (read_of c a) ≡ read_of (clear_contents f c) a
  unfolding read_of
  read_clear = read_place (place a) refl
