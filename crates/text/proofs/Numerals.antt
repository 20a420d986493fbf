-- Numbers of digits that grow past a limit.
use Rattle.std.proofs.Common.{◌≡◌, ℕ, zero, suc, ◌+◌, ◌*◌, ◌<◌, ◌≤◌, ◌-◌, ◌^◌, min, true, nat_eq, nat_lt, List, [], ◌∷◌, length, get_or, take, drop, Some, None, Ok, Err, Option, Result, sym, refl, ap, ◌∙◌, arith}
use Rattle.std.proofs.lemmas.List.{at_drop_more}
use Rattle.std.proofs.lemmas.Bool.Decides.{Decides-eqb, nat_tests}
use Rattle.std.proofs.lemmas.Slice.Eq.{slice_eq-Decides}
use Rattle.std.specs.Option.{option_map}
use Rattle.text.specs.Decimal.{at_most, decimal_read, decimal_value}
use Rattle.std.specs.Cmp.Lexicographic.{pointwise}
use Rattle.std.specs.Result.{OkIff, result_ok, result_unwrap_or}
use Rattle.std.specs.declared.num.TryFromIntError.{TryFromIntError}
use Rattle.text.specs.Hex.{hex_number_read, hex_value}
use Rattle.text.specs.Numbers.{and_then, digit_in, number_after, number_of}

same_cut : (m : ℕ) (o : Option ℕ) (f g : ℕ → Option ℕ) → ((d : ℕ) → option_map (min m) (f d) ≡ option_map (min m) (g d))
    → option_map (min m) (and_then o f) ≡ option_map (min m) (and_then o g)
same_cut m None f g h = refl
same_cut m (Some d) f g h = h d

same_step : (m n k base d : ℕ) → 0 < base → min m n ≡ min m k → min m (n * base + d) ≡ min m (k * base + d)
same_step m n k zero d h e = absurd (omega arith)
same_step m n k (suc base) d h e = grind arith

-- numbers that are one once they are cut stay so under more digits
pub cut_after : (digit : ℕ → Option ℕ) (base m n k : ℕ) (bs : List ℕ) → 0 < base → min m n ≡ min m k
    → option_map (min m) (number_after digit base n bs) ≡ option_map (min m) (number_after digit base k bs)
cut_after digit base m n k [] h e = ap (λ x. Some x) e
cut_after digit base m n k (b ∷ bs) h e = same_cut m (digit b) _ _ (λ d. cut_after digit base m (n * base + d) (k * base + d) bs h (same_step m n k base d h e))

-- what a byte more makes of the number so far
abbrev digit_then : (ℕ → Option ℕ) → ℕ → ℕ → List ℕ → Option ℕ → Option ℕ
digit_then digit base n bs o = and_then o (λ d. number_after digit base (n * base + d) bs)

-- a digit more at place i
pub after_more : (digit : ℕ → Option ℕ) (base n : ℕ) (bs : List ℕ) (i d : ℕ) → i < length bs → Some d ≡ digit (get_or bs i 0)
    → number_after digit base (n * base + d) (drop (i + 1) bs) ≡ number_after digit base n (drop i bs)
after_more digit base n bs i d h e = ap (digit_then digit base n (drop (i + 1) bs)) e ∙ sym (at_drop_more (number_after digit base n) bs i 0 h)

same_then : (o : Option ℕ) (f g : ℕ → Option ℕ) → ((d : ℕ) → f d ≡ g d) → and_then o f ≡ and_then o g
same_then None f g h = refl
same_then (Some d) f g h = h d

-- digits of one value make one number
after_same : (f g : ℕ → Option ℕ) (base n : ℕ) (bs : List ℕ) → ((b : ℕ) → f b ≡ g b) → number_after f base n bs ≡ number_after g base n bs
after_same f g base n [] h = refl
after_same f g base n (b ∷ bs) h =
    ap (λ o. and_then o (λ d. number_after f base (n * base + d) bs)) (h b) ∙ same_then (g b) _ _ (λ d. after_same f g base (n * base + d) bs h)

pub of_same : (f g : ℕ → Option ℕ) (base : ℕ) (bs : List ℕ) → ((b : ℕ) → f b ≡ g b) → number_of f base bs ≡ number_of g base bs
of_same f g base [] h = refl
of_same f g base (b ∷ bs) h = after_same f g base 0 (b ∷ bs) h

pub digit_10 : (b : ℕ) → digit_in 10 b ≡ decimal_value b
digit_10 b = grind (arith, nat_tests)

pub digit_16 : (b : ℕ) → digit_in 16 b ≡ hex_value b
digit_16 b = grind (arith, nat_tests)

-- a number above the limit is above it also once it is cut
limit_cut : (m limit : ℕ) (o : Option ℕ) → limit < m → and_then (option_map (min m) o) (at_most limit) ≡ and_then o (at_most limit)
limit_cut m limit None h = refl
limit_cut m limit (Some n) h = grind (arith, nat_tests)

-- no cut number is above where it is cut
pub limit_all : (m : ℕ) (o : Option ℕ) → and_then (option_map (min m) o) (at_most m) ≡ option_map (min m) o
limit_all m None = refl
limit_all m (Some n) = grind (arith, nat_tests)

past_then : (m limit : ℕ) (o : Option ℕ) (f : ℕ → Option ℕ) → ((d : ℕ) → and_then (option_map (min m) (f d)) (at_most limit) ≡ None)
    → and_then (option_map (min m) (and_then o f)) (at_most limit) ≡ None
past_then m limit None f h = refl
past_then m limit (Some d) f h = h d

past_step : (limit n base d : ℕ) → 0 < base → limit < n → limit < n * base + d
past_step limit n zero d h e = absurd (omega arith)
past_step limit n (suc base) d h e = grind arith

-- a number above the limit stays above it under more digits
pub past_limit : (digit : ℕ → Option ℕ) (base m limit n : ℕ) (bs : List ℕ) → 0 < base → limit < m → limit < n
    → and_then (option_map (min m) (number_after digit base n bs)) (at_most limit) ≡ None
past_limit digit base m limit n [] h k e = grind (arith, nat_tests)
past_limit digit base m limit n (b ∷ bs) h k e =
    past_then m limit (digit b) _ (λ d. past_limit digit base m limit (n * base + d) bs h k (past_step limit n base d h e))

-- a number that is not above the limit
pub within : (m limit n : ℕ) → n ≤ m → n ≤ limit → and_then (Some (min m n)) (at_most limit) ≡ Some n
within m limit n h k = grind (arith, nat_tests)

-- what is read against a limit below the cut
pub decimal_is : (m limit : ℕ) (bs : List ℕ) → limit < m
    → and_then (option_map (min m) (number_of (digit_in 10) 10 bs)) (at_most limit) ≡ decimal_read limit bs
decimal_is m limit bs h =
    limit_cut m limit (number_of (digit_in 10) 10 bs) h ∙ ap (λ o. and_then o (at_most limit)) (of_same (digit_in 10) decimal_value 10 bs digit_10)

-- the number behind "0x"
behind_0x : (bs ds : List ℕ) → take 2 bs ≡ 48 ∷ 120 ∷ [] → ds ≡ drop 2 bs → hex_number_read bs ≡ option_map (min 0xFFFFFFFF) (number_of (digit_in 16) 16 ds)
behind_0x [] ds h e = cc
behind_0x (x ∷ []) ds h e = cc
behind_0x (x ∷ y ∷ bs) ds h e =
    let a : x ≡ 48 = cc in
    let b : y ≡ 120 = cc in
    let l : nat_lt 1 (suc (suc (length bs))) ≡ true = grind (arith, nat_tests) in
    rw (e, a, b, l) (ap (option_map (min 0xFFFFFFFF)) (sym (of_same (digit_in 16) hex_value 16 bs digit_16)))

-- and cut to 32
cut_twice : (o : Option ℕ) → option_map (min 0xFFFFFFFF) (option_map (min (2 ^ 64 - 1)) o) ≡ option_map (min 0xFFFFFFFF) o
cut_twice None = refl
cut_twice (Some n) = ap (λ k. Some k) (omega arith)

pub hex_number_is : (bs ds : List ℕ) → pointwise nat_eq (take 2 bs) (48 ∷ 120 ∷ []) ≡ true → ds ≡ drop 2 bs
    → (o : Option ℕ) → o ≡ option_map (min (2 ^ 64 - 1)) (number_of (digit_in 16) 16 ds) → hex_number_read bs ≡ option_map (min 0xFFFFFFFF) o
hex_number_is bs ds h e o r =
    behind_0x bs ds ((slice_eq-Decides Decides-eqb _ _ _ refl).0 h) e ∙ sym (cut_twice (number_of (digit_in 16) 16 ds)) ∙ ap (option_map (min 0xFFFFFFFF)) (sym r)

pub or_most : (r : Result ℕ TryFromIntError) (v : ℕ) → OkIff r (v < 2 ^ 32) v → result_unwrap_or r 0xFFFFFFFF ≡ min 0xFFFFFFFF v
or_most (Ok n) v h = omega arith
or_most (Err e) v h = grind arith

-- a number within a limit of 32 bits fits in them
at_most_within : (limit v : ℕ) (o : Option ℕ) → Some v ≡ and_then o (at_most limit) → v ≤ limit
at_most_within limit v None e = cc
at_most_within limit v (Some n) e = grind (arith, nat_tests)

pub fits_32 : (limit v : ℕ) (o : Option ℕ) (r : Result ℕ TryFromIntError) → limit < 2 ^ 32 → Some v ≡ and_then o (at_most limit) → OkIff r (v < 2 ^ 32) v
    → result_ok r ≡ Some v
fits_32 limit v o (Ok n) h e f = ap (λ k. Some k) (omega arith)
fits_32 limit v o (Err f) h e g = let w = at_most_within limit v o e in grind arith
