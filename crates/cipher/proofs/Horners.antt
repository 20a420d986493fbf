-- The product of GHASH from the last bit on, a byte at a time.
use Rattle.std.proofs.Common.{◌≡◌, ℕ, zero, suc, ◌+◌, ◌-◌, ◌*◌, ◌/◌, ◌%◌, ◌^◌, ◌<◌, Bool, true, false, cond, eqb, get_or, sym, refl, ap, ◌∙◌, ap₂, add-zero, add-suc, add-one, arith}
use lib.Bits.{bit_xor, xor_assoc, xor_comm, xor_zero_r, xor_zero_l, xor_shr, xor_mod, xor_shifted}
use Rattle.std.proofs.lemmas.Nat.{shr-shr, pow-add}
use Rattle.std.proofs.Math.Nat.{pow-suc}
use Rattle.std.proofs.lemmas.List.FromFn.{get_or-map-range_with_len}
use Rattle.std.specs.Int.{w128, byte_at, to_le_bytes}
use Rattle.cipher.specs.Ghash.{times_x, v_after, z_after, times}
use Rattle.cipher.specs.Horner.{added, horner, times_x4, times_x8}

abbrev R : ℕ
R = 0xe1000000000000000000000000000000

-- two bits, and R for each
bit_times : (a b : ℕ) → a < 2 → b < 2 → bit_xor a b * R ≡ bit_xor (a * R) (b * R)
bit_times zero b p q = rw (xor_zero_l) (sym (ap (λ n. bit_xor n (b * R)) (let z : 0 * R ≡ 0 = refl in z) ∙ xor_zero_l (b * R)))
bit_times (suc zero) zero p q = refl
bit_times (suc zero) (suc zero) p q = refl
bit_times (suc zero) (suc (suc b)) p q = absurd (omega arith)
bit_times (suc (suc a)) b p q = absurd (omega arith)

swap_middle : (a b c d : ℕ) → bit_xor (bit_xor a b) (bit_xor c d) ≡ bit_xor (bit_xor a c) (bit_xor b d)
swap_middle a b c d =
    xor_assoc a b (bit_xor c d) ∙ ap (bit_xor a) (sym (xor_assoc b c d) ∙ ap (λ n. bit_xor n d) (xor_comm b c) ∙ xor_assoc c b d) ∙ sym (xor_assoc a c (bit_xor b d))

pub halved_xor : (a b : ℕ) → times_x (bit_xor a b) ≡ bit_xor (times_x a) (times_x b)
halved_xor a b =
    let p : bit_xor a b / 2 ≡ bit_xor (a / 2) (b / 2) = xor_shr a b 1 in
    let q : bit_xor a b % 2 * R ≡ bit_xor (a % 2 * R) (b % 2 * R) = ap (λ n. n * R) (xor_mod a b 1) ∙ bit_times (a % 2) (b % 2) (omega arith) (omega arith) in
    ap₂ bit_xor p q ∙ swap_middle (a / 2) (b / 2) (a % 2 * R) (b % 2 * R)

pub v_after_xor : (a b i : ℕ) → v_after (bit_xor a b) i ≡ bit_xor (v_after a i) (v_after b i)
unfolding v_after
v_after_xor a b zero = refl
v_after_xor a b (suc i) = ap times_x (v_after_xor a b i) ∙ halved_xor (v_after a i) (v_after b i)

v_after_zero : (i : ℕ) → v_after 0 i ≡ 0
unfolding v_after
v_after_zero zero = refl
v_after_zero (suc i) = ap times_x (v_after_zero i)

v_after_halved : (a i : ℕ) → v_after (times_x a) i ≡ v_after a (suc i)
unfolding v_after
v_after_halved a zero = refl
v_after_halved a (suc i) = ap times_x (v_after_halved a i)

added_is : (t : Bool) (z v : ℕ) → added t z v ≡ bit_xor z (added t 0 v)
added_is true z v = ap (bit_xor z) (sym (xor_zero_l v))
added_is false z v = sym (xor_zero_r z)

v_after_added : (t : Bool) (z v i : ℕ) → v_after (added t z v) i ≡ added t (v_after z i) (v_after v i)
v_after_added true z v i = v_after_xor z v i
v_after_added false z v i = refl

added_added : (t : Bool) (z a v : ℕ) → bit_xor z (added t a v) ≡ bit_xor (cond t (bit_xor z v) z) a
added_added true z a v = ap (bit_xor z) (xor_comm a v) ∙ sym (xor_assoc z v a)
added_added false z a v = refl

-- what the first i steps left, and what the bits below add to it
both_ends : (x y i n : ℕ) → i + n ≡ 128 → bit_xor (z_after x y i) (v_after (horner x y n) i) ≡ horner x y 128
unfolding v_after z_after horner
both_ends x y zero n e = let z : n ≡ 128 = omega arith in xor_zero_l (horner x y n) ∙ ap (horner x y) z
both_ends x y (suc i) n e =
    let m : 127 - i ≡ n = omega arith in
    let b = eqb (x / 2 ^ n % 2) 1 in
    let s : v_after (horner x y (suc n)) i ≡ added b (v_after (horner x y n) (suc i)) (v_after y i) =
    v_after_added b (times_x (horner x y n)) y i ∙ ap (λ w. added b w (v_after y i)) (v_after_halved (horner x y n) i) in
    let z : z_after x y (suc i) ≡ cond b (bit_xor (z_after x y i) (v_after y i)) (z_after x y i) =
    ap (λ k. cond (eqb (x / 2 ^ k % 2) 1) (bit_xor (z_after x y i) (v_after y i)) (z_after x y i)) m in
    ap (λ w. bit_xor w (v_after (horner x y n) (suc i))) z
    ∙ sym (added_added b (z_after x y i) (v_after (horner x y n) (suc i)) (v_after y i))
    ∙ ap (bit_xor (z_after x y i)) (sym s) ∙ both_ends x y i (suc n) (omega arith)

pub times_is : (x y : ℕ) → times x y ≡ horner x y 128
unfolding times horner
times_is x y = sym (ap (bit_xor (z_after x y 128)) (v_after_zero 128) ∙ xor_zero_r (z_after x y 128)) ∙ both_ends x y 128 0 refl

carry : (t : Bool) (a b y : ℕ) → added t (bit_xor a b) y ≡ bit_xor a (added t b y)
carry true a b y = xor_assoc a b y
carry false a b y = refl

-- m more bits
horner_more : (x y n m : ℕ) → horner x y (n + m) ≡ bit_xor (v_after (horner x y n) m) (horner (x / 2 ^ n) y m)
unfolding horner v_after
horner_more x y n zero = ap (horner x y) (add-zero n) ∙ sym (xor_zero_r (horner x y n))
horner_more x y n (suc m) =
    let q = x / 2 ^ n in
    let b = eqb (q / 2 ^ m % 2) 1 in
    let e : horner x y (n + suc m) ≡ added (eqb (x / 2 ^ (n + m) % 2) 1) (times_x (horner x y (n + m))) y = ap (horner x y) (add-suc n m) in
    let t : eqb (x / 2 ^ (n + m) % 2) 1 ≡ b = ap (λ k. eqb (k % 2) 1) (sym (shr-shr x n m)) in
    let h : times_x (horner x y (n + m)) ≡ bit_xor (v_after (horner x y n) (suc m)) (times_x (horner q y m)) =
    ap times_x (horner_more x y n m) ∙ halved_xor (v_after (horner x y n) m) (horner q y m) in
    e ∙ ap₂ (λ u w. added u w y) t h ∙ carry b (v_after (horner x y n) (suc m)) (times_x (horner q y m)) y

-- only the last four bits count
low_bits : (x y : ℕ) → horner x y 4 ≡ horner (x % 16) y 4
unfolding horner
low_bits x y =
    let a : x / 1 % 2 ≡ x % 16 / 1 % 2 = omega arith in
    let b : x / 2 % 2 ≡ x % 16 / 2 % 2 = omega arith in
    let c : x / 4 % 2 ≡ x % 16 / 4 % 2 = omega arith in
    let d : x / 8 % 2 ≡ x % 16 / 8 % 2 = omega arith in
    rw (a, b, c, d)

halved_even : (a : ℕ) → times_x (a * 2) ≡ a
halved_even a =
    let p : a * 2 / 2 ≡ a = omega arith in
    let q : a * 2 % 2 ≡ 0 = omega arith in
    ap₂ (λ m n. bit_xor m (n * R)) p q ∙ xor_zero_r a

v_after_16 : (a : ℕ) → v_after (a * 16) 4 ≡ a
unfolding v_after
v_after_16 a =
    let p : a * 16 ≡ a * 2 * 2 * 2 * 2 = omega arith in
    rw (p, halved_even, halved_even, halved_even, halved_even)

fourth_is : (v : ℕ) → v_after v 4 ≡ times_x4 v
fourth_is v =
    let s : v ≡ bit_xor (v / 16 * 2 ^ 4) (v % 16) = (let e : v ≡ v / 16 * 16 + v % 16 = omega arith in e) ∙ sym (xor_shifted (v / 16) 4 (v % 16) (omega arith)) in
    ap (λ n. v_after n 4) s ∙ v_after_xor (v / 16 * 16) (v % 16) 4 ∙ ap (λ n. bit_xor n (v_after (v % 16) 4)) (v_after_16 (v / 16))

-- of the eight shifts of a * 16 the first four drop nothing
pub four_of_eight : (a : ℕ) → v_after (a * 16) 8 ≡ v_after a 4
unfolding v_after
four_of_eight a = ap (λ n. v_after n 4) (v_after_16 a)

v_after_256 : (a : ℕ) → v_after (a * 256) 8 ≡ a
v_after_256 a = (let p : a * 256 ≡ a * 16 * 16 = omega arith in ap (λ n. v_after n 8) p) ∙ four_of_eight (a * 16) ∙ v_after_16 a

eighth_is : (v : ℕ) → v_after v 8 ≡ times_x8 v
eighth_is v =
    let s : v ≡ bit_xor (v / 256 * 2 ^ 8) (v % 256) = (let e : v ≡ v / 256 * 256 + v % 256 = omega arith in e) ∙ sym (xor_shifted (v / 256) 8 (v % 256) (omega arith)) in
    ap (λ n. v_after n 8) s ∙ v_after_xor (v / 256 * 256) (v % 256) 8 ∙ ap (λ n. bit_xor n (v_after (v % 256) 8)) (v_after_256 (v / 256))

-- the product with the last eight bits, from the products with either half of them
byte_product : (q y b : ℕ) → q % 256 ≡ b → horner q y 8 ≡ bit_xor (times_x4 (horner (b % 16) y 4)) (horner (b / 16) y 4)
byte_product q y b e =
    let l : q % 16 ≡ b % 16 = omega arith in
    let h : q / 2 ^ 4 % 16 ≡ b / 16 = omega arith in
    horner_more q y 4 4
    ∙ ap₂ bit_xor (fourth_is (horner q y 4) ∙ ap times_x4 (low_bits q y ∙ ap (λ t. horner t y 4) l)) (low_bits (q / 2 ^ 4) y ∙ ap (λ t. horner t y 4) h)

-- one step of the loop over the bytes
pub horner_byte : (x y n b m : ℕ) → n + 8 ≡ m → x / 2 ^ n % 256 ≡ b → horner x y m ≡ bit_xor (times_x8 (horner x y n)) (bit_xor (times_x4 (horner (b % 16) y 4)) (horner (b / 16) y 4))
horner_byte x y n b m e f = ap (horner x y) (sym e) ∙ horner_more x y n 8 ∙ ap₂ bit_xor (eighth_is (horner x y n)) (byte_product (x / 2 ^ n) y b f)

-- the bytes, the lowest first
pow_256 : (i : ℕ) → 256 ^ i ≡ 2 ^ (8 * i)
pow_256 zero = refl
pow_256 (suc i) =
    let e : 8 * suc i ≡ 8 * i + 8 = omega arith in
    pow-suc 256 i ∙ ap (λ k. k * 256) (pow_256 i) ∙ sym (ap (λ k. 2 ^ k) e ∙ pow-add 2 (8 * i) 8)

byte_at_is : (i x : ℕ) → byte_at i x ≡ x / 2 ^ (8 * i) % 256
byte_at_is zero x = omega arith
byte_at_is (suc i) x = ap (λ k. x / k % 256) (pow_256 (suc i))

pub byte_of : (x i : ℕ) → i < 16 → get_or (to_le_bytes w128 x) i 0 ≡ x / 2 ^ (8 * i) % 256
byte_of x i h = get_or-map-range_with_len (λ j. byte_at j x) 0 16 i i 0 h (omega arith) ∙ byte_at_is i x

pub horner_none : (x y : ℕ) → horner x y 0 ≡ 0
unfolding horner
horner_none x y = refl

pub horner_next : (x y i : ℕ) → horner x y (i + 1) ≡ added (eqb (x / 2 ^ i % 2) 1) (times_x (horner x y i)) y
unfolding horner
horner_next x y i = rw add-one
