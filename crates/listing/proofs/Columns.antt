-- Numbers in columns, a digit at a time.
use Rattle.std.proofs.Common.{◌≡◌, ℕ, ◌+◌, ◌-◌, ◌*◌, ◌/◌, ◌%◌, ◌^◌, ◌<◌, ◌≤◌, List, [], ◌∷◌, ◌++◌, Option, length, replicate, decimal, sym, ap, ◌∙◌, ap₂, arith}
use Rattle.std.proofs.lemmas.Fmt.{decimal_digit, decimal_step}
use Rattle.std.proofs.lemmas.List.{append_assoc, length-append, length_push, length-replicate}
use Rattle.fault.specs.declared.Fault.{Fault}
use Rattle.listing.specs.declared.rows.Detail.{Detail}
use Rattle.listing.specs.declared.rows.Detail.TheVariants.{Number, Place}
use Rattle.listing.specs.Rows.{detail_columns, detail_width, in_four_columns, left_justified, refusal_layer, refusal_place, right_justified}

-- one digit, behind spaces
pub justified_digit : (w n : ℕ) → n < 10 → replicate (w - 1) 32 ++ (48 + n % 10) ∷ [] ≡ right_justified w n
justified_digit w n h =
    let e : n % 10 ≡ n = omega arith in
    ap (λ d. replicate (w - 1) 32 ++ (48 + d) ∷ []) e ∙ sym (ap (λ ds. replicate (w - length ds) 32 ++ ds) (decimal_digit n h))

-- the digits of its tenth, and then its last
pub justified_step : (w n : ℕ) → 10 ≤ n → n < 2 ^ 64 → right_justified (w - 1) (n / 10) ++ (48 + n % 10) ∷ [] ≡ right_justified w n
justified_step w n h small =
    let ds = decimal (n / 10) in
    let step = decimal_step n h small in
    let e : w - 1 - length ds ≡ w - length (decimal n) = omega (arith, ap length step, length_push ds (48 + n % 10)) in
    append_assoc (replicate (w - 1 - length ds) 32) ds ((48 + n % 10) ∷ [])
    ∙ ap₂ (λ k xs. replicate k 32 ++ xs) e (sym step)

-- a number takes its columns at least
pub justified_wide : (w n : ℕ) → w ≤ length (right_justified w n)
justified_wide w n =
    let k = w - length (decimal n) in
    omega (arith, length-append (replicate k 32) (decimal n), length-replicate {A = ℕ} k 32)

pub fours_wide : (ns : List ℕ) → 4 * length ns ≤ length (in_four_columns ns)
fours_wide [] = omega arith
fours_wide (n ∷ ns) = omega (arith, length-append (right_justified 4 n) (in_four_columns ns), justified_wide 4 n, fours_wide ns)

name_wide : (w : ℕ) (name : List ℕ) → w ≤ length (left_justified w name)
name_wide w name =
    let k = w - length name in
    omega (arith, length-append name (replicate k 32), length-replicate {A = ℕ} k 32)

pub detail_wide : (d : Detail) (f : Option Fault) → detail_width d ≤ length (detail_columns d f)
detail_wide Number f = omega arith
detail_wide Place f =
    let layer = left_justified 7 (refusal_layer f) in
    let place = right_justified 11 (refusal_place f) in
    omega (arith, length-append layer place, name_wide 7 (refusal_layer f), justified_wide 11 (refusal_place f))
