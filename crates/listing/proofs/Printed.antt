-- A row, a piece after another.
use Rattle.std.proofs.Common.{◌≡◌, ℕ, ◌+◌, ◌*◌, ◌%◌, ◌≤◌, List, [], ◌∷◌, ◌++◌, length, arith}
use Rattle.std.proofs.lemmas.List.{append_assoc, length-append}
use Rattle.rules.specs.Board.{Answer}
use Rattle.listing.specs.declared.rows.Detail.{Detail}
use Rattle.listing.specs.Rows.{detail_columns, detail_width, in_four_columns, refusal_number, right_justified, row, said_number}
use Rattle.listing.proofs.Columns.{detail_wide, fours_wide, justified_wide}

-- the number, the refusal's number, what is shown behind it, what is said, what is sent, and the end
pub row_printed : (d : Detail) (number n : ℕ) (a : Answer) (was x0 x1 x2 x3 x4 x5 x6 : List ℕ)
    → x0 ≡ was
    → x1 ≡ x0 ++ right_justified 6 (number % 1000000)
    → n ≡ refusal_number a.refusal
    → x2 ≡ x1 ++ right_justified 4 n
    → x3 ≡ x2 ++ detail_columns d a.refusal
    → x4 ≡ x3 ++ in_four_columns (said_number a.said)
    → x5 ≡ x4 ++ in_four_columns a.sent
    → x6 ≡ x5 ++ 0x0A ∷ []
    → x6 ≡ was ++ row d number a
unfolding row
row_printed d number n a was x0 x1 x2 x3 x4 x5 x6 e0 e1 en e2 e3 e4 e5 e6 = simp (e6, e5, e4, e3, e2, e1, e0, en, append_assoc)

-- the least length of a row
pub row_long : (d : Detail) (number : ℕ) (a : Answer) → 11 + detail_width d + 4 * (length (said_number a.said) + length a.sent) ≤ length (row d number a)
unfolding row
row_long d number a =
    let first = right_justified 6 (number % 1000000) in
    let second = right_justified 4 (refusal_number a.refusal) in
    let shown = detail_columns d a.refusal in
    let third = in_four_columns (said_number a.said) in
    let fourth = in_four_columns a.sent in
    let end : List ℕ = 0x0A ∷ [] in
    omega (
      arith,
      length-append first (second ++ (shown ++ (third ++ (fourth ++ end)))),
      length-append second (shown ++ (third ++ (fourth ++ end))),
      length-append shown (third ++ (fourth ++ end)),
      length-append third (fourth ++ end),
      length-append fourth end,
      justified_wide 6 (number % 1000000),
      justified_wide 4 (refusal_number a.refusal),
      detail_wide d a.refusal,
      fours_wide (said_number a.said),
      fours_wide a.sent,
    )
