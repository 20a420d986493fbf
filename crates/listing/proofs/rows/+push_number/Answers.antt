-- Spaces or the digits before the last, and then the last digit.
use Rattle.std.proofs.Common.{◌≡◌, ◌+◌, ◌-◌, arith}
use Rattle.listing.proofs.Appending.{appended_at, appended_byte, appended_more}
use Rattle.listing.proofs.Columns.{justified_digit, justified_step}
use Rattle.listing.proofs.rows.+push_number.Goals as goal
use Rattle.listing.proofs.rows.+push_number.Goals.{then-number-lt10, else-number-lt10}

pub returns : goal.returns
returns t c =
    let n = c.args.number in
    let k = c.args.width in
    let e : (k - 1) + 1 ≡ k = omega arith in
    let pushed = c.push_reserved.ensures in
    let digit = appended_byte pushed.items pushed.len pushed.capacity in
    elim c.if-number-lt10.branch [
      | then-number-lt10 w ↦ appended_more (appended_at w.push_spaces.ensures w.out-is) digit e (justified_digit k n w.if-number-lt10.true)
      | else-number-lt10 w ↦ appended_more (appended_at w.push_number.ensures w.out-is) digit e (justified_step k n w.if-number-lt10.false (omega arith))
    ]
