-- A digit more, where the number so far may be cut.
use Rattle.std.proofs.Common.{◌≡◌, ◌+◌, ◌-◌, ◌*◌, ◌^◌, ◌<◌, min, length, drop, sym, ap, ◌∙◌, arith}
use Rattle.std.specs.Option.{option_map}
use Rattle.text.specs.Decimal.{at_most}
use Rattle.text.specs.Numbers.{and_then, digit_in}
use Rattle.text.proofs.Numerals.{after_more, cut_after, past_limit}
use Rattle.text.proofs.number.number.Goals as goal

pub loop-b-preserved : goal.loop-b-preserved
loop-b-preserved c =
    let bs = c.args.text.now in
    let i = c.loop-b.b-index in
    let n = c.loop-b.value in
    let radix = c.args.radix in
    let d = c.in_ok-digit.digit in
    let r = c.saturating_add-value.result in
    let h : i < length bs = omega arith in
    let product : n * c.from.result ≡ n * radix = ap (λ k. n * k) c.from.ensures in
    let e : min (2 ^ 64 - 1) r ≡ min (2 ^ 64 - 1) (n * radix + d) = omega arith in
    let cut = cut_after (digit_in radix) radix (2 ^ 64 - 1) r (n * radix + d) (drop (i + 1) bs) (omega arith) e in
    let more = after_more (digit_in radix) radix n bs i d h c.in_ok-digit.ensures in
    (omega arith, omega arith, cut ∙ ap (option_map (min (2 ^ 64 - 1))) more ∙ c.loop-b.invariant.2)

pub returns-then-value-most : goal.returns-then-value-most
returns-then-value-most c =
    let bs = c.args.text.now in
    let i = c.loop-b.b-index in
    let n = c.loop-b.value in
    let radix = c.args.radix in
    let d = c.in_ok-digit.digit in
    let r = c.saturating_add-value.result in
    let m = 2 ^ 64 - 1 in
    let most = c.args.most in
    let h : i < length bs = omega arith in
    let product : n * c.from.result ≡ n * radix = ap (λ k. n * k) c.from.ensures in
    let e : min m r ≡ min m (n * radix + d) = omega arith in
    let cut = cut_after (digit_in radix) radix m r (n * radix + d) (drop (i + 1) bs) (omega arith) e in
    let more = after_more (digit_in radix) radix n bs i d h c.in_ok-digit.ensures in
    let past = past_limit (digit_in radix) radix m most r (drop (i + 1) bs) (omega arith) (omega arith) (omega arith) in
    sym past ∙ ap (λ o. and_then o (at_most most)) (cut ∙ ap (option_map (min m)) more ∙ c.loop-b.invariant.2)
