-- The number that was read is not above the limit, and so fits in 32 bits.
use Rattle.std.proofs.Common.{◌-◌, ◌^◌, ap, ◌∙◌, arith}
use Rattle.text.specs.Decimal.{decimal_read}
use Rattle.text.proofs.Numerals.{decimal_is, fits_32}
use Rattle.text.proofs.decimal.decimal.Goals as goal

pub returns-in_err-value : goal.returns-in_err-value
returns-in_err-value c =
    c.from_residual.ensures ∙ c.in_err-value.ensures ∙ decimal_is (2 ^ 64 - 1) c.from.result c.args.text.now (omega arith)
    ∙ ap (λ k. decimal_read k c.args.text.now) c.from.ensures

pub returns : goal.returns
returns c =
    let read = decimal_is (2 ^ 64 - 1) c.from.result c.args.text.now (omega arith) in
    c.ok.ensures.value ∙ fits_32 c.from.result c.in_ok-value.value _ c.try_from.result (omega arith) c.in_ok-value.ensures c.try_from.ensures
    ∙ c.in_ok-value.ensures ∙ read ∙ ap (λ k. decimal_read k c.args.text.now) c.from.ensures
