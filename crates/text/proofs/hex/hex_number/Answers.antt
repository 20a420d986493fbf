use Rattle.std.proofs.Common.{◌-◌, ◌^◌, ◌∙◌, Some, None, ap, sym}
use Rattle.text.proofs.Numerals.{hex_number_is, limit_all, or_most}
use Rattle.text.proofs.hex.hex_number.Goals as goal

pub returns-in_err-value : goal.returns-in_err-value
returns-in_err-value c =
    let h = c.in_ok-digits.ensures.cases in
    c.from_residual-in_err-value.ensures ∙ sym (hex_number_is c.args.text.now c.in_ok-digits.digits.now h.0 h.1 None (c.in_err-value.ensures ∙ limit_all (2 ^ 64 - 1) _))

pub returns : goal.returns
returns c =
    let h = c.in_ok-digits.ensures.cases in
    let v = c.in_ok-value.value in
    ap (λ n. Some n) (c.unwrap_or.ensures ∙ or_most c.try_from.result v c.try_from.ensures)
    ∙ sym (hex_number_is c.args.text.now c.in_ok-digits.digits.now h.0 h.1 (Some v) (c.in_ok-value.ensures ∙ limit_all (2 ^ 64 - 1) _))
