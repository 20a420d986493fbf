use Rattle.std.proofs.Common.{◌/◌, ◌%◌, ◌^◌, eqb, sym, ap, ◌∙◌}
use Rattle.cipher.specs.Ghash.{times_x}
use Rattle.cipher.specs.Horner.{added}
use Rattle.cipher.proofs.Horners.{horner_none, horner_next}
use Rattle.cipher.proofs.gcm.ghash.small_product.Goals as goal

pub loop-i-init : goal.loop-i-init
loop-i-init c = sym (horner_none c.args.t c.args.y)

pub loop-i-preserved : goal.loop-i-preserved
loop-i-preserved c =
    let t = c.args.t in
    let y = c.args.y in
    let i = c.loop-i.i in
    c.added_if-w.ensures ∙ ap (λ w. added (eqb (t / 2 ^ i % 2) 1) w y) (c.shifted.ensures ∙ ap times_x c.loop-i.invariant) ∙ sym (horner_next t y i)
