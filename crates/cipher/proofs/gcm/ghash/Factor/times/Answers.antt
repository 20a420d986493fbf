use Rattle.std.proofs.Common.{◌≡◌, ◌+◌, ◌*◌, ◌/◌, ◌%◌, ◌^◌, get_or, sym, ap, ◌∙◌, ap₂, arith}
use lib.Bits.{bit_xor}
use Rattle.cipher.specs.Horner.{times_x8, horner}
use Rattle.cipher.proofs.Horners.{horner_none, horner_byte, byte_of, times_is}
use Rattle.cipher.proofs.gcm.ghash.Factor.times.Goals as goal

pub loop-b-init : goal.loop-b-init
loop-b-init c = sym (horner_none c.args.x c.args.self.now.value)

pub loop-b-preserved : goal.loop-b-preserved
loop-b-preserved c =
    let s = c.args.self.now in
    let x = c.args.x in
    let i = c.loop-b.b-index in
    let bytes = c.to_le_bytes-b-items in
    let b = get_or bytes.result i 0 in
    let e : x / 2 ^ (8 * i) % 256 ≡ b = sym (ap (λ l. get_or l i 0) bytes.ensures ∙ byte_of x i c.loop-b-test.true) in
    ap₂ bit_xor (c.shifted8.ensures ∙ ap times_x8 c.loop-b.invariant) (ap₂ bit_xor (s.low_made (b % 16) (omega arith)) (s.high_made (b / 16) (omega arith)))
    ∙ sym (horner_byte x s.value (8 * i) b (8 * (i + 1)) (omega arith) e)

pub returns : goal.returns
returns c =
    let y = c.args.self.now.value in
    let e : 8 * c.loop-b.b-index ≡ 128 = omega arith in
    c.loop-b.invariant ∙ ap (horner c.args.x y) e ∙ sym (times_is c.args.x y)
