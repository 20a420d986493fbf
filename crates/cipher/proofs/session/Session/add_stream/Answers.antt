use Rattle.std.proofs.Common.{◌≡◌, ℕ, ◌+◌, ◌-◌, ◌*◌, ◌<◌, min, ◌++◌, length, take, drop, ap, ◌∙◌, arith, rules}
use Rattle.cipher.specs.Bytes.{xors}
use Rattle.cipher.specs.Blocks.{counter}
use Rattle.cipher.specs.Sessions.{Setup}
use Rattle.cipher.proofs.Streams.{stream_more}
use Rattle.cipher.proofs.session.Session.add_stream.Goals as goal

pub loop-i-preserved : goal.loop-i-preserved
loop-i-preserved g c =
    let E = g.B.BlockCipher.block c.args.self.now.key in
    let f = λ (n : ℕ). E (counter c.args.self.now.iv n) in
    let i = c.loop-i.i in
    let m = c.min-to.result - 16 * i in
    let xs = c.loop-i.data in
    let pad = c.encrypt.new.data in
    let e : pad ≡ f (c.args.first + i) =
    c.encrypt.ensures ∙ ap (g.B.BlockCipher.block (g.B.BlockCipher.keyed c.self.inside.cipher)) c.counter_block-pad.ensures
    ∙ ap (λ (u : Setup). g.B.BlockCipher.block u.key (counter u.iv (c.args.first + i))) c.self.view_is in
    let w : c.add_into.new.part ≡ xors (take m (drop (16 * i) xs)) pad = c.add_into.ensures in
    let h : 16 * i < length c.args.data.now = omega arith in
    let em : m ≡ min 16 (length c.args.data.now - 16 * i) = omega arith in
    ap (λ p. take (16 * i) xs ++ (p ++ drop m (drop (16 * i) xs))) w
    ∙ stream_more f c.args.first i m c.args.data.now xs pad h em (search rules) e c.loop-i.invariant
