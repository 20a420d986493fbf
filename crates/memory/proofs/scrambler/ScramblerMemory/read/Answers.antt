use Rattle.std.proofs.Common.{Ok, sym, ap, ◌∙◌}
use lib.Bits.{bit_xor}
use Rattle.memory.specs.Scrambled.{mask}
use Rattle.memory.proofs.Exits.{passed_on}
use Rattle.memory.proofs.Through.{read_clear, under}
use Rattle.memory.proofs.scrambler.ScramblerMemory.read.Goals as goal

pub returns-in_err-kept-clause-value : goal.returns-in_err-kept-clause-value
returns-in_err-kept-clause-value g c =
    let f = c.args.self.now.fixed in
    let a = c.args.address in
    let m = g.M.Memory.meaning c.args.self.now.below in
    let e = c.read.ensures in
    let r = ap (under (λ b. bit_xor b (mask f a))) (sym c.in_err-kept.was ∙ e.value) in
    passed_on _ _ c.from_residual.ensures.1 ∙ r ∙ read_clear f a m.contents (g.M.Memory.long c.args.self.now.below)

pub returns-clause-value : goal.returns-clause-value
returns-clause-value g c =
    let f = c.args.self.now.fixed in
    let a = c.args.address in
    let m = g.M.Memory.meaning c.args.self.now.below in
    let e = c.read.ensures in
    let r = ap (under (λ b. bit_xor b (mask f a))) (sym c.in_ok-kept.was ∙ e.value) in
    ap (λ k. Ok (bit_xor c.in_ok-kept.kept k)) c.mask_at.ensures ∙ r ∙ read_clear f a m.contents (g.M.Memory.long c.args.self.now.below)
