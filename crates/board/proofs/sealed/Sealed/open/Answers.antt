use Rattle.std.proofs.Common.{refl, ◌∙◌, ap₂, arith}
use Rattle.fault.specs.Checks.{then}
use Rattle.fault.specs.declared.Fault.TheVariants.{BadIv}
use Rattle.cipher.specs.Cipher.{iv_checked, opened_to, opening, yielded}
use Rattle.rules.specs.Packets.{iv_of, body_of}
use Rattle.board.proofs.Opening.{count_is, front}
use Rattle.board.proofs.sealed.Sealed.open.Goals as goal

pub returns : goal.returns
returns g c =
    let C = g.C.PacketCipher.cipher in
    let k = c.args.key.now in
    let core = c.args.self.core.buffer in
    let iv = iv_of core in
    let o = C.opened k iv (body_of core) in
    let answer = c.open.ensures.answer ∙ ap₂ (λ i b. then (iv_checked C i) (opening (C.opened k i b))) c.parts.ensures.iv c.parts.ensures.body in
    let left = c.open.ensures.work ∙ ap₂ (λ i b. yielded (opened_to C k i b)) c.parts.ensures.iv c.parts.ensures.body in
    record {
      value = front (C.well_formed iv) (BadIv (C.first_wrong iv)) o _ _ answer left;
      long = count_is C g.met.C.PacketCipher.lawful k core c.told-key (omega (arith, c.requires, c.args.self.sized)) (iv_checked C iv) refl o refl _ answer;
    }
