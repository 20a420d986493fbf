use Rattle.std.proofs.Common.{◌≡◌, ◌+◌, ◌-◌, ◌∷◌, ◌++◌, length, take, drop, set, ap, ◌∙◌, arith, length-drop, length-take}
use borrow.Rule.Slice.PartMut.{put_mid}
use Rattle.wire.specs.Frame.{frame, over}
use Rattle.packer.proofs.Packs.{inside, enclosed}
use Rattle.packer.proofs.pack.sealed_frame.Goals as goal

pub returns-clause-out : goal.returns-clause-out
returns-clause-out g c =
    let out = c.args.out.now in
    let iv = c.args.iv.now in
    let n = c.args.n in
    let command = c.args.command in
    let li : length iv ≡ 16 = c.told-iv in
    let ln : length (take n (drop 20 out)) ≡ n = simp (length-take, length-drop) (omega arith) in
    let k = 36 + n - 20 in
    let ek : k ≡ 16 + n = omega arith in
    let ei : c.copy_from_slice.new.self ≡ iv = c.copy_from_slice.ensures.after in
    let body = c.seal.new.out in
    let after = put_mid 20 k (put_mid 4 16 (set out 3 command) c.copy_from_slice.new.self) body in
    let ea : after ≡ put_mid 20 k (put_mid 4 16 (set out 3 command) iv) body = ap (λ x. put_mid 20 k (put_mid 4 16 (set out 3 command) x) body) ei in
    let es : body ≡ g.C.PacketCipher.cipher.seal c.args.key.now iv (take n (drop 20 out)) =
    c.seal.ensures ∙ ap (g.C.PacketCipher.cipher.seal c.args.key.now iv)
    (ap (λ x. take (length (take k (drop 20 (put_mid 4 16 (set out 3 command) x))) - 16) (take k (drop 20 (put_mid 4 16 (set out 3 command) x)))) ei
    ∙ inside out iv command n li c.requires.short c.requires.room k ek) in
    let lb : length body ≡ 16 + n =
    ap length es ∙ g.met.C.PacketCipher.lawful.longer c.args.key.now iv (take n (drop 20 out)) (c.told-key, li, c.requires.formed) (omega (arith, ln)) ∙ omega (arith, ln) in
    c.enclose.ensures.out ∙ enclosed out iv command n li c.requires.short c.requires.room body after k ek lb ea ∙ ap (λ b. over (frame (command ∷ (iv ++ b))) out) es
