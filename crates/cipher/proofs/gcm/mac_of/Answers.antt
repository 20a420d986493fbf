use Rattle.std.proofs.Common.{◌≡◌, ap, ◌∙◌, ap₂}
use Rattle.cipher.specs.Bytes.{xors}
use Rattle.cipher.specs.Ghash.{number, block_bytes, ghash}
use Rattle.cipher.proofs.gcm.mac_of.Goals as goal

pub returns : goal.returns
returns g c =
    let E = g.B.BlockCipher.block c.args.session.now.key in
    let xs = c.args.covered.now in
    let h = c.new-factor.ensures ∙ c.from_be_bytes.ensures ∙ ap number c.encrypt.ensures in
    let s : c.ghash.result ≡ ghash c.new-factor.result.value xs = c.ghash.ensures in
    c.mask.ensures ∙ ap₂ (λ x iv. xors x (E iv)) (c.to_be_bytes-x.ensures ∙ ap block_bytes (s ∙ ap (λ n. ghash n xs) h)) c.iv.ensures
