use Rattle.std.proofs.Common.{sym, ap, ◌∙◌}
use Rattle.cipher.specs.Gcm.{gcm_mac, gcm_stream}
use Rattle.cipher.specs.Sealing.{xor_from}
use Rattle.cipher.specs.Schemes.{xor_from_twice}
use Rattle.cipher.proofs.gcm.GcmMode.decrypt.Goals as goal

pub returns-clause-tag : goal.returns-clause-tag
returns-clause-tag g c =
    let E = g.B.BlockCipher.block c.args.session.now.key in
    let iv = c.args.session.now.iv in
    let s = gcm_stream E iv in
    let xs = c.args.covered.now in
    c.mac_of.ensures ∙ ap (gcm_mac E iv) (sym (xor_from_twice s 0 xs)) ∙ ap (λ t. gcm_mac E iv (xor_from s 0 t)) (sym (c.add_key_stream.ensures ∙ ap (xor_from s 0) c.copy_from_slice.ensures.after))
