use Rattle.std.proofs.Common.{ap, ◌∙◌}
use Rattle.cipher.specs.Gcm.{gcm_mac}
use Rattle.cipher.proofs.gcm.GcmMode.encrypt.Goals as goal

pub returns-clause-tag : goal.returns-clause-tag
returns-clause-tag g c = c.mac_of.ensures ∙ ap (gcm_mac (g.B.BlockCipher.block c.args.session.now.key) c.args.session.now.iv) c.add_key_stream.ensures
