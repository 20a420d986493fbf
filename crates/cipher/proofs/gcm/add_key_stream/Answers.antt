use Rattle.std.proofs.Common.{◌∙◌}
use Rattle.cipher.specs.Gcms.{same_stream}
use Rattle.cipher.proofs.gcm.add_key_stream.Goals as goal

pub returns : goal.returns
returns g c =
    c.add_stream.ensures
    ∙ same_stream (g.B.BlockCipher.block c.args.session.now.key) c.args.session.now.iv c.requires.formed c.args.data.now c.requires.short
