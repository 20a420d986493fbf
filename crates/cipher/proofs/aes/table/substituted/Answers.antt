use Rattle.std.proofs.Common.{refl, rules}
use Rattle.cipher.specs.Aes.{sbox}
use Rattle.cipher.proofs.Sboxes.{sbox_affine}
use Rattle.cipher.proofs.aes.table.substituted.Goals as goal

pub returns : goal.returns
unfolding sbox
returns c = record { value = refl; affine = sbox_affine c.args.x (search rules) }
