use Rattle.std.proofs.Common.{refl, rules}
use Rattle.cipher.specs.Aes.{sbox, first_term}
use Rattle.cipher.proofs.Tables.{rule, made}
use Rattle.cipher.proofs.aes.table.term.Goals as goal

pub returns : goal.returns
unfolding sbox
returns c = rule first_term (made first_term) refl refl c.args.x (search rules)
