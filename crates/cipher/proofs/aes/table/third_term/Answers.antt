use Rattle.std.proofs.Common.{refl, rules}
use Rattle.cipher.specs.Aes.{sbox, third_term}
use Rattle.cipher.proofs.Tables.{rule, made}
use Rattle.cipher.proofs.aes.table.third_term.Goals as goal

pub returns : goal.returns
unfolding sbox
returns c = rule third_term (made third_term) refl refl c.args.x (search rules)
