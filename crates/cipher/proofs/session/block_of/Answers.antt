use Rattle.std.proofs.Common.{◌++◌, length, ◌∙◌, ap₂}
use Rattle.std.proofs.lemmas.List.{drop-replicate}
use Rattle.cipher.proofs.Streams.{whole_block}
use Rattle.cipher.proofs.session.block_of.Goals as goal

pub returns-in-Some : goal.returns-in-Some
returns-in-Some c = c.in-Some.ensures.cases.same ∙ whole_block c.args.bytes.now c.requires c.in-Some.ensures.cases.enough

pub returns : goal.returns
returns c = ap₂ ◌++◌ c.copy_from_slice.ensures.after (drop-replicate (length c.args.bytes.now) 16 0)
