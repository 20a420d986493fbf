use Rattle.std.proofs.Common.{refl}
use Rattle.memory.specs.Lent.{lent_meaning}
use Rattle.memory.specs.Meaning.Step.{set_version}
use Rattle.memory.proofs.Exits.{passed_on}
use Rattle.memory.proofs.OneStep.{spend_dark, spend_made}
use Rattle.memory.proofs.lent.lending.LentImageMemory.set_version.Goals as goal

pub returns-in_err-spend : goal.returns-in_err-spend
returns-in_err-spend c =
    spend_dark (set_version c.args.number c.args.unfinished) (lent_meaning c.args.self.now) _ _ _ (passed_on _ _ c.from_residual.ensures.1) refl
    c.in_err-spend.ensures

pub returns : goal.returns
returns c = spend_made (set_version c.args.number c.args.unfinished) (lent_meaning c.args.self.now) _ _ refl refl c.in_ok-spend.ensures
