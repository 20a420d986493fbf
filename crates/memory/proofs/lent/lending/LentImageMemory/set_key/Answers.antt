use Rattle.std.proofs.Common.{refl, ap}
use Rattle.memory.specs.Lent.{lent_meaning}
use Rattle.memory.specs.Meaning.{with_held}
use Rattle.memory.specs.Meaning.Step.{set_key}
use Rattle.memory.proofs.Exits.{passed_on}
use Rattle.memory.proofs.OneStep.{spend_dark, spend_made}
use Rattle.memory.proofs.lent.lending.LentImageMemory.set_key.Goals as goal

pub returns-in_err-spend : goal.returns-in_err-spend
returns-in_err-spend c =
    spend_dark (set_key c.args.slot c.args.«record») (lent_meaning c.args.self.now) _ _ _ (passed_on _ _ c.from_residual.ensures.1) refl
    c.in_err-spend.ensures

pub returns : goal.returns
returns c =
    let m = lent_meaning c.args.self.now in
    spend_made (set_key c.args.slot c.args.«record») m _ _ (ap (λ h. with_held h m.contents) c.put_key.ensures.after) refl
    c.in_ok-spend.ensures
