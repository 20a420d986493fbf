use Rattle.std.proofs.Common.{refl}
use Rattle.memory.specs.Areas.{all_areas, place}
use Rattle.memory.specs.Lent.{lent_meaning}
use Rattle.memory.specs.Meaning.Step.{set_vector}
use Rattle.memory.proofs.Exits.{passed_on}
use Rattle.memory.proofs.OneStep.{spend_dark, spend_made}
use Rattle.memory.proofs.lent.lending.LentImageMemory.set_vector.Goals as goal

pub returns-in_err-spend : goal.returns-in_err-spend
returns-in_err-spend c =
    spend_dark (set_vector c.args.low c.args.high) (lent_meaning c.args.self.now) _ _ _ (passed_on _ _ c.from_residual.ensures.1) refl
    c.in_err-spend.ensures

pub returns : goal.returns
unfolding place all_areas
returns c = spend_made (set_vector c.args.low c.args.high) (lent_meaning c.args.self.now) _ _ refl refl c.in_ok-spend.ensures
