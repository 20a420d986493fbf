use Rattle.rules.proofs.Refusing
use Rattle.rules.proofs.each_call_has_its_refusals.Goals as goal

pub returns : goal.returns
returns c = record { bounded = Refusing.each_call_has_its_refusals; spent = Refusing.dark_when_spent }
