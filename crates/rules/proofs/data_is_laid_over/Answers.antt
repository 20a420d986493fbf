use Rattle.rules.proofs.Laying
use Rattle.rules.proofs.data_is_laid_over.Goals as goal

pub returns : goal.returns
returns c = Laying.data_is_laid
