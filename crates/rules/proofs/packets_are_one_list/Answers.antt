use Rattle.rules.proofs.Laws
use Rattle.rules.proofs.packets_are_one_list.Goals as goal

pub returns : goal.returns
returns c = Laws.packets_are_one_list
